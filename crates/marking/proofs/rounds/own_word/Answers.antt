use Rattle.std.proofs.Common.{Bool, ◌||◌, List, ℕ, sym, ap, ◌∙◌, arith, rules}
use Rattle.rows.specs.Size.{row_size, numbers}
use Rattle.rows.specs.Rows.{cell}
use Rattle.sets.specs.Sets.{in_word}
use Rattle.sets.specs.SetLaws.{word_within}
use Rattle.sets.specs.WalkLaws.{some_of}
use Rattle.sets.specs.NumbersLaws.{some_taken, some_end}
use Rattle.marking.specs.Rounds.{puts}
use Rattle.marking.specs.OwnedLaws.{own_cell}
use Rattle.marking.proofs.rounds.own_word.Goals as goal

pub loop-x-preserved : goal.loop-x-preserved
loop-x-preserved c d y b =
    let l = c.loop-x in
    let s = l.x-iterator in
    let t = c.next.new.self in
    let bs = c.args.bytes.now in
    let x = c.in-Some.x in
    let k = c.in-Some.ensures.steps in
    ap (λ (q : Bool). q || some_of numbers (puts row_size bs d y) (in_word t.rest t.first))
    (ap (λ (v : List ℕ). cell row_size v d y) c.own_row.ensures ∙ own_cell row_size bs l.owned x d y (c.requires.1 x) (search rules) (omega (arith, k.0)) b)
    ∙ some_taken (in_word s.rest s.first) (in_word t.rest t.first) x k (puts row_size bs d y) (cell row_size l.owned d y) ∙ l.invariant d y b

pub returns : goal.returns
returns c =
    let l = c.loop-x in
    let s = l.x-iterator in (
      λ d y b. sym (some_end (in_word s.rest s.first) c.in-None.ensures.steps (puts row_size c.args.bytes.now d y) (cell row_size l.owned d y)) ∙ l.invariant d y b,
      word_within _ _ (search rules) c.requires.2,
    )
