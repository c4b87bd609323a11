use Rattle.std.proofs.Common.{sym, ◌∙◌, rules}
use Rattle.sets.specs.Sets.{in_word}
use Rattle.sets.specs.SetLaws.{word_within}
use Rattle.model.specs.State.{memory}
use Rattle.marking.specs.MarksLaws.{walk_next, walk_end}
use Rattle.marking.proofs.marks.mark_word.Goals as goal

pub loop-x-preserved : goal.loop-x-preserved
loop-x-preserved c =
    let l = c.loop-x in
    let s = l.x-iterator in
    let t = c.next.new.self in (
      search rules,
      λ ws. walk_next (memory l.bytes ws) (in_word s.rest s.first) (in_word t.rest t.first) c.in-Some.x l.invariant.0 c.in-Some.ensures.steps (c.mark_one.ensures ws) ∙ l.invariant.1 ws,
    )

pub returns : goal.returns
returns c =
    let l = c.loop-x in
    let s = l.x-iterator in
    (λ ws. sym (walk_end (memory l.bytes ws) (in_word s.rest s.first) c.in-None.ensures.steps) ∙ l.invariant.1 ws, word_within _ _ (search rules) c.requires)
