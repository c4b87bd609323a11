use Rattle.std.proofs.Common.{Bool, ◌||◌, ap, ◌∙◌, rules}
use Rattle.rows.specs.Size.{row_size, numbers}
use Rattle.rows.specs.Rows.{cell}
use Rattle.sets.specs.Sets.{in_word}
use Rattle.sets.specs.SetLaws.{fits, some_words}
use Rattle.sets.specs.WalkLaws.{some_of}
use Rattle.marking.specs.Rounds.{puts}
use Rattle.marking.proofs.rounds.own_rows.Goals as goal

pub returns : goal.returns
returns c d y l =
    let a = c.args in
    let p = puts row_size a.bytes.now d y in
    c.own_word-2.ensures.0 d y l
    ∙ ap (λ (b : Bool). b || some_of numbers p (in_word a.set.high 64)) (c.own_word.ensures.0 d y l)
    ∙ some_words p (cell row_size a.owned.now d y) a.set (fits (search rules) (search rules))
