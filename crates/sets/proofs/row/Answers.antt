use Rattle.bits.specs.WordsLaws.{Fit}
use Rattle.sets.specs.SetLaws.{fits, set_is, has_row}
use Rattle.sets.proofs.row.Goals as goal

pub returns : goal.returns
returns c =
    let a = c.args in
    let table : Fit a.words.now = record { word = λ j. (c.type_inv.words j).fits } in
    set_is _ _ (fits (table.word _) (table.word _)) (λ y l. has_row a.words.now a.x y l)
