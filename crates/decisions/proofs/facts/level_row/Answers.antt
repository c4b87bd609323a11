use Rattle.decisions.specs.FactLaws.{level_has_row}
use Rattle.decisions.proofs.facts.level_row.Goals as goal

pub row_of-requires : goal.row_of-requires
row_of-requires c = simp (c.from.ensures, c.field-a.ensures) (level_has_row _ _ c.requires c.args.x)
