use Rattle.decisions.specs.FactLaws.{read_has_row}
use Rattle.decisions.proofs.facts.read_row.Goals as goal

pub row_of-requires : goal.row_of-requires
row_of-requires c = simp (c.from.ensures, c.field-a.ensures) (read_has_row _ _ c.requires c.args.x)
