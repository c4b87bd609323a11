use Rattle.decisions.specs.FactLaws.{level_has_row, read_has_row}
use Rattle.decisions.proofs.facts.level_rows.Goals as goal

pub rows_of-requires : goal.rows_of-requires
rows_of-requires c = (
  simp (c.from.ensures, c.field-level.ensures) (level_has_row _ _ c.requires c.args.x),
  simp (c.from-2.ensures, c.field-read.ensures) (read_has_row _ _ c.requires c.args.x),
)
