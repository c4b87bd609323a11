use Rattle.decisions.specs.FactLaws.{level_has_row}
use Rattle.decisions.proofs.facts.reaches.Goals as goal

pub in_row-requires : goal.in_row-requires
in_row-requires c = simp (c.from.ensures, c.field-b.ensures) (level_has_row _ _ c.requires c.args.y)
