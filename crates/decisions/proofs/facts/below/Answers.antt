use Rattle.decisions.specs.FactLaws.{row_tells}
use Rattle.decisions.proofs.facts.below.Goals as goal

pub returns : goal.returns
returns c = row_tells _ _ c.requires _ _ c.level_row-row.ensures c.reaches.ensures
