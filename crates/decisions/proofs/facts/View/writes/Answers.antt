use Rattle.decisions.specs.Facts.{writes}
use Rattle.decisions.proofs.facts.View.writes.Goals as goal

pub returns : goal.returns
unfolding writes
returns c = cc
