use Rattle.std.proofs.Common.{refl}
use Rattle.decisions.specs.Facts.{both_write}
use Rattle.decisions.proofs.facts.View.both_write.Goals as goal

pub returns : goal.returns
unfolding both_write
returns c = simp (c.writes-2.ensures, c.writes.ensures) refl
