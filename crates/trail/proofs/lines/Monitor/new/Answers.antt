use Rattle.std.proofs.Common.{refl}
use Rattle.model.specs.Tallies.{zeroed}
use Rattle.tallies.specs.Counts.{records_in}
use Rattle.trail.specs.Script.{zeros}
use Rattle.trail.proofs.lines.Monitor.new.Goals as goal

pub returns : goal.returns
unfolding zeros zeroed records_in
returns c = (refl, refl, refl)
