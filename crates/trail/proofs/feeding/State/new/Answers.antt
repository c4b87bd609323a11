use Rattle.trail.specs.Script.{nothing_read}
use Rattle.trail.specs.Feeding.{nothing_fed}
use Rattle.trail.proofs.feeding.State.new.Goals as goal

pub returns : goal.returns
unfolding nothing_fed nothing_read
returns c = let m = c.new-monitor.ensures in rw (m.0, m.1, m.2, c.new-line.ensures, c.new-out.ensures)
