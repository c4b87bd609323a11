use Rattle.trail.specs.Feeding.{emptied}
use Rattle.trail.proofs.feeding.State.empty.Goals as goal

pub returns : goal.returns
unfolding emptied
returns c = rw c.clear.ensures
