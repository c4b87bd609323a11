use Rattle.std.proofs.Common.{refl}
use Rattle.model.specs.State.{lengths_fit}
use Rattle.calls.proofs.lengths_fit.Goals as goal

pub returns : goal.returns
unfolding lengths_fit
returns c = refl
