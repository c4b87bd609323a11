use Rattle.model.specs.Effects.{effect, effects}
use Rattle.decisions.proofs.effects.record_first.Goals as goal

pub returns : goal.returns
unfolding effect effects
returns c = λ bs. cc
