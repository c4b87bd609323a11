use Rattle.std.proofs.Common.{refl}
use Rattle.model.specs.Effects.{effect, effects}
use Rattle.events.proofs.effects.write.Goals as goal

pub returns : goal.returns
unfolding effect effects
returns c = λ bs. simp (c.record_both.ensures bs, c.add_access.ensures) refl
