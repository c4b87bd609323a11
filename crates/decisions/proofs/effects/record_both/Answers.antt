use Rattle.std.proofs.Common.{refl}
use Rattle.model.specs.Effects.{effect, effects}
use Rattle.decisions.proofs.effects.record_both.Goals as goal

pub returns : goal.returns
unfolding effect effects
returns c = λ bs. simp (c.add_if-2.ensures, c.add_if.ensures) refl
