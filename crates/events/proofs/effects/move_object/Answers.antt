use Rattle.std.proofs.Common.{refl}
use Rattle.model.specs.Effects.{effect}
use Rattle.decisions.specs.DecisionLaws.{bytes_first}
use Rattle.events.proofs.effects.move_object.Goals as goal

pub returns : goal.returns
unfolding effect
returns c = bytes_first _ _ _ c.set_field.ensures refl c.record_both.ensures
