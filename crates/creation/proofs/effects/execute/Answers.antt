use Rattle.std.proofs.Common.{refl}
use Rattle.model.specs.Effects.{effect}
use Rattle.decisions.specs.DecisionLaws.{bytes_first}
use Rattle.creation.proofs.effects.execute.Goals as goal

pub returns : goal.returns
unfolding effect
returns c = bytes_first _ _ _ c.set_record.ensures refl c.record_first.ensures
