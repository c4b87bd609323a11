use Rattle.std.proofs.Common.{refl, ◌∙◌}
use Rattle.model.specs.Effects.{effect}
use Rattle.decisions.specs.DecisionLaws.{bytes_first}
use Rattle.creation.specs.CreationLaws.{spare_zero}
use Rattle.creation.proofs.effects.create.Goals as goal

pub returns : goal.returns
unfolding effect
returns c p e = bytes_first _ _ _ (c.set_record.ensures ∙ rw (e, spare_zero p)) refl c.record_both.ensures
