use Rattle.model.specs.State.{memory}
use Rattle.events.specs.EventLaws.{deleted}
use Rattle.events.proofs.effects.delete.Goals as goal

pub returns : goal.returns
returns c = deleted (memory _ _) _ _ _ _ c.bridge.ensures c.set_record.ensures c.clear_thing.ensures c.add_if.ensures
