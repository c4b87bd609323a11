use Rattle.std.proofs.Common.{ap₂, Bool, ◌&&◌}
use Rattle.events.specs.EventLaws.{asked_small}
use Rattle.events.proofs.judge.delete_rows.Goals as goal

pub last_rows-requires : goal.last_rows-requires
last_rows-requires c =
    let named = ap₂ (λ (a b : Bool). a && b) c.are_named.ensures c.is_object.ensures in
    λ g. asked_small _ c.args.view.now.ready.0 _ _ _ _ _ named c.driven.ensures g
