use Rattle.std.proofs.Common.{refl}
use Rattle.model.specs.State.{task, in_use, has_flow}
use Rattle.flows.specs.FlowLaws.{find_is}
use Rattle.flows.proofs.judge.find.Goals as goal

pub returns : goal.returns
unfolding task in_use has_flow
returns c =
    find_is _ _ _ _ _ c.unless-2.ensures
    (simp (c.in_use.ensures, c.is_task-2.ensures, c.is_task.ensures) refl)
    (simp (c.unless-row.ensures, c.unless.ensures, c.has_flow-2.ensures, c.has_flow.ensures) refl)
