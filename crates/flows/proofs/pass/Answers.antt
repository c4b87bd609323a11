use Rattle.model.specs.State.{task, object, in_use}
use Rattle.decisions.specs.DecisionLaws.{passed, failed, done, refused, unnamed}
use Rattle.flows.specs.FlowLaws.{pass_verdict, pass_told}
use Rattle.flows.proofs.pass.Goals as goal

pub returns-then-not-is_task-is_object : goal.returns-then-not-is_task-is_object
unfolding task object in_use
returns-then-not-is_task-is_object g c =
    unnamed _ _ _ _ (pass_verdict _ _ c.requires.0 _ _ _)
    (simp (c.in_use.ensures, c.is_object.ensures, c.is_task.ensures) at c.if-not-is_task-is_object.true)

pub returns-then-is_done : goal.returns-then-is_done
returns-then-is_done g c = done (pass_told _ _ _ _ _) c.pass-judged.ensures (passed c.is_done.ensures c.if-is_done.true) (c.record_first.ensures _)

pub returns-else-is_done : goal.returns-else-is_done
returns-else-is_done g c = refused (pass_told _ _ _ _ _) c.pass-judged.ensures (failed c.is_done.ensures c.if-is_done.false)
