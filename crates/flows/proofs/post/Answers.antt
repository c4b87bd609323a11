use Rattle.model.specs.State.{task, object}
use Rattle.decisions.specs.DecisionLaws.{passed, failed, done, refused, unnamed}
use Rattle.flows.specs.FlowLaws.{post_verdict, post_told}
use Rattle.flows.proofs.post.Goals as goal

pub returns-then-not-is_task-is_object : goal.returns-then-not-is_task-is_object
unfolding task object
returns-then-not-is_task-is_object g c =
    unnamed _ _ _ _ (post_verdict _ _ c.requires.0 _ _ _)
    (simp (c.is_task-2.ensures, c.is_object.ensures, c.is_task.ensures) at c.if-not-is_task-is_object.true)

pub returns-then-is_done : goal.returns-then-is_done
returns-then-is_done g c = done (post_told _ _ _ _ _) c.post-judged.ensures (passed c.is_done.ensures c.if-is_done.true) (c.record_first.ensures _)

pub returns-else-is_done : goal.returns-else-is_done
returns-else-is_done g c = refused (post_told _ _ _ _ _) c.post-judged.ensures (failed c.is_done.ensures c.if-is_done.false)
