use Rattle.std.proofs.Common.{◌∙◌, sym}
use Rattle.model.specs.State.{task}
use Rattle.decisions.specs.DecisionLaws.{passed, failed, done, refused, unnamed}
use Rattle.flows.specs.FlowLaws.{invoke_verdict, invoke_told}
use Rattle.flows.proofs.invoke.Goals as goal

pub returns-then-not-are_tasks : goal.returns-then-not-are_tasks
unfolding task
returns-then-not-are_tasks g c = unnamed _ _ _ _ (invoke_verdict _ _ _ _) (sym c.are_tasks.ensures ∙ c.if-not-are_tasks.true)

pub returns-then-is_done : goal.returns-then-is_done
returns-then-is_done g c = done (invoke_told _ _ _ _) c.invoke-judged.ensures (passed c.is_done.ensures c.if-is_done.true) (c.record_both.ensures _)

pub returns-else-is_done : goal.returns-else-is_done
returns-else-is_done g c = refused (invoke_told _ _ _ _) c.invoke-judged.ensures (failed c.is_done.ensures c.if-is_done.false)
