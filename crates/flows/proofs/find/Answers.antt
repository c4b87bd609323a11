use Rattle.decisions.specs.DecisionLaws.{passed, failed, done, refused}
use Rattle.flows.specs.FlowLaws.{find_told}
use Rattle.flows.proofs.find.Goals as goal

pub returns-then-is_done : goal.returns-then-is_done
returns-then-is_done c = done (find_told _ _ _ _ _) c.find-judged.ensures (passed c.is_done.ensures c.if-is_done.true) (c.record_first.ensures _)

pub returns-else-is_done : goal.returns-else-is_done
returns-else-is_done c = refused (find_told _ _ _ _ _) c.find-judged.ensures (failed c.is_done.ensures c.if-is_done.false)
