use Rattle.decisions.specs.DecisionLaws.{passed, failed, done, refused}
use Rattle.creation.specs.CreationLaws.{execute_told, execute_fits}
use Rattle.creation.proofs.execute.Goals as goal

pub execute-requires : goal.execute-requires
execute-requires c = execute_fits _ _ c.requires.0 c.requires.2 _ _ _ _ _ c.execute-judged.ensures (passed c.is_done.ensures c.if-is_done.true)

pub returns-then-is_done : goal.returns-then-is_done
returns-then-is_done c = done (execute_told _ _ _ _ _ _ _) c.execute-judged.ensures (passed c.is_done.ensures c.if-is_done.true) c.execute.ensures

pub returns-else-is_done : goal.returns-else-is_done
returns-else-is_done c = refused (execute_told _ _ _ _ _ _ _) c.execute-judged.ensures (failed c.is_done.ensures c.if-is_done.false)
