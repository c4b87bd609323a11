use Rattle.decisions.specs.DecisionLaws.{passed, failed, done, refused}
use Rattle.events.specs.EventLaws.{move_told, move_fits}
use Rattle.events.proofs.move_object.Goals as goal

pub move_object-requires : goal.move_object-requires
move_object-requires g c = move_fits _ _ c.requires.0 _ _ _ _ _ c.move_object-judged.ensures (passed c.is_done.ensures c.if-is_done.true)

pub returns-then-is_done : goal.returns-then-is_done
returns-then-is_done g c = done (move_told _ _ _ _ _ _ _) c.move_object-judged.ensures (passed c.is_done.ensures c.if-is_done.true) c.move_object.ensures

pub returns-else-is_done : goal.returns-else-is_done
returns-else-is_done g c = refused (move_told _ _ _ _ _ _ _) c.move_object-judged.ensures (failed c.is_done.ensures c.if-is_done.false)
