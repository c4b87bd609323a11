use Rattle.levels.specs.OrderRows.{Passed}
use Rattle.levels.proofs.Order.rest_closed.Given as goal

abbrev pub invariant-loop-left : goal.invariant-loop-left
invariant-loop-left l = Passed l.self.rows l.set l.left

abbrev pub decreases-loop-left : goal.decreases-loop-left
decreases-loop-left l = l.left
