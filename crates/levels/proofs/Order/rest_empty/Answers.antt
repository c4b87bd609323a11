use Rattle.std.proofs.Common.{◌≡◌, arith}
use Rattle.levels.specs.OrderRows.{rest_empty}
use Rattle.levels.proofs.Order.rest_empty.Goals as goal

pub returns : goal.returns
unfolding rest_empty
returns c = let e : c.loop-k.k ≡ 16 = omega arith in rw e at c.loop-k.invariant
