use Rattle.std.proofs.Common.{◌≡◌, ◌||◌, get_or, ltb, eqb}
use Rattle.bits.specs.All.{all_b}
use Rattle.levels.proofs.Order.rest_empty.Given as goal

abbrev pub invariant-loop-k : goal.invariant-loop-k
invariant-loop-k l = eqb l.any 0 ≡ all_b l.k (λ a. ltb a l.self.count || eqb (get_or l.self.rows a 0) 0)
