-- Before each turn the levels of the set that are not left are covered.
use Rattle.std.proofs.Common.{arith, rules}
use Rattle.std.proofs.lemmas.Bool.{eq-eqb, ne_eqb}
use Rattle.bits.specs.BitLaws.{one_shl}
use Rattle.levels.specs.OrderRows.{within}
use Rattle.levels.specs.OrderRowsLaws.{passed_all, passed_fails, passed_over, highest_in, without_highest}
use Rattle.levels.proofs.Order.rest_closed.Goals as goal

pub returns-then-row-set : goal.returns-then-row-set
unfolding within
returns-then-row-set c =
    let l = c.loop-left in
    let b = c.ilog2-b.ensures in
    passed_fails _ _ _ l.invariant _ (highest_in _ _ _ l.invariant _ b.power_le b.next_power_gt) (ne_eqb _ _ c.if-row-set.true)

pub overflow_sub-left : goal.overflow_sub-left
overflow_sub-left c = rw (one_shl 16 c.ilog2-b.result (omega arith)) c.ilog2-b.ensures.power_le

pub loop-left-preserved : goal.loop-left-preserved
unfolding within
loop-left-preserved c =
    let l = c.loop-left in
    let b = c.ilog2-b.ensures in
    let e = eq-eqb _ _ c.if-row-set.false in
    rw (one_shl 16 c.ilog2-b.result (omega arith))
    (passed_over _ _ _ (without_highest _ _ _ l.invariant _ b.power_le b.next_power_gt e) _ (l.invariant.of_w _ (highest_in _ _ _ l.invariant _ b.power_le b.next_power_gt)) (search rules) e)

pub returns : goal.returns
returns c = passed_all _ _ (rw c.loop-left-test.false at c.loop-left.invariant)
