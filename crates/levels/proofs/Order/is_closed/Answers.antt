use Rattle.std.proofs.Common.{arith, rules}
use Rattle.std.proofs.lemmas.Bool.{eq-eqb, ne_eqb}
use Rattle.levels.specs.OrderRows.{within}
use Rattle.levels.specs.OrderRowsLaws.{passed_none, passed_all, passed_fails, passed_over, lowest_in, without_lowest}
use Rattle.levels.proofs.Order.is_closed.Goals as goal

pub returns-then-set-eq0 : goal.returns-then-set-eq0
returns-then-set-eq0 c = rw c.if-set-eq0.true (passed_all _ 0 (passed_none _ 0 (omega arith)))

pub returns-then-row-set : goal.returns-then-row-set
unfolding within
returns-then-row-set c =
    let all = passed_none c.args.self.now.rows _ c.ranges.set.fits in
    passed_fails _ _ _ all _ (lowest_in _ _ _ all (omega arith)) (ne_eqb _ _ c.if-row-set.true)

pub rest_closed-requires : goal.rest_closed-requires
unfolding within
rest_closed-requires c =
    let all = passed_none c.args.self.now.rows _ c.ranges.set.fits in
    let e = eq-eqb _ _ c.if-row-set.false in
    passed_over _ _ _ (without_lowest _ _ _ all (omega arith) e) _ (lowest_in _ _ _ all (omega arith)) (search rules) e
