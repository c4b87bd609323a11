use Rattle.calls.proofs.Loads.{whole_done, whole_refused}
use Rattle.decisions.specs.DecisionLaws.{passed, failed}
use Rattle.calls.proofs.make.Goals as goal

pub returns-then-not-is_done : goal.returns-then-not-is_done
returns-then-not-is_done g c = whole_refused c.args.order.now c.lay_out-verdict.ensures (failed c.is_done.ensures c.if-not-is_done.true) _ c.set_up.ensures

pub returns-else-not-is_done : goal.returns-else-not-is_done
returns-else-not-is_done g c = whole_done c.args.order.now c.lay_out-verdict.ensures (passed c.is_done.ensures c.if-not-is_done.false)
