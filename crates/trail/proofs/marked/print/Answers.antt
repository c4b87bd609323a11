use Rattle.std.proofs.Common.{arith, ◌+◌}
use Rattle.trail.specs.Marked.{marked_text}
use Rattle.trail.proofs.MarkedLaws.{IsNext, next, none_yet, one_more_law, all_listed}
use Rattle.trail.proofs.marked.print.Goals as goal

pub loop-n-init : goal.loop-n-init
loop-n-init g c = none_yet _ (next _ 0 _ (omega arith) c.next_marked-n.ensures)

pub loop-n-smaller : goal.loop-n-smaller
loop-n-smaller g c =
    let found : IsNext c.args.report (c.loop-n.n + 1) c.next_marked-n-in-loop-n.result = next _ _ _ (omega arith) c.next_marked-n-in-loop-n.ensures in
    omega (arith, found.above)

pub loop-n-preserved : goal.loop-n-preserved
loop-n-preserved g c = one_more_law c.loop-n.invariant (omega arith) c.byte.ensures c.number.ensures (next _ _ _ (omega arith) c.next_marked-n-in-loop-n.ensures)

pub returns : goal.returns
unfolding marked_text
returns g c = all_listed c.text.ensures c.loop-n.invariant (omega arith) c.byte-2.ensures
