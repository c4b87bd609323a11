use Rattle.std.proofs.Common.{arith, add-one, take-suc}
use Rattle.script.specs.StoredLaws.{stored_then}
use Rattle.script.proofs.print.text.Goals as goal

pub loop-b-preserved : goal.loop-b-preserved
loop-b-preserved c = rw (add-one, take-suc c.args.bytes.now c.loop-b.b-index 0 (omega arith)) (stored_then c.loop-b.invariant c.byte-end.ensures)
