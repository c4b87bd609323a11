-- Before turn y what is seen is gathered from all records below y.
use Rattle.records.specs.GroupLaws.{Gathered}
use Rattle.records.proofs.Seen.with_group.Given as goal

abbrev pub invariant-loop-y : goal.invariant-loop-y
invariant-loop-y l = Gathered l.bytes l.y l.next
