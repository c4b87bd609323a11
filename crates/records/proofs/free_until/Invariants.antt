-- Before each turn the records from `from` up to x are free.
use Rattle.std.proofs.Common.{◌-◌}
use Rattle.rows.specs.Size.{numbers}
use Rattle.records.specs.GroupLaws.{FreeUntil}
use Rattle.records.proofs.free_until.Given as goal

abbrev pub invariant-loop-x : goal.invariant-loop-x
invariant-loop-x l = FreeUntil l.bytes l.from l.x

abbrev pub decreases-loop-x : goal.decreases-loop-x
decreases-loop-x l = numbers - l.x
