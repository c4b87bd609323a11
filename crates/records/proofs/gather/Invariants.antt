-- Before turn x what is seen is gathered from all records below x.
use Rattle.std.proofs.Common.{◌≡◌, ◌-◌, ◌%◌, ◌≤◌}
use Rattle.rows.specs.Size.{numbers}
use Rattle.records.specs.GroupLaws.{group_size, Gathered}
use Rattle.records.proofs.gather.Given as goal

abbrev pub invariant-loop-x : goal.invariant-loop-x
invariant-loop-x l = (l.x ≤ numbers) × (l.x % group_size ≡ 0) × Gathered l.bytes l.x l.seen

abbrev pub decreases-loop-x : goal.decreases-loop-x
decreases-loop-x l = numbers - l.x
