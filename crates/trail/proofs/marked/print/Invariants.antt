use Rattle.std.proofs.Common.{◌-◌}
use Rattle.rows.specs.Size.{numbers}
use Rattle.trail.proofs.MarkedLaws.{UpTo}
use Rattle.trail.proofs.marked.print.Given as goal

abbrev pub invariant-loop-n : goal.invariant-loop-n
invariant-loop-n g l = UpTo l.report l.initial.out l.out l.n

abbrev pub decreases-loop-n : goal.decreases-loop-n
decreases-loop-n g l = numbers - l.n
