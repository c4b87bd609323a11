-- Before each turn the count is that of the rounds done, and the new set has the sources of the next.
-- Assumes nothing.
use Rattle.std.proofs.Common.{◌-◌}
use Rattle.rows.specs.Size.{numbers}
use Rattle.model.specs.State.{memory}
use Rattle.marking.specs.SpreadingLaws.{Spreading}
use Rattle.marking.proofs.rounds.spread_sets.Given as goal

abbrev pub invariant-loop-owned : goal.invariant-loop-owned
invariant-loop-owned l = Spreading (memory l.bytes l.words) l.count l.unmarked l.new

abbrev pub decreases-loop-owned : goal.decreases-loop-owned
decreases-loop-owned l = numbers - l.count
