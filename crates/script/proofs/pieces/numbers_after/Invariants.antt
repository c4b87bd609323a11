-- At each turn the numbers so far stand in the list, and what is left of the line decides.
-- Assumes nothing.
use Rattle.std.proofs.Common.{◌≡◌, ◌-◌, ◌≤◌, length, drop}
use Rattle.script.specs.Pieces.{afterwards, numbers_from, no_values}
use Rattle.script.proofs.pieces.numbers_after.Given as goal

abbrev pub invariant-loop-end : goal.invariant-loop-end
invariant-loop-end l = record {
  room : l.count ≤ 16;
  as_long : length l.values ≡ 16;
  so_far : numbers_from no_values 0 (afterwards (drop l.at l.line)) ≡ numbers_from l.values l.count (afterwards (drop l.end l.line));
}

abbrev pub decreases-loop-end : goal.decreases-loop-end
decreases-loop-end l = length l.line - l.end
