-- At each turn the calls that are left, on the memory that is, come to what all calls of the text come to on the memory at entry.
-- Assumes nothing.
use Rattle.std.proofs.Common.{◌≡◌, ◌-◌, ◌≤◌, length, take, drop, reverse}
use Rattle.layout.specs.Layout.{most_deep}
use Rattle.model.specs.State.{memory}
use Rattle.model.specs.Ready.{Ready}
use Rattle.model.specs.Load.{in_turn}
use Rattle.loading.specs.Calls.{calls_from, calls_in}
use Rattle.loading.proofs.lay_out.Given as goal

abbrev pub invariant-loop-at : goal.invariant-loop-at
invariant-loop-at g l =
    record {
      shallow : l.depth ≤ l.at;
      within : l.at ≤ length l.text;
      ready : Ready l.order l.bytes l.words;
      places : length l.held ≡ most_deep;
      few : l.depth ≤ most_deep;
      same : in_turn l.order (calls_from (reverse (take l.depth l.held)) (drop l.at l.text)) (memory l.bytes l.words) ≡ in_turn l.order (calls_in l.text) (memory l.fn.bytes l.fn.words);
    }

abbrev pub decreases-loop-at : goal.decreases-loop-at
decreases-loop-at g l = length l.text - l.at
