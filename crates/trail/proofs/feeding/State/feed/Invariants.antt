-- Before each line the rest of the piece leaves from here what the piece leaves from the start, and there is room for the answers to the rest.
-- Assumes nothing.
use Rattle.std.proofs.Common.{◌≡◌, ◌-◌, ◌*◌, ◌≤◌, length, drop}
use Rattle.trail.specs.Feeding.{after_piece}
use Rattle.trail.specs.Buffers.{answer_size, reading_in, Room}
use Rattle.trail.proofs.feeding.State.feed.Given as goal

abbrev pub invariant-loop-at : goal.invariant-loop-at
invariant-loop-at l = record {
  within : l.at ≤ length l.piece;
  room : Room l.self (answer_size * (length l.piece - l.at));
  fed : after_piece (drop l.at l.piece) (reading_in l.self) ≡ after_piece l.piece (reading_in l.initial.self);
}

abbrev pub decreases-loop-at : goal.decreases-loop-at
decreases-loop-at l = length l.piece - l.at
