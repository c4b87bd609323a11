-- At each turn the bytes before this one are digits, and v is their value.
-- Assumes nothing.
use Rattle.std.proofs.Common.{◌≡◌, ◌^◌, ◌<◌, drop}
use Rattle.script.specs.Script.{digits, value_from}
use Rattle.script.proofs.pieces.number_of.Given as goal

abbrev pub invariant-loop-b : goal.invariant-loop-b
invariant-loop-b l = record {
  small : l.v < 10 ^ l.b-index;
  are_digits : digits l.piece ≡ digits (drop l.b-index l.piece);
  valued : value_from 0 l.piece ≡ value_from l.v (drop l.b-index l.piece);
}
