-- Before turn y no number below y is marked and has a flow to x.
-- Assumes nothing.
use Rattle.std.proofs.Common.{◌≡◌, ◌&&◌, false}
use Rattle.bits.specs.All.{any_b}
use Rattle.model.specs.State.{memory, marked, has_flow}
use Rattle.marking.proofs.marks.is_fed.Given as goal

abbrev pub invariant-loop-y : goal.invariant-loop-y
invariant-loop-y l = any_b l.y (λ y. marked (memory l.bytes l.words) y && has_flow (memory l.bytes l.words) y l.x) ≡ false
