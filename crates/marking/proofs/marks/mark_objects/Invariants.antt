-- Before turn x the objects below x are marked.
-- Assumes nothing.
use Rattle.std.proofs.Common.{◌≡◌, List, ℕ}
use Rattle.model.specs.State.{memory}
use Rattle.model.specs.Effects.{object_of}
use Rattle.marking.specs.MarksLaws.{marked_below}
use Rattle.marking.proofs.marks.mark_objects.Given as goal

abbrev pub invariant-loop-x : goal.invariant-loop-x
invariant-loop-x l = (ws : List ℕ) → memory l.bytes ws ≡ marked_below l.x (object_of (memory l.fn.bytes ws) l.driver) (memory l.fn.bytes ws)
