-- What is marked and what is left to mark make the same at every turn.
-- Assumes nothing.
use Rattle.std.proofs.Common.{◌≡◌, List, ℕ}
use Rattle.records.specs.Records.{BytesLent}
use Rattle.sets.specs.Sets.{in_word}
use Rattle.model.specs.State.{memory}
use Rattle.model.specs.Effects.{mark_where}
use Rattle.marking.proofs.marks.mark_word.Given as goal

abbrev pub invariant-loop-x : goal.invariant-loop-x
invariant-loop-x l =
    let s = l.x-iterator in
    BytesLent l.bytes × ((ws : List ℕ) → mark_where (in_word s.rest s.first) (memory l.bytes ws) ≡ mark_where (in_word l.fn.word l.fn.first) (memory l.fn.bytes ws))
