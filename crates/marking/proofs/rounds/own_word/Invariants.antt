-- What is put and what is left to put make the same at every turn.
-- Assumes nothing.
use Rattle.std.proofs.Common.{◌≡◌, ◌<◌, ◌||◌, ℕ}
use Rattle.rows.specs.Size.{row_size, numbers}
use Rattle.rows.specs.Rows.{cell}
use Rattle.sets.specs.Sets.{in_word}
use Rattle.sets.specs.WalkLaws.{some_of}
use Rattle.marking.specs.Rounds.{puts}
use Rattle.marking.proofs.rounds.own_word.Given as goal

-- column y of row d, with a word's numbers put
abbrev pub invariant-loop-x : goal.invariant-loop-x
invariant-loop-x l =
    let s = l.x-iterator in
    (d y : ℕ) → y < numbers
    → (cell row_size l.owned d y || some_of numbers (puts row_size l.bytes d y) (in_word s.rest s.first))
    ≡ (cell row_size l.fn.owned d y || some_of numbers (puts row_size l.bytes d y) (in_word l.fn.word l.fn.first))
