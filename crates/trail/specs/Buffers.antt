-- What stands in the program's memory: what is kept of the open line, and what is printed and not written yet.
-- Assumes nothing.
use Rattle.std.specs.Prelude.{◌≡◌, List, ℕ, ◌+◌, ◌*◌, ◌≤◌, length, take}
use Rattle.rows.specs.Size.{numbers}
use Rattle.script.specs.Print.{held}
use Rattle.trail.specs.Script.{Progress, at_end}
use Rattle.trail.specs.Lines.{memory_of, tallies_of}
use Rattle.trail.specs.Feeding.{Reading, nothing_fed, after_piece, finished, emptied}
use Rattle.trail.specs.declared.feeding.State.{State}
use Rattle.trail.specs.declared.feeding.TheConstants.{OUT}

-- the most bytes that answer a line, and that the line of marked numbers has
abbrev pub answer_size : ℕ
answer_size = 8

abbrev pub marked_size : ℕ
marked_size = 8 * numbers

abbrev pub progress_in : State → Progress
progress_in s = record { printed = held s.out; order = s.monitor.order; memory = memory_of s.monitor; tallies = tallies_of s.monitor }

abbrev pub reading_in : State → Reading
reading_in s = record { line = held s.line; progress = progress_in s }

-- there is room for so many bytes of answers more
abbrev pub Room : State → ℕ → Type 0
Room s k = length (progress_in s).printed + k ≤ OUT

-- so many bytes of the input buffer were fed, and what they printed is no longer held
abbrev pub Fed : List ℕ → State → State → ℕ → Type 0
Fed input before after n = reading_in after ≡ emptied (after_piece (take n input) (reading_in before))

-- some input, fed from its first byte on, leaves r, and what it printed is no longer held
pub record SomeInput (r : Reading) : Type 0 where
  pub input : List ℕ
  pub leaves : r ≡ emptied (after_piece input nothing_fed)

-- the memory and the tallies are those of a script at its end, and what it prints last is left to be written. That its input is the one on
-- standard input, no contract can say
pub record SomeScript (p : Progress) : Type 0 where
  pub input : List ℕ
  pub ends : p.memory ≡ (at_end input).memory
  pub counted : p.tallies ≡ (at_end input).tallies
  pub left : p.printed ≡ (finished (emptied (after_piece input nothing_fed))).printed
