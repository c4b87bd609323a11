-- What a script is: from the bytes of an input to the bytes of its output.
-- Assumes nothing.
use Rattle.std.specs.Prelude.{cond, List, [], ◌∷◌, ◌++◌, ℕ, eqb, replicate}
use Rattle.rows.specs.Size.{present, lent_words}
use Rattle.levels.specs.declared.Order.{Order}
use Rattle.records.specs.Records.{lent_bytes}
use Rattle.model.specs.declared.Tally.{Tally}
use Rattle.model.specs.State.{Memory, memory}
use Rattle.model.specs.Monitor.{report}
use Rattle.model.specs.Tallies.{zeroed}
use Rattle.script.specs.Script.{no_order, into}
use Rattle.script.specs.Print.{line_feed, reply_line}
use Rattle.trail.specs.Lines.{line_done}
use Rattle.trail.specs.Marked.{marked_line}

-- ---- lines: a line feed ends a line, and the last may lack it

-- `into b` puts b in front of the first line, or makes a line of it where there is none
unfoldable pub lines : List ℕ → List (List ℕ)
lines [] = []
lines (b ∷ bs) = cond (eqb b line_feed) ([] ∷ lines bs) (into b (lines bs))

-- ---- how far a script has come: what it printed, and what it keeps from line to line, the order of the last granted start, the memory and the tallies

pub record Progress : Type 0 where
  pub printed : List ℕ
  pub order : Order
  pub memory : Memory
  pub tallies : List Tally

-- memory begins as zeros
unfoldable pub zeros : Memory
zeros = memory (replicate (lent_bytes present) 0) (replicate (lent_words present) 0)

-- the order is all zero before the first granted start, and nothing is counted yet
unfoldable pub nothing_read : Progress
nothing_read = record { printed = []; order = no_order; memory = zeros; tallies = zeroed present }

-- a line, with the line that answers it
unfoldable pub after_line : List ℕ → Progress → Progress
after_line l p =
    let out = line_done p.memory p.tallies p.order l in
    record { printed = p.printed ++ reply_line out.reply; order = out.order; memory = out.memory; tallies = out.tallies }

unfoldable pub after_lines : List (List ℕ) → Progress → Progress
after_lines [] p = p
after_lines (l ∷ ls) p = after_lines ls (after_line l p)

-- ---- the whole

-- last, the marked numbers
unfoldable pub with_marked : Progress → List ℕ
with_marked p = p.printed ++ marked_line (report p.order p.memory)

unfoldable pub at_end : List ℕ → Progress
at_end input = after_lines (lines input) nothing_read

unfoldable pub output : List ℕ → List ℕ
output input = with_marked (at_end input)
