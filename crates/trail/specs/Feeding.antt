-- An input that comes in pieces: where the reading stands between them, and what is written.
-- Assumes nothing.
use Rattle.std.specs.Prelude.{cond, List, [], ◌∷◌, ◌++◌, ℕ, eqb, take}
use Rattle.script.specs.Print.{line_feed}
use Rattle.trail.specs.Script.{Progress, nothing_read, after_line, with_marked}

-- how many bytes of a line are kept. They settle what a line of any length means: `long_lines` in script's laws
abbrev pub line_size : ℕ
line_size = 128

-- between two bytes: what is kept of the line that is open, and how far the script has come with the lines before it
pub record Reading : Type 0 where
  pub line : List ℕ
  pub progress : Progress

unfoldable pub nothing_fed : Reading
nothing_fed = record { line = []; progress = nothing_read }

-- the open line is done
abbrev pub ended : Reading → Reading
ended r = record { line = []; progress = after_line r.line r.progress }

unfoldable pub after_byte : ℕ → Reading → Reading
after_byte b r =
    cond (eqb b line_feed)
    (ended r)
    (record { line = take line_size (r.line ++ b ∷ []); progress = r.progress })

unfoldable pub after_piece : List ℕ → Reading → Reading
after_piece [] r = r
after_piece (b ∷ bs) r = after_piece bs (after_byte b r)

-- ---- the input is at its end

-- a line that is open is the last
unfoldable pub last_line : List ℕ → Progress → Progress
last_line [] p = p
last_line (b ∷ bs) p = after_line (b ∷ bs) p

unfoldable pub closed : Reading → Progress
closed r = last_line r.line r.progress

-- with the marked numbers behind it
unfoldable pub finished : Reading → Progress
finished r = record { printed = with_marked (closed r); order = (closed r).order; memory = (closed r).memory; tallies = (closed r).tallies }

-- ---- what is written

-- what was printed is no longer held. That it was written, no contract can say
unfoldable pub emptied : Reading → Reading
emptied r = record { line = r.line; progress = record { printed = []; order = r.progress.order; memory = r.progress.memory; tallies = r.progress.tallies } }

-- the answers to each piece before the next one comes, and what is left at the end
unfoldable pub written : List (List ℕ) → Reading → List ℕ
written [] r = (finished r).printed
written (c ∷ cs) r = (after_piece c r).progress.printed ++ written cs (emptied (after_piece c r))
