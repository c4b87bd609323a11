-- Text in a lent buffer.
-- Assumes nothing.
use Rattle.std.specs.Prelude.{◌≡◌, List, ℕ, ◌+◌, min, max, length}
use Rattle.std.proofs.lemmas.List.Edits.{sets}

-- the text was stored from `at` on as far as there is room, and ends at `end`; past the end nothing is stored
pub record Stored (before : List ℕ) (at : ℕ) (text after : List ℕ) (end : ℕ) : Type 0 where
  pub stored : after ≡ sets before at text
  pub ends : end ≡ max at (min (at + length text) (length before))
