-- A list of tallies as plain numbers, three to a record: granted, slipped, refused.
-- Assumes nothing.
use Rattle.std.specs.Prelude.{List, [], ◌∷◌, ℕ}
use Rattle.model.specs.declared.Tally.{Tally}

unfoldable pub records_in : List ℕ → List Tally
records_in [] = []
records_in (g ∷ []) = []
records_in (g ∷ s ∷ []) = []
records_in (g ∷ s ∷ r ∷ ns) = record { granted = g; slipped = s; refused = r } ∷ records_in ns

-- the one or two numbers left over, which belong to no record
unfoldable pub left_over : List ℕ → List ℕ
left_over [] = []
left_over (g ∷ []) = g ∷ []
left_over (g ∷ s ∷ []) = g ∷ s ∷ []
left_over (g ∷ s ∷ r ∷ ns) = left_over ns
