-- Going through numbers.
-- Assumes nothing.
use Rattle.std.specs.Prelude.{◌≡◌, Bool, false, ◌||◌, Option, MatchOption, ℕ, ◌≤◌, eqb}
use Rattle.sets.specs.Sets.{last}

-- of the numbers that pass p: nothing is taken where there is none, else one of them, and q has the others
abbrev pub Takes : (ℕ → Bool) → Option ℕ → (ℕ → Bool) → Type 0
Takes p r q = MatchOption r ((y : ℕ) → p y ≡ false) (λ x. (x ≤ last) × ((y : ℕ) → p y ≡ (eqb y x || q y)))
