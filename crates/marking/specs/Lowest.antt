-- The lowest of the numbers from n on and below e that passes.
-- Assumes nothing.
use Rattle.std.specs.Prelude.{◌≡◌, Bool, true, false, Option, MatchOption, ℕ, ◌≤◌, ◌<◌}

-- r is it, if one passes
abbrev pub Lowest : (ℕ → Bool) → ℕ → ℕ → Option ℕ → Type 0
Lowest p n e r =
    MatchOption r ((j : ℕ) → n ≤ j → j < e → p j ≡ false) (λ k. (n ≤ k) × (k < e) × (p k ≡ true) × ((j : ℕ) → n ≤ j → j < k → p j ≡ false))
