-- Tests over all numbers below n, how many pass, and a loop that applies a step for each number below n.
-- Assumes nothing.
use Rattle.std.specs.Prelude.{Bool, true, false, not, ◌&&◌, ◌||◌, ℕ, zero, suc, ◌+◌}

-- a Bool implication
infixr 25 ◌⇒◌
abbrev pub ◌⇒◌ : Bool → Bool → Bool
a ⇒ b = not a || b

-- all numbers below n pass
unfoldable pub all_b : ℕ → (ℕ → Bool) → Bool
all_b zero p = true
all_b (suc n) p = all_b n p && p n

-- some number below n passes
unfoldable pub any_b : ℕ → (ℕ → Bool) → Bool
any_b zero p = false
any_b (suc n) p = any_b n p || p n

-- the step f for each number below n, from 0 on
unfoldable pub up_to : {A : Type 0} → (ℕ → A → A) → ℕ → A → A
up_to f zero s = s
up_to f (suc n) s = f n (up_to f n s)

abbrev pub one : Bool → ℕ
one true = 1
one false = 0

-- how many numbers below n pass
unfoldable pub count_b : ℕ → (ℕ → Bool) → ℕ
count_b zero p = 0
count_b (suc n) p = count_b n p + one (p n)
