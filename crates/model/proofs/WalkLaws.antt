-- A walk from number to number that looks for one that passes: as many steps as there are numbers but one find all that any number of steps finds.
-- Assumes nothing.
use Rattle.std.specs.Prelude.{◌≡◌, refl, ◌⊎◌, Bool, true, false, ◌&&◌, ◌||◌}
use Rattle.std.proofs.Math.Logic.{inl, inr, ⊎_elim}
use Rattle.std.proofs.lemmas.Bool.{false≢true}
use Prim.Native.Nat.{ℕ, zero, suc, ◌≤◌, ◌<◌}
use Rattle.std.proofs.Common.{arith}
use Rattle.bits.specs.All.{all_b, count_b, ◌⇒◌}
use Rattle.bits.specs.AllLaws.{either, implies, and_i, and_l, and_r, or_cases, or_l, or_r, all_at, all_fails}
use Rattle.bits.specs.LoopLaws.{count_le, count_more}

-- one that passes, or one from which the walk goes on and finds
module _ (passes goes : ℕ → Bool) (next : ℕ → ℕ) where
  unfoldable pub finds : ℕ → ℕ → Bool
  finds zero x = false
  finds (suc n) x = passes x || (goes x && finds n (next x))

  -- a step whose rest finds where another's does
  step_on : (n k x : ℕ) → (goes x ≡ true → finds n (next x) ≡ true → finds k (next x) ≡ true) → finds (suc n) x ≡ true → finds (suc k) x ≡ true
  unfolding finds
  step_on n k x rest h =
      ⊎_elim (or_l (passes x) _)
      (λ p. let g = and_l (goes x) _ p in or_r (passes x) _ (and_i g (rest g (and_r (goes x) _ p))))
      (or_cases (passes x) _ h)

  finds_on : (n x : ℕ) → finds n x ≡ true → finds (suc n) x ≡ true
  finds_on zero x h = unfold finds in absurd (false≢true h)
  finds_on (suc n) x h = step_on n (suc n) x (λ g. finds_on n (next x)) h

  -- within a set of the numbers below `numbers` that the walk does not leave, and that lacks the first of them
  module _ (numbers : ℕ) (some : 0 < numbers) (within : ℕ → Bool) (first : within 0 ≡ false)
      (below : (x : ℕ) → within x ≡ true → x < numbers) (stays : (x : ℕ) → within x ≡ true → goes x ≡ true → within (next x) ≡ true) where
    found : ℕ → ℕ → Bool
    found n x = within x && finds n x

    -- one step more finds no more
    Rests : ℕ → Type 0
    Rests n = (x : ℕ) → within x ≡ true → finds (suc n) x ≡ true → finds n x ≡ true

    rests_on : (n : ℕ) → Rests n → Rests (suc n)
    unfolding Rests
    rests_on n r x w h = step_on (suc n) n x (λ g. r (next x) (stays x w g)) h

    -- or it finds one more
    rests_or : (n : ℕ) → Rests n ⊎ (count_b numbers (found n) < count_b numbers (found (suc n)))
    unfolding Rests found
    rests_or n =
        ⊎_elim
        (λ h. inl (λ x w f. and_r (within x) _ (implies _ _ (all_at numbers _ h x (below x w)) (and_i w f))))
        (λ h. inr (count_more numbers _ _ (λ x l p. and_i (and_l (within x) _ p) (finds_on n x (and_r (within x) _ p))) h))
        (either (all_b numbers (λ x. found (suc n) x ⇒ found n x)))

    rests_by : (n : ℕ) → Rests n ⊎ (suc n ≤ count_b numbers (found (suc n)))
    rests_by zero = ⊎_elim inl (λ l. inr (omega arith)) (rests_or 0)
    rests_by (suc n) = ⊎_elim (λ r. inl (rests_on n r)) (λ l. ⊎_elim inl (λ k. inr (omega arith)) (rests_or (suc n))) (rests_by n)

    found_few : (n : ℕ) → count_b numbers (found n) < numbers
    unfolding found
    found_few n =
        omega (arith, count_le numbers (λ x. true), count_more numbers (found n) (λ x. true) (λ x l h. refl) (all_fails numbers _ 0 some (rw first)))

    last_rests : (n : ℕ) → suc n ≡ numbers → Rests n
    last_rests n e = ⊎_elim (λ r. r) (λ l. absurd (omega (arith, found_few (suc n)))) (rests_by n)

    pub finds_all : (n k x : ℕ) → suc n ≡ numbers → within x ≡ true → finds k x ≡ true → finds n x ≡ true
    unfolding Rests finds
    finds_all n zero x e w h = absurd (false≢true h)
    finds_all n (suc k) x e w h = last_rests n e x w (step_on k n x (λ g. finds_all n k (next x) e (stays x w g)) h)
