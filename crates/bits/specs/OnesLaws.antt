-- `count_ones` counts the bits that are set.
-- Assumes nothing.
use Rattle.std.specs.Prelude.{◌≡◌, refl, Bool, ℕ, zero, suc, ◌+◌, ◌/◌, ◌%◌, ◌^◌, ◌<◌, eqb, ◌⊎◌}
use Rattle.std.proofs.Common.{sym, ap, ap₂, ◌∙◌, arith, inl, inr}
use Rattle.std.proofs.Math.Arith.{lt-one}
use Rattle.std.specs.Int.Count.{ones, ones_step, ones-ones}
use Rattle.bits.specs.Bit.{bit}
use Rattle.bits.specs.BitLaws.{bit_low, bit_half, digit}
use Rattle.bits.specs.All.{one, count_b}

-- the lowest one first
count_low : (k : ℕ) (p : ℕ → Bool) → count_b (suc k) p ≡ one (p 0) + count_b k (λ i. p (suc i))
unfolding count_b
count_low zero p = omega arith
count_low (suc k) p = omega (arith, count_low k p)

count_ext : (k : ℕ) (p q : ℕ → Bool) → ((i : ℕ) → p i ≡ q i) → count_b k p ≡ count_b k q
unfolding count_b
count_ext zero p q h = refl
count_ext (suc k) p q h = ap₂ (λ (m : ℕ) (b : Bool). m + one b) (count_ext k p q h) (h k)

low_one : (w : ℕ) → w % 2 ≡ one (bit w 0)
low_one w = go (digit w)
  where
    go : (w % 2 ≡ 0) ⊎ (w % 2 ≡ 1) → w % 2 ≡ one (bit w 0)
    go (inl e) = e ∙ ap one (sym (bit_low w ∙ ap (λ (d : ℕ). eqb d 1) e))
    go (inr e) = e ∙ ap one (sym (bit_low w ∙ ap (λ (d : ℕ). eqb d 1) e))

pub ones_count : (k w : ℕ) → w < 2 ^ k → ones w ≡ count_b k (λ i. bit w i)
unfolding count_b
ones_count zero w h = ap ones (lt-one h) ∙ ones-ones 0
ones_count (suc k) w h =
    ones_step w ∙ ap₂ (λ (a b : ℕ). a + b) (low_one w) (ones_count k (w / 2) (omega arith) ∙ count_ext k _ _ (λ i. sym (bit_half w i)))
    ∙ sym (count_low k (λ i. bit w i))
