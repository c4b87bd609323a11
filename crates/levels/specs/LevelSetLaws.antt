-- What a set of levels holds when a level joins it, and how the code tests that it fits.
-- Assumes nothing.
use Rattle.std.specs.Prelude.{◌≡◌, Bool, true, ◌||◌, ℕ, ◌/◌, ◌^◌, ◌≤◌, ◌<◌, eqb, ltb}
use Rattle.std.proofs.Common.{sym, ap, ◌∙◌, true≢false, ⊎_elim, arith, eqb-true, ltb-true, lt-ltb, eq-eqb}
use Rattle.bits.specs.Bit.{bit}
use Rattle.bits.specs.BitLaws.{bit_or_law, bit_pow, bit_zero}
use Rattle.bits.specs.AllLaws.{both_ways, implies, implied, all_at, all_i, or_cases}
use Rattle.levels.specs.Order.{most_levels}
use Rattle.levels.specs.OrderRowsLaws.{short_i, short_at}
use Rattle.levels.specs.LevelSet.{with_level, set_fits}

pub in_with : (set l k : ℕ) → bit (with_level set l) k ≡ (bit set k || eqb k l)
unfolding with_level
in_with set l k = bit_or_law set (2 ^ l) k ∙ ap (λ (b : Bool). bit set k || b) (bit_pow l k)

-- the empty set fits every count
pub none_fits : (count : ℕ) → set_fits count 0 ≡ true
unfolding set_fits
none_fits count = all_i most_levels _ (λ l s. implied (bit 0 l) (ltb l count) (λ h. absurd (true≢false (sym h ∙ bit_zero l))))

-- so does every set with a level below the count, if it did before
pub with_fits : (count set l : ℕ) → set_fits count set ≡ true → l < count → set_fits count (with_level set l) ≡ true
unfolding set_fits
with_fits count set l f s =
    all_i most_levels _ (λ k b. implied (bit (with_level set l) k) (ltb k count) (λ h.
    ⊎_elim (λ g. implies (bit set k) (ltb k count) (all_at most_levels _ f k b) g) (λ (e : eqb k l ≡ true). rw (eqb-true k l e) (lt-ltb l count s))
    (or_cases (bit set k) (eqb k l) (sym (in_with set l k) ∙ h))))

-- ---- by a shift, as the code tests it

module _ (count set : ℕ) where
  pub fits_short : set < 2 ^ 16 → eqb (set / 2 ^ count) 0 ≡ set_fits count set
  unfolding set_fits
  fits_short l =
      both_ways (eqb (set / 2 ^ count) 0) (set_fits count set)
      (λ e. all_i most_levels _ (λ k b. implied (bit set k) (ltb k count) (λ h. lt-ltb k count (short_at count set k (eqb-true _ 0 e) h))))
      (λ f. eq-eqb _ 0 (short_i count set l (λ k b h. ltb-true k count (implies (bit set k) (ltb k count) (all_at most_levels _ f k b) h))))

  -- none of the sixteen is at or past such a count
  pub fits_wide : most_levels ≤ count → set_fits count set ≡ true
  unfolding set_fits
  fits_wide l = all_i most_levels _ (λ k b. implied (bit set k) (ltb k count) (λ h. lt-ltb k count (omega arith)))
