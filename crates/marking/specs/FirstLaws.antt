-- The first number from n on that passes: what it is known by, how a word's trailing zeros find it, and how words are gone through one after the other.
-- Assumes nothing.
use Rattle.std.specs.Prelude.{◌≡◌, ◌⊎◌, Bool, true, false, cond, List, ℕ, zero, suc, ◌+◌, ◌-◌, ◌*◌, ◌/◌, ◌%◌, ◌^◌, ◌≤◌, ◌<◌, eqb, ltb, get_or}
use Rattle.std.proofs.Common.{sym, ap, ◌∙◌, inl, inr, ⊎_elim, true≢false, lt_of_not-le, eq-or-lt_of_le, arith, shr-shr, ltb-true, ltb-false, lt-ltb, le-ltb}
use Rattle.std.specs.Int.Count.{count_trailing_zeros}
use Rattle.std.proofs.lemmas.Nat.{shr_le}
use Rattle.bits.specs.Bit.{bit, in_words}
use Rattle.bits.specs.BitLaws.{bit_zero, bit_below, trailing_set, trailing_below}
use Rattle.bits.specs.WordsLaws.{in_at}
use Rattle.bits.specs.AllLaws.{either}
use Rattle.rows.specs.Size.{numbers}
use Rattle.model.specs.declared.Report.{Report}
use Rattle.model.specs.Monitor.{first_from, next_marked, next_marked_of}

-- r is the first of the numbers from n on and below e that passes, or e
pub record First (p : ℕ → Bool) (n e r : ℕ) : Type 0 where
  pub above : n ≤ r
  pub within : r ≤ e
  pub none : (j : ℕ) → n ≤ j → j < r → p j ≡ false
  pub passes : r < e → p r ≡ true

pub first : (k : ℕ) (p : ℕ → Bool) (n : ℕ) → First p n (n + k) (first_from k p n)
unfolding first_from
first zero p n = record { above = omega arith; within = omega arith; none = λ j a b. absurd (omega arith); passes = λ l. absurd (omega arith) }
first (suc k) p n = go (either (p n)) (first k p (n + 1))
  where
    go : (p n ≡ true) ⊎ (p n ≡ false) → First p (n + 1) (n + 1 + k) (first_from k p (n + 1)) → First p n (n + suc k) (cond (p n) n (first_from k p (n + 1)))
    go (inl e) f = rw e (record { above = omega arith; within = omega arith; none = λ j a b. absurd (omega arith); passes = λ l. e })
    go (inr e) f =
        rw e
        (record {
          above = omega (arith, f.above);
          within = omega (arith, f.within);
          none = λ j a b. ⊎_elim (λ (q : n ≡ j). ap p (sym q) ∙ e) (λ (q : n < j). f.none j (omega arith) b) (eq-or-lt_of_le a);
          passes = λ l. f.passes (omega arith);
        })

not_below : {p : ℕ → Bool} {n e r s : ℕ} → First p n e r → First p n e s → r < s → ⊥
not_below {r = r} f g l = true≢false (sym (f.passes (omega (arith, g.within))) ∙ g.none r f.above l)

pub first_of : (k : ℕ) {p : ℕ → Bool} {n e r : ℕ} → n + k ≡ e → r ≡ first_from k p n → First p n e r
first_of k {p} {n} d q = rw (← d, q) (first k p n)

pub first_is : (k : ℕ) {p : ℕ → Bool} {n e r : ℕ} → n + k ≡ e → First p n e r → r ≡ first_from k p n
first_is k {p} {n} {e} {r} d f =
    let g : First p n e (first_from k p n) = rw (← d) (first k p n) in
    omega (arith, lt_of_not-le (λ (l : suc (first_from k p n) ≤ r). not_below g f l), lt_of_not-le (λ (l : suc r ≤ first_from k p n). not_below f g l))

-- ---- in a word

bit_shr : (w i j : ℕ) → bit (w / 2 ^ i) j ≡ bit w (i + j)
unfolding bit
bit_shr w i j = ap (λ (x : ℕ). eqb (x % 2) 1) (shr-shr w i j)

from_shr : (w i j : ℕ) → i ≤ j → bit w j ≡ bit (w / 2 ^ i) (j - i)
from_shr w i j l = let e : i + (j - i) ≡ j = omega arith in ap (bit w) (sym e) ∙ sym (bit_shr w i (j - i))

module _ (w i : ℕ) (l : i < 64) where
  pub first_none : w / 2 ^ i ≡ 0 → First (λ j. bit w j) i 64 64
  first_none e =
      record {
        above = omega arith;
        within = omega arith;
        none = λ j a b. from_shr w i j a ∙ ap (λ (x : ℕ). bit x (j - i)) e ∙ bit_zero (j - i);
        passes = λ b. absurd (omega arith);
      }

  pub first_some : w < 2 ^ 64 → (w / 2 ^ i ≡ 0 → ⊥) → First (λ j. bit w j) i 64 (i + count_trailing_zeros 64 (w / 2 ^ i))
  first_some h n =
      let t = count_trailing_zeros 64 (w / 2 ^ i) in
      let p : 0 < w / 2 ^ i = lt_of_not-le (λ (q : w / 2 ^ i ≤ 0). n (omega arith)) in
      let e : bit w (i + t) ≡ true = sym (bit_shr w i t) ∙ trailing_set 64 (w / 2 ^ i) (omega (arith, shr_le w i)) p in
      record {
        above = omega arith;
        within = omega (arith, bit_below 64 w (i + t) h e);
        none = λ j a b. from_shr w i j a ∙ trailing_below 64 (w / 2 ^ i) (j - i) (omega arith);
        passes = λ b. e;
      }

-- ---- in words, one after the other

-- word j, from its bit i on
pub first_word : (ws : List ℕ) (j : ℕ) {i n r s : ℕ} → n ≡ 64 * j + i → s ≡ 64 * j + r → First (λ k. bit (get_or ws j 0) k) i 64 r → First (in_words ws) n (64 * j + 64) s
first_word ws j {i} {n} {r} {s} d e f =
    record {
      above = omega (arith, f.above);
      within = omega (arith, f.within);
      none = λ k a b. in_at ws j (k - 64 * j) (omega (arith, f.within)) (omega arith) ∙ f.none (k - 64 * j) (omega arith) (omega arith);
      passes = λ l. in_at ws j r (omega arith) e ∙ f.passes (omega arith);
    }

-- found before e, and so before any later end
pub first_stop : {p : ℕ → Bool} {n e d r : ℕ} → First p n e r → r < e → e ≤ d → First p n d r
first_stop f l h = record { above = f.above; within = omega arith; none = f.none; passes = λ b. f.passes l }

-- none before e
pub first_then : {p : ℕ → Bool} {n e d r s : ℕ} → First p n e r → e ≤ r → First p e d s → First p n d s
first_then {p} {n} {e} {d} {r} {s} f l g =
    record {
      above = omega (arith, f.above, f.within, g.above);
      within = g.within;
      none = λ j a b. ⊎_elim (λ c. let h : j < e = ltb-true j e c in f.none j a (omega arith)) (λ c. g.none j (ltb-false j e c) b) (either (ltb j e));
      passes = g.passes;
    }

-- ---- of a report

pub next_is : (t : Report) {n r : ℕ} → n < numbers → First (in_words t.words) n numbers r → r ≡ next_marked t n
unfolding next_marked_of
next_is t {n} {r} l f = rw (lt-ltb n numbers l) (first_is (numbers - n) (omega arith) f)

pub next_none : (t : Report) {n : ℕ} → numbers ≤ n → numbers ≡ next_marked t n
unfolding next_marked_of
next_none t {n} l = rw (le-ltb n numbers l)
