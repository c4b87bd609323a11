-- The first number from n on that passes: how a word's trailing zeros find it, and how the two words of a report are gone through.
-- Assumes nothing.
use Rattle.std.specs.Prelude.{◌≡◌, ◌⊎◌, Bool, true, false, cond, Option, Some, None, unwrap_or, ℕ, zero, suc, ◌+◌, ◌-◌, ◌/◌, ◌%◌, ◌^◌, ◌≤◌, ◌<◌, eqb, ltb, get_or, refl}
use Rattle.std.proofs.Common.{sym, ap, ◌∙◌, inl, inr, ⊎_elim, true≢false, lt_of_not-le, add-zero, arith, shr-shr, ltb-true, ltb-false}
use Rattle.std.specs.Int.Count.{count_trailing_zeros}
use Rattle.std.proofs.lemmas.Nat.{shr_le}
use Rattle.bits.specs.Bit.{bit, in_words}
use Rattle.bits.specs.BitLaws.{bit_zero, bit_below, trailing_set, trailing_below}
use Rattle.bits.specs.WordsLaws.{in_at}
use Rattle.bits.specs.AllLaws.{either}
use Rattle.rows.specs.Size.{numbers}
use Rattle.model.specs.declared.Report.{Report}
use Rattle.model.specs.Monitor.{first_from, next_marked, next_marked_of}
use Rattle.marking.specs.Lowest.{Lowest}

-- the model's search finds it, or ends past the last
pub first_is : (k : ℕ) (p : ℕ → Bool) (n : ℕ) (r : Option ℕ) → Lowest p n (n + k) r → unwrap_or r (n + k) ≡ first_from k p n
unfolding first_from
first_is zero p n None h = add-zero n
first_is zero p n (Some x) h = absurd (omega (arith, h.0, h.1))
first_is (suc k) p n r h = go r h (either (p n)) (λ e. ap (unwrap_or r) same ∙ first_is k p (n + 1) r (later r h e))
  where
    same : n + suc k ≡ n + 1 + k
    same = omega arith

    later : (r : Option ℕ) → Lowest p n (n + suc k) r → p n ≡ false → Lowest p (n + 1) (n + 1 + k) r
    later None h e = λ j a b. h j (omega arith) (omega arith)
    later (Some x) h e =
        let n : x ≡ n → ⊥ = λ q. true≢false (sym h.2 ∙ ap p q ∙ e) in
        (omega (arith, h.0), omega (arith, h.1), h.2, λ j a b. h.3 j (omega arith) b)

    go : (r : Option ℕ) → Lowest p n (n + suc k) r → (p n ≡ true) ⊎ (p n ≡ false) → (p n ≡ false → unwrap_or r (n + suc k) ≡ first_from k p (n + 1)) → unwrap_or r (n + suc k) ≡ cond (p n) n (first_from k p (n + 1))
    go r h (inr e) f = rw e (f e)
    go None h (inl e) f = absurd (true≢false (sym e ∙ h n (omega arith) (omega arith)))
    go (Some x) h (inl e) f = rw e (below (either (ltb n x)))
      where
        below : (ltb n x ≡ true) ⊎ (ltb n x ≡ false) → x ≡ n
        below (inl l) = let b : n < x = ltb-true n x l in absurd (true≢false (sym e ∙ h.3 n (omega arith) b))
        below (inr l) = let b : x ≤ n = ltb-false n x l in omega (arith, h.0)

-- ---- in a word

bit_shr : (w i j : ℕ) → bit (w / 2 ^ i) j ≡ bit w (i + j)
unfolding bit
bit_shr w i j = ap (λ (x : ℕ). eqb (x % 2) 1) (shr-shr w i j)

from_shr : (w i j : ℕ) → i ≤ j → bit w j ≡ bit (w / 2 ^ i) (j - i)
from_shr w i j l = let e : i + (j - i) ≡ j = omega arith in ap (bit w) (sym e) ∙ sym (bit_shr w i (j - i))

module _ (w i : ℕ) where
  pub none_above : w / 2 ^ i ≡ 0 → Lowest (λ j. bit w j) i 64 None
  none_above e = λ j a b. from_shr w i j a ∙ ap (λ (x : ℕ). bit x (j - i)) e ∙ bit_zero (j - i)

  pub some_above : w < 2 ^ 64 → (w / 2 ^ i ≡ 0 → ⊥) → Lowest (λ j. bit w j) i 64 (Some (i + count_trailing_zeros 64 (w / 2 ^ i)))
  some_above h n =
      let t = count_trailing_zeros 64 (w / 2 ^ i) in
      let p : 0 < w / 2 ^ i = lt_of_not-le (λ (q : w / 2 ^ i ≤ 0). n (omega arith)) in
      let e : bit w (i + t) ≡ true = sym (bit_shr w i t) ∙ trailing_set 64 (w / 2 ^ i) (omega (arith, shr_le w i)) p in
      (omega arith, bit_below 64 w (i + t) h e, e, λ j a b. from_shr w i j a ∙ trailing_below 64 (w / 2 ^ i) (j - i) (omega arith))

-- ---- of a report, whose numbers are in words, one after the other

next_is : (t : Report) (n : ℕ) (r : Option ℕ) → Lowest (in_words t.words) n numbers r → unwrap_or r numbers ≡ next_marked t n
unfolding next_marked_of
next_is t n r h = go r h (either (ltb n numbers))
  where
    go : (r : Option ℕ) → Lowest (in_words t.words) n numbers r → (ltb n numbers ≡ true) ⊎ (ltb n numbers ≡ false) → unwrap_or r numbers ≡ cond (ltb n numbers) (first_from (numbers - n) (in_words t.words) n) numbers
    go r h (inl l) =
        let within : n < numbers = ltb-true n numbers l in
        let e : n + (numbers - n) ≡ numbers = omega arith in
        rw l (rw e at (first_is (numbers - n) (in_words t.words) n r (rw e h)))
    go None h (inr l) = rw l refl
    go (Some k) h (inr l) = let past : numbers ≤ n = ltb-false n numbers l in absurd (omega (arith, h.0, h.1))

module _ (t : Report) (n : ℕ) where
  in_low : (j : ℕ) → j < 64 → in_words t.words j ≡ bit (get_or t.words 0 0) j
  in_low j l = in_at t.words 0 j l (omega arith)

  in_high : (j : ℕ) → 64 ≤ j → j < numbers → in_words t.words j ≡ bit (get_or t.words 1 0) (j - 64)
  in_high j a l = in_at t.words 1 (j - 64) (omega arith) (omega arith)

  pub next_low : (i : ℕ) → Lowest (λ j. bit (get_or t.words 0 0) j) n 64 (Some i) → i ≡ next_marked t n
  next_low i h = next_is t n (Some i) (h.0, omega (arith, h.1), in_low i h.1 ∙ h.2, λ j a b. in_low j (omega (arith, h.1)) ∙ h.3 j a b)

  module _ (none : Lowest (λ j. bit (get_or t.words 0 0) j) n 64 None) {m : ℕ} (is : m ≡ n - 64) where
    below : (j : ℕ) → n ≤ j → j < numbers → (64 ≤ j → m ≤ j - 64 → bit (get_or t.words 1 0) (j - 64) ≡ false) → in_words t.words j ≡ false
    below j a l h =
        ⊎_elim
        (λ q. let s : j < 64 = ltb-true j 64 q in in_low j s ∙ none j a s)
        (λ q. let s : 64 ≤ j = ltb-false j 64 q in in_high j s l ∙ h s (omega arith))
        (either (ltb j 64))

    pub next_high : (i : ℕ) → Lowest (λ j. bit (get_or t.words 1 0) j) m 64 (Some i) → 64 + i ≡ next_marked t n
    next_high i h =
        let e : 64 + i - 64 ≡ i = omega arith in
        next_is t n (Some (64 + i)) (
          omega (arith, h.0),
          omega (arith, h.1),
          in_high (64 + i) (omega arith) (omega (arith, h.1)) ∙ ap (bit (get_or t.words 1 0)) e ∙ h.2,
          λ j a b. below j a (omega (arith, h.1)) (λ s c. h.3 (j - 64) c (omega arith)),
        )

    pub next_none : Lowest (λ j. bit (get_or t.words 1 0) j) m 64 None → numbers ≡ next_marked t n
    next_none h = next_is t n None (λ j a b. below j a b (λ s c. h (j - 64) c (omega arith)))
