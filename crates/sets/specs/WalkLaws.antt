-- A walk through the ones of a word, lowest first: `w & (w - 1)` is what is left of it. Numbers in n words, and their rows joined, are found by such walks.
-- Assumes nothing.
use Rattle.std.specs.Prelude.{◌≡◌, ◌⊎◌, Bool, true, false, not, ◌&&◌, ◌||◌, List, ℕ, ◌+◌, ◌-◌, ◌*◌, ◌/◌, ◌%◌, ◌^◌, ◌≤◌, ◌<◌, get_or, leb, eqb}
use Rattle.std.proofs.Common.{sym, ap, ◌∙◌, inl, inr, ⊎_elim, arith, leb-true, leb-false, le-leb, eqb-true, eq-eqb, ne_eqb}
use Rattle.std.proofs.Math.Bool.{or_assoc, and-or_distrib_right, and-eq-true_iff}
use Rattle.std.specs.Int.Bits.{bit_and}
use Rattle.std.proofs.lemmas.Nat.{and_le_r}
use Rattle.std.specs.Int.Count.{count_trailing_zeros}
use Rattle.std.proofs.lemmas.Bool.{eqb-false}
use Rattle.bits.specs.Bit.{bit, in_words, words_by}
use Rattle.bits.specs.BitLaws.{bit_zero, bit_below, bit_rest, trailing_set}
use Rattle.bits.specs.WordsLaws.{Fit, in_by}
use Rattle.bits.specs.All.{any_b}
use Rattle.bits.specs.AllLaws.{either, both_ways, eqb_sym, and_i, and-false, and-true, or_false, any_i, any_at, any_ext, any_or, any_one, any_false}
use Rattle.rows.specs.Rows.{cell}
use Rattle.sets.specs.Sets.{in_word, joined}

pub in_none : (k y : ℕ) → in_word 0 k y ≡ false
unfolding in_word
in_none k y = rw (bit_zero (y - k)) (and-false (leb k y))

pub in_next : (w k y : ℕ) → w < 2 ^ 64 → 0 < w → in_word w k y ≡ (eqb y (k + count_trailing_zeros 64 w) || in_word (bit_and w (w - 1)) k y)
unfolding in_word
in_next w k y h p = go (either (leb k y))
  where
    t : ℕ
    t = count_trailing_zeros 64 w

    same : k ≤ y → eqb y (k + t) ≡ eqb (y - k) t
    same l = ⊎_elim (λ e. let d : y - k ≡ t = eqb-true _ _ e in eq-eqb y (k + t) (omega arith) ∙ sym e)
        (λ e. ne_eqb y (k + t) (λ d. absurd (eqb-false (y - k) t e (omega arith))) ∙ sym e) (either (eqb (y - k) t))

    split : (i : ℕ) → (eqb i t ≡ true) ⊎ (eqb i t ≡ false) → bit w i ≡ (eqb i t || (bit w i && not (eqb i t)))
    split i (inl e) = rw e (ap (bit w) (eqb-true i t e) ∙ trailing_set 64 w h p)
    split i (inr e) = rw e (sym (and-true (bit w i)))

    go : (leb k y ≡ true) ⊎ (leb k y ≡ false) → (leb k y && bit w (y - k)) ≡ (eqb y (k + t) || (leb k y && bit (bit_and w (w - 1)) (y - k)))
    go (inl e) = rw (e, same (leb-true k y e), bit_rest 64 w (y - k) h p) (split (y - k) (either (eqb (y - k) t)))
    go (inr e) = let l : y < k = leb-false k y e in rw (e, ne_eqb y (k + t) (λ d. omega arith))

-- what is left is less
pub rest_less : (w : ℕ) → 0 < w → bit_and w (w - 1) < w
rest_less w p = omega (arith, and_le_r w (w - 1))

-- the numbers in n words are those of each word
pub in_some : (n : ℕ) (ws : List ℕ) → Fit ws → (y : ℕ) → y < 64 * n → in_words ws y ≡ any_b n (λ j. in_word (get_or ws j 0) (64 * j) y)
unfolding in_words in_word
in_some n ws f y l = both_ways _ _ there back
  where
    there : bit (get_or ws (y / 64) 0) (y % 64) ≡ true → any_b n (λ j. leb (64 * j) y && bit (get_or ws j 0) (y - 64 * j)) ≡ true
    there h =
        let d : y - 64 * (y / 64) ≡ y % 64 = omega arith in
        any_i n _ (y / 64) (omega arith) (and_i (le-leb (64 * (y / 64)) y (omega arith)) (rw d h))

    back : any_b n (λ j. leb (64 * j) y && bit (get_or ws j 0) (y - 64 * j)) ≡ true → bit (get_or ws (y / 64) 0) (y % 64) ≡ true
    back h =
        let a = any_at n _ h in
        let b = simp and-eq-true_iff at a.2 in
        let i = bit_below 64 (get_or ws a.0 0) (y - 64 * a.0) (f.word a.0) b.1 in
        let k : 64 * a.0 ≤ y = leb-true (64 * a.0) y b.0 in
        let d : y / 64 ≡ a.0 = omega arith in
        let m : y % 64 ≡ y - 64 * a.0 = omega arith in
        rw (d, m) b.1

-- ---- whether some of the numbers below m that are in a word passes, beside what is known

module _ (m : ℕ) (p : ℕ → Bool) where
  abbrev pub some_of : (ℕ → Bool) → Bool
  some_of q = any_b m (λ y. q y && p y)

  pub some_ext : (q r : ℕ → Bool) → ((y : ℕ) → y < m → q y ≡ r y) → some_of q ≡ some_of r
  some_ext q r e = any_ext m _ _ (λ y l. rw (e y l))

  pub some_or : (a : Bool) (q r : ℕ → Bool) → ((a || some_of q) || some_of r) ≡ (a || some_of (λ y. q y || r y))
  some_or a q r =
      or_assoc a (some_of q) (some_of r)
      ∙ ap (λ (b : Bool). a || b) (sym (any_ext m _ _ (λ y l. and-or_distrib_right (q y) (r y) (p y)) ∙ any_or m _ _))

  -- the lowest one, and then what is left of the word
  pub some_next : (a : Bool) (w k x : ℕ) → w < 2 ^ 64 → 0 < w → x < m → x ≡ k + count_trailing_zeros 64 w
      → ((a || p x) || some_of (in_word (bit_and w (w - 1)) k)) ≡ (a || some_of (in_word w k))
  some_next a w k x h l b e =
      let r = in_word (bit_and w (w - 1)) k in
      ap (λ (b : Bool). (a || b) || some_of r) (sym (any_one m p x b))
      ∙ some_or a (λ y. eqb x y) r ∙ ap (λ (b : Bool). a || b) (some_ext (λ y. eqb x y || r y) (in_word w k) (λ y b. rw (eqb_sym x y, e) (sym (in_next w k y h l))))

  pub some_end : (a : Bool) (w k : ℕ) → w ≡ 0 → (a || some_of (in_word w k)) ≡ a
  some_end a w k e = ap (λ (b : Bool). a || b) (some_ext (in_word w k) (λ y. false) (λ y l. rw e (in_none k y)) ∙ any_false m) ∙ or_false a

-- ---- the rows of some numbers together

module _ (n : ℕ) (ws : List ℕ) where
  pub joined_ext : (q r : ℕ → Bool) (x : ℕ) → ((y : ℕ) → y < 64 * n → q y ≡ r y) → joined n ws q x ≡ joined n ws r x
  unfolding joined
  joined_ext q r x e = some_ext (64 * n) (λ y. cell n ws y x) q r e

  -- the row of the lowest one is joined, and then what is left of the word
  pub joined_next : (a : Bool) (w k z x : ℕ) → w < 2 ^ 64 → 0 < w → z < 64 * n → z ≡ k + count_trailing_zeros 64 w
      → ((a || cell n ws z x) || joined n ws (in_word (bit_and w (w - 1)) k) x) ≡ (a || joined n ws (in_word w k) x)
  unfolding joined
  joined_next a w k z x h l b e = some_next (64 * n) (λ y. cell n ws y x) a w k z h l b e

  pub joined_end : (a : Bool) (w k x : ℕ) → w ≡ 0 → (a || joined n ws (in_word w k) x) ≡ a
  unfolding joined
  joined_end a w k x e = some_end (64 * n) (λ y. cell n ws y x) a w k e

  -- the words of a row
  pub in_row : (z x : ℕ) → x < 64 * n → in_words (words_by n (λ j. get_or ws (n * z + j) 0)) x ≡ cell n ws z x
  unfolding cell
  in_row z x l = in_by n _ x l
