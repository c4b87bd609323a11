-- The laws of a bit under the machine's operations, each an equation of Bools.
-- Assumes nothing.
use Rattle.std.specs.Prelude.{◌≡◌, refl, ◌⊎◌, Bool, true, false, not, cond, ◌&&◌, ◌||◌, ℕ, zero, suc, ◌+◌, ◌-◌, ◌*◌, ◌/◌, ◌%◌, ◌^◌, ◌≤◌, ◌<◌, eqb}
use Rattle.std.proofs.Common.{sym, ap, ◌∙◌, subst, inl, inr, ⊎_elim, le_of_suc-le-suc, not-suc-le-zero, zero-lt-suc, mod-lt, div-one, lt_of_not-le, mod-eq_of_lt, one-mul, eq-or-lt_of_le, le_refl, arith, one-add, shr-shr, eqb-true, eq-eqb, ne_eqb}
use Rattle.std.proofs.lemmas.Bool.{false≢true}
use Rattle.std.proofs.Math.Bool.{and-eq-true_iff}
use Rattle.std.proofs.Math.Arith.{lt-one}
use Rattle.std.specs.Int.Bits.{bit_and, bit_or, or_add_and, or_shifted_r, or_zero_r}
use Rattle.std.proofs.lemmas.Nat.{and_shr, or_shr, and_mod, or_mod, and_le_l, and_le_r}
use Rattle.std.specs.Int.Count.{count_trailing_zeros, under}
use Rattle.std.proofs.Math.Dec.{eqb-suc-suc, eqb-zero-suc, eqb-suc-zero}
use Rattle.std.proofs.Math.Pow.{pow-lt}
use Rattle.bits.specs.Bit.{bit, word_of}
use Rattle.bits.specs.All.{up_to}
use Rattle.bits.specs.AllLaws.{and-true, and-false, or_false, both_ways}

and_same : (a : Bool) → (a && a) ≡ (a && true)
and_same true = refl
and_same false = refl

-- an `or` is 0 where both are
pub or_zero : (a b : ℕ) → eqb (bit_or a b) 0 ≡ (eqb a 0 && eqb b 0)
or_zero a b =
    both_ways _ _
    (λ h. simp and-eq-true_iff (omega (arith, eqb-true, eq-eqb, or_add_and a b, and_le_l a b, and_le_r a b)))
    (λ h. let p = simp and-eq-true_iff at h in omega (arith, eqb-true, eq-eqb, or_add_and a b, and_le_l a b, and_le_r a b))

-- a lowest digit is 0 or 1
pub digit : (x : ℕ) → (x % 2 ≡ 0) ⊎ (x % 2 ≡ 1)
digit x = go (x % 2) (mod-lt x (zero-lt-suc 1))
  where
    go : (d : ℕ) → d < 2 → (d ≡ 0) ⊎ (d ≡ 1)
    go zero h = inl refl
    go (suc zero) h = inr refl
    go (suc (suc d)) h = absurd (not-suc-le-zero (le_of_suc-le-suc (le_of_suc-le-suc h)))

-- ---- one digit at a time

pub bit_low : (w : ℕ) → bit w 0 ≡ eqb (w % 2) 1
unfolding bit
bit_low w = rw div-one

pub bit_half : (w i : ℕ) → bit w (suc i) ≡ bit (w / 2) i
unfolding bit
bit_half w i = ap (λ (x : ℕ). eqb (w / 2 ^ x % 2) 1) (sym (one-add i)) ∙ ap (λ (x : ℕ). eqb (x % 2) 1) (sym (shr-shr w 1 i))

-- ---- the operations, bit by bit

pub bit_and_law : (a b i : ℕ) → bit (bit_and a b) i ≡ (bit a i && bit b i)
unfolding bit
bit_and_law a b i =
    ap (λ (x : ℕ). eqb x 1) (ap (λ (x : ℕ). x % 2) (and_shr a b i) ∙ and_mod (a / 2 ^ i) (b / 2 ^ i) 1)
    ∙ go (a / 2 ^ i % 2) (b / 2 ^ i % 2) (digit (a / 2 ^ i)) (digit (b / 2 ^ i))
  where
    go : (p q : ℕ) → (p ≡ 0) ⊎ (p ≡ 1) → (q ≡ 0) ⊎ (q ≡ 1) → eqb (bit_and p q) 1 ≡ (eqb p 1 && eqb q 1)
    go p q (inl e) (inl f) = simp (e, f)
    go p q (inl e) (inr f) = simp (e, f)
    go p q (inr e) (inl f) = simp (e, f)
    go p q (inr e) (inr f) = simp (e, f)

pub bit_or_law : (a b i : ℕ) → bit (bit_or a b) i ≡ (bit a i || bit b i)
unfolding bit
bit_or_law a b i =
    ap (λ (x : ℕ). eqb x 1) (ap (λ (x : ℕ). x % 2) (or_shr a b i) ∙ or_mod (a / 2 ^ i) (b / 2 ^ i) 1)
    ∙ go (a / 2 ^ i % 2) (b / 2 ^ i % 2) (digit (a / 2 ^ i)) (digit (b / 2 ^ i))
  where
    go : (p q : ℕ) → (p ≡ 0) ⊎ (p ≡ 1) → (q ≡ 0) ⊎ (q ≡ 1) → eqb (bit_or p q) 1 ≡ (eqb p 1 || eqb q 1)
    go p q (inl e) (inl f) = simp (e, f)
    go p q (inl e) (inr f) = simp (e, f)
    go p q (inr e) (inl f) = simp (e, f)
    go p q (inr e) (inr f) = simp (e, f)

pub bit_zero : (i : ℕ) → bit 0 i ≡ false
bit_zero zero = bit_low 0
bit_zero (suc i) = bit_half 0 i ∙ bit_zero i

-- the complement at a width
pub bit_not : (k a i : ℕ) → a < 2 ^ k → i < k → bit ((2 ^ k - 1) - a) i ≡ not (bit a i)
bit_not zero a i h l = absurd (not-suc-le-zero l)
bit_not (suc k) a zero h l = bit_low _ ∙ go (digit a) ∙ ap not (sym (bit_low a))
  where
    go : (a % 2 ≡ 0) ⊎ (a % 2 ≡ 1) → eqb (((2 ^ suc k - 1) - a) % 2) 1 ≡ not (eqb (a % 2) 1)
    go (inl e) = let f : ((2 ^ suc k - 1) - a) % 2 ≡ 1 = omega arith in simp (e, f)
    go (inr e) = let f : ((2 ^ suc k - 1) - a) % 2 ≡ 0 = omega arith in simp (e, f)
bit_not (suc k) a (suc i) h l =
    let e : ((2 ^ suc k - 1) - a) / 2 ≡ (2 ^ k - 1) - a / 2 = omega arith in
    bit_half _ i ∙ ap (λ (x : ℕ). bit x i) e ∙ bit_not k (a / 2) i (omega arith) (le_of_suc-le-suc l) ∙ ap not (sym (bit_half a i))

-- a power of two has one bit
pub bit_pow : (j i : ℕ) → bit (2 ^ j) i ≡ eqb i j
bit_pow zero zero = bit_low 1
bit_pow zero (suc i) = bit_half 1 i ∙ bit_zero i ∙ sym (eqb-suc-zero i)
bit_pow (suc j) zero =
    let e : 2 ^ suc j % 2 ≡ 0 = omega arith in bit_low _ ∙ ap (λ (x : ℕ). eqb x 1) e ∙ sym (eqb-zero-suc j)
bit_pow (suc j) (suc i) =
    let e : 2 ^ suc j / 2 ≡ 2 ^ j = omega arith in bit_half _ i ∙ ap (λ (x : ℕ). bit x i) e ∙ bit_pow j i ∙ sym (eqb-suc-suc i j)

-- a word of one bit, or of none
pub bit_one : (b : Bool) (j i : ℕ) → bit (cond b (2 ^ j) 0) i ≡ (b && eqb i j)
bit_one true j i = bit_pow j i
bit_one false j i = bit_zero i

-- a number of k digits has no bit past them
pub bit_past : (k w i : ℕ) → w < 2 ^ k → k ≤ i → bit w i ≡ false
bit_past zero w i h l = ap (λ (x : ℕ). bit x i) (lt-one h) ∙ bit_zero i
bit_past (suc k) w zero h l = absurd (not-suc-le-zero l)
bit_past (suc k) w (suc i) h l = bit_half w i ∙ bit_past k (w / 2) i (omega arith) (le_of_suc-le-suc l)

pub bit_below : (k w i : ℕ) → w < 2 ^ k → bit w i ≡ true → i < k
bit_below k w i h e = lt_of_not-le (λ (l : k ≤ i). false≢true (sym (bit_past k w i h l) ∙ e))

-- two numbers of k digits are equal by their bits
digit_eq : (a b : ℕ) → eqb (a % 2) 1 ≡ eqb (b % 2) 1 → a % 2 ≡ b % 2
digit_eq a b e = go (a % 2) (b % 2) (digit a) (digit b) e
  where
    go : (p q : ℕ) → (p ≡ 0) ⊎ (p ≡ 1) → (q ≡ 0) ⊎ (q ≡ 1) → eqb p 1 ≡ eqb q 1 → p ≡ q
    go p q (inl u) (inl v) e = cc
    go p q (inl u) (inr v) e = cc
    go p q (inr u) (inl v) e = cc
    go p q (inr u) (inr v) e = cc

pub bit_ext : (k a b : ℕ) → a < 2 ^ k → b < 2 ^ k → ((i : ℕ) → i < k → bit a i ≡ bit b i) → a ≡ b
bit_ext zero a b ha hb h = lt-one ha ∙ sym (lt-one hb)
bit_ext (suc k) a b ha hb h =
    let hi : a / 2 ≡ b / 2 = bit_ext k (a / 2) (b / 2) (omega arith) (omega arith) (λ i l. sym (bit_half a i) ∙ h (suc i) (omega arith) ∙ bit_half b i) in
    let lo : a % 2 ≡ b % 2 = digit_eq a b (sym (bit_low a) ∙ h 0 (omega arith) ∙ bit_low b) in
    omega arith

-- ---- the lowest set bit, as `u64::trailing_zeros` finds it

-- a nonzero number's bit at `count_trailing_zeros` is set, and none below it is
pub trailing_set : (k w : ℕ) → w < 2 ^ k → 0 < w → bit w (count_trailing_zeros k w) ≡ true
unfolding count_trailing_zeros
trailing_set zero w h p = absurd (not-suc-le-zero (subst (λ (x : ℕ). 0 < x) (lt-one h) p))
trailing_set (suc k) w h p = go (λ q. trailing_set k (w / 2) (omega arith) q) (digit w)
  where
    go : (0 < w / 2 → bit (w / 2) (count_trailing_zeros k (w / 2)) ≡ true) → (w % 2 ≡ 0) ⊎ (w % 2 ≡ 1) → bit w (under (w % 2) (count_trailing_zeros k (w / 2))) ≡ true
    go rest (inl e) = ap (λ (d : ℕ). bit w (under d (count_trailing_zeros k (w / 2)))) e ∙ bit_half w _ ∙ rest (omega arith)
    go rest (inr e) = ap (λ (d : ℕ). bit w (under d (count_trailing_zeros k (w / 2)))) e ∙ bit_low w ∙ ap (λ (d : ℕ). eqb d 1) e

pub trailing_below : (k w i : ℕ) → i < count_trailing_zeros k w → bit w i ≡ false
unfolding count_trailing_zeros
trailing_below zero w i l = absurd (not-suc-le-zero l)
trailing_below (suc k) w zero l = go (digit w) l
  where
    go : (w % 2 ≡ 0) ⊎ (w % 2 ≡ 1) → 0 < under (w % 2) (count_trailing_zeros k (w / 2)) → bit w 0 ≡ false
    go (inl e) l = bit_low w ∙ ap (λ (d : ℕ). eqb d 1) e
    go (inr e) l = absurd (not-suc-le-zero (subst (λ (d : ℕ). 0 < under d (count_trailing_zeros k (w / 2))) e l))
trailing_below (suc k) w (suc i) l = bit_half w i ∙ trailing_below k (w / 2) i (go (digit w) l)
  where
    go : (w % 2 ≡ 0) ⊎ (w % 2 ≡ 1) → suc i < under (w % 2) (count_trailing_zeros k (w / 2)) → i < count_trailing_zeros k (w / 2)
    go (inl e) l = le_of_suc-le-suc (subst (λ (d : ℕ). suc i < under d (count_trailing_zeros k (w / 2))) e l)
    go (inr e) l = absurd (not-suc-le-zero (subst (λ (d : ℕ). suc i < under d (count_trailing_zeros k (w / 2))) e l))

pub trailing_lt : (k w : ℕ) → w < 2 ^ k → 0 < w → count_trailing_zeros k w < k
trailing_lt k w h p = bit_below k w (count_trailing_zeros k w) h (trailing_set k w h p)

below : (k w i : ℕ) → w < 2 ^ k → 0 < w → (bit w i && bit (w - 1) i) ≡ (bit w i && not (eqb i (count_trailing_zeros k w)))
unfolding count_trailing_zeros
below zero w i h p = absurd (not-suc-le-zero (subst (λ (x : ℕ). 0 < x) (lt-one h) p))
below (suc k) w i h p = go i (λ j q. below k (w / 2) j (omega arith) q) (digit w)
  where
    go : (i : ℕ) → ((j : ℕ) → 0 < w / 2 → (bit (w / 2) j && bit (w / 2 - 1) j) ≡ (bit (w / 2) j && not (eqb j (count_trailing_zeros k (w / 2)))))
        → (w % 2 ≡ 0) ⊎ (w % 2 ≡ 1) → (bit w i && bit (w - 1) i) ≡ (bit w i && not (eqb i (under (w % 2) (count_trailing_zeros k (w / 2)))))
    go zero rest (inl e) = rw (bit_low w, e)
    go zero rest (inr e) = let f : (w - 1) % 2 ≡ 0 = omega arith in rw (bit_low (w - 1), f, e)
    go (suc i) rest (inl e) =
        let f : (w - 1) / 2 ≡ w / 2 - 1 = omega arith in
        rw (e, bit_half w i, bit_half (w - 1) i, f, eqb-suc-suc i (count_trailing_zeros k (w / 2))) (rest i (omega arith))
    go (suc i) rest (inr e) =
        let f : (w - 1) / 2 ≡ w / 2 = omega arith in
        rw (e, bit_half w i, bit_half (w - 1) i, f, eqb-suc-zero i) (and_same (bit (w / 2) i))

-- `w & (w - 1)` has not the lowest one, and every other
pub bit_rest : (k w i : ℕ) → w < 2 ^ k → 0 < w → bit (bit_and w (w - 1)) i ≡ (bit w i && not (eqb i (count_trailing_zeros k w)))
bit_rest k w i h p = bit_and_law w (w - 1) i ∙ below k w i h p

-- `1 << i` at a width k
pub one_shl : (k i : ℕ) → i < k → (1 * 2 ^ i) % 2 ^ k ≡ 2 ^ i
one_shl k i h = ap (λ (x : ℕ). x % 2 ^ k) (one-mul (2 ^ i)) ∙ mod-eq_of_lt (pow-lt h)

-- ---- a word made of tests

-- its k lowest digits
unfoldable pub low_word : (ℕ → Bool) → ℕ → ℕ
low_word p k = up_to (λ i w. cond (p i) (w + 2 ^ i) w) k 0

pub low_lt : (p : ℕ → Bool) (k : ℕ) → low_word p k < 2 ^ k
unfolding low_word up_to
low_lt p zero = omega arith
low_lt p (suc k) = go (p k) (low_lt p k)
  where
    go : (b : Bool) → low_word p k < 2 ^ k → cond b (low_word p k + 2 ^ k) (low_word p k) < 2 ^ suc k
    go true h = omega arith
    go false h = omega arith

-- one more digit, set as a machine sets it
pub low_more : (p : ℕ → Bool) (k : ℕ) → bit_or (low_word p k) (cond (p k) (2 ^ k) 0) ≡ low_word p (suc k)
unfolding low_word up_to
low_more p k = go (p k)
  where
    go : (b : Bool) → bit_or (low_word p k) (cond b (2 ^ k) 0) ≡ cond b (low_word p k + 2 ^ k) (low_word p k)
    go true = ap (bit_or (low_word p k)) (sym (one-mul (2 ^ k))) ∙ or_shifted_r 1 k (low_word p k) (low_lt p k) ∙ omega arith
    go false = or_zero_r (low_word p k)

pub bit_low_word : (p : ℕ → Bool) (k i : ℕ) → i < k → bit (low_word p k) i ≡ p i
bit_low_word p zero i l = absurd (not-suc-le-zero l)
bit_low_word p (suc k) i l =
    ap (λ (w : ℕ). bit w i) (sym (low_more p k)) ∙ bit_or_law _ _ i ∙ ap (λ (b : Bool). bit (low_word p k) i || b) (bit_one (p k) k i)
    ∙ ⊎_elim last (λ h. earlier h (bit_low_word p k i h)) (eq-or-lt_of_le (le_of_suc-le-suc l))
  where
    last : i ≡ k → (bit (low_word p k) i || (p k && eqb i k)) ≡ p i
    last e = rw (e, bit_past k (low_word p k) k (low_lt p k) (le_refl k), eq-eqb k k refl) (and-true (p k))

    earlier : i < k → bit (low_word p k) i ≡ p i → (bit (low_word p k) i || (p k && eqb i k)) ≡ p i
    earlier h e = rw (e, ne_eqb i k (λ e. omega arith), and-false (p k)) (or_false (p i))

pub word_lt : (p : ℕ → Bool) → word_of p < 2 ^ 64
unfolding word_of low_word
word_lt p = low_lt p 64

pub bit_word : (p : ℕ → Bool) (i : ℕ) → i < 64 → bit (word_of p) i ≡ p i
unfolding word_of low_word
bit_word p i l = bit_low_word p 64 i l

-- a word is that of its bits
pub word_is : (p : ℕ → Bool) (w : ℕ) → w < 2 ^ 64 → ((i : ℕ) → i < 64 → bit w i ≡ p i) → w ≡ word_of p
word_is p w h e = bit_ext 64 w (word_of p) h (word_lt p) (λ i l. e i l ∙ sym (bit_word p i l))
