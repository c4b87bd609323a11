-- Laws of sets: those of words and of rows, at the words that a set has.
-- Assumes nothing.
use Rattle.std.specs.Prelude.{◌≡◌, refl, Bool, true, false, not, cond, ◌&&◌, ◌||◌, List, [], ◌∷◌, get_or, set, ℕ, ◌+◌, ◌-◌, ◌*◌, ◌/◌, ◌%◌, ◌^◌, ◌≤◌, ◌<◌, eqb, bit_and, bit_or}
use Rattle.std.specs.Int.Bits.{and_lt}
use Rattle.std.proofs.Common.{sym, ap, ap₂, ◌∙◌, add-zero, arith, leb-true}
use Rattle.std.proofs.Math.Bool.{and-eq-true_iff}
use Rattle.std.proofs.lemmas.Nat.{or_lt}
use Rattle.std.proofs.Math.Pow.{pow-lt, ones_sub-lt}
use Rattle.bits.specs.Bit.{bit, word_of, in_words, words_of, words_by}
use Rattle.bits.specs.BitLaws.{bit_below, bit_ext, bit_and_law, bit_or_law, bit_not, bit_one, word_is}
use Rattle.bits.specs.WordsLaws.{Fit, fit_none, fit_more, in_zeros, none_in, in_words_law, words_are, words_ext, in_each}
use Rattle.bits.specs.All.{all_b, any_b, up_to}
use Rattle.bits.specs.AllLaws.{none_at}
use Rattle.rows.specs.Size.{row_size, numbers}
use Rattle.rows.specs.Rows.{cell, join_row}
use Rattle.rows.proofs.RowLaws.{same_place}
use Rattle.sets.specs.declared.Set.{Set}
use Rattle.sets.specs.Sets.{Within, words, of_words, has, set_of, in_word, joined}
use Rattle.sets.specs.WalkLaws.{in_some, some_of, some_ext, some_or, in_row}

abbrev pub pair : ℕ → ℕ → Set
pair a b = record { low = a; high = b }

-- the high word by its complement
abbrev pub turned : ℕ → ℕ → Set
turned a b = pair a ((2 ^ 64 - 1) - b)

pub fits : {a b : ℕ} → a < 2 ^ 64 → b < 2 ^ 64 → Fit (a ∷ b ∷ [])
fits f h = fit_more f (fit_more h fit_none)

-- ---- a set is that of its numbers

pub set_is : (p : ℕ → Bool) (s : Set) → Fit (words s) → ((x : ℕ) → x < numbers → has s x ≡ p x) → s ≡ set_of p
unfolding has set_of
set_is p s f e = ap of_words (words_are row_size p (words s) refl f e)

pub set_words : (p : ℕ → Bool) {s : Set} → s ≡ set_of p → words s ≡ words_of row_size p
unfolding set_of words_of words_by
set_words p e = ap words e

pub in_set : (p : ℕ → Bool) {s : Set} → s ≡ set_of p → (x : ℕ) → x < numbers → has s x ≡ p x
unfolding has
in_set p e x l = ap (λ (ws : List ℕ). in_words ws x) (set_words p e) ∙ in_words_law row_size p x l

pub set_ext : (p q : ℕ → Bool) → ((x : ℕ) → x < numbers → p x ≡ q x) → set_of p ≡ set_of q
unfolding set_of
set_ext p q e = ap of_words (words_ext row_size p q e)

-- a set word by word
pub set_pair : (p : ℕ → Bool) {a b : ℕ} → a ≡ word_of (λ i. p (0 + i)) → b ≡ word_of (λ i. p (64 + i)) → pair a b ≡ set_of p
unfolding set_of words_of words_by
set_pair p e f = ap₂ pair e f

-- no number of a word exceeds the last, if that word is one of a set's
pub word_within : (w k : ℕ) → w < 2 ^ 64 → k + 64 ≤ numbers → Within (in_word w k)
unfolding in_word
word_within w k h l y e = let p = simp and-eq-true_iff at e in omega (arith, leb-true k y p.0, bit_below 64 w (y - k) h p.1)

pub has_words : (s : Set) → Fit (words s) → (y : ℕ) → y < numbers → has s y ≡ (in_word s.low 0 y || in_word s.high 64 y)
unfolding has any_b
has_words s f y l = in_some row_size (words s) f y l

pub some_words : (p : ℕ → Bool) (a : Bool) (s : Set) → Fit (words s)
    → ((a || some_of numbers p (in_word s.low 0)) || some_of numbers p (in_word s.high 64)) ≡ (a || some_of numbers p (has s))
some_words p a s f = some_or numbers p a (in_word s.low 0) (in_word s.high 64) ∙ ap (λ (b : Bool). a || b) (some_ext numbers p _ (has s) (λ y l. sym (has_words s f y l)))

-- no number is in a set of zero words, and some number is in any other
pub empty_is : (s : Set) → Fit (words s) → (eqb s.low 0 && eqb s.high 0) ≡ not (any_b numbers (has s))
unfolding has all_b
empty_is s f = none_in row_size (words s) f

-- no number passes whose set is empty
pub empty_at : (p : ℕ → Bool) {s : Set} → s ≡ set_of p → any_b numbers (has s) ≡ false → (y : ℕ) → y < numbers → p y ≡ false
empty_at p {s} e h y l = sym (in_set p e y l) ∙ none_at numbers (has s) h y l

-- an operation on the words that acts on each bit
module _ (op : Bool → Bool → Bool) (g : ℕ → ℕ → ℕ) (bit_g : (a b i : ℕ) → b < 2 ^ 64 → i < 64 → bit (g a b) i ≡ op (bit a i) (bit b i))
    (g_lt : (a b : ℕ) → a < 2 ^ 64 → b < 2 ^ 64 → g a b < 2 ^ 64) where
  pub each_bit : (a b : Set) → Fit (words a) → Fit (words b) → pair (g a.low b.low) (g a.high b.high) ≡ set_of (λ x. op (has a x) (has b x))
  unfolding has words_by
  each_bit a b f h =
      set_is _ _ (fits (g_lt _ _ (f.word 0) (h.word 0)) (g_lt _ _ (f.word 1) (h.word 1))) (λ x l. in_each op g bit_g row_size (words a) (words b) h x l)

-- ---- the set of one number

-- the word that has x has its bit, and every other is 0
one_word : (k x : ℕ) → cond (eqb k (x / 64)) (2 ^ (x % 64)) 0 ≡ word_of (λ i. eqb (64 * k + i) x)
one_word k x =
    let d : x ≡ 64 * (x / 64) + x % 64 = omega arith in
    word_is _ _ (below (eqb k (x / 64)))
    (λ i b. bit_one (eqb k (x / 64)) (x % 64) i ∙ sym (ap (eqb (64 * k + i)) d ∙ same_place 64 (x / 64) (x % 64) k i (omega arith) b))
  where
    below : (b : Bool) → cond b (2 ^ (x % 64)) 0 < 2 ^ 64
    below true = pow-lt {j = 64} (omega arith)
    below false = omega arith

pub only_is : (x k : ℕ) → x / 64 ≡ k → pair (cond (eqb 0 k) (2 ^ (x % 64)) 0) (cond (eqb 1 k) (2 ^ (x % 64)) 0) ≡ set_of (λ y. eqb y x)
only_is x k e = rw (← e) (set_pair (λ y. eqb y x) (one_word 0 x) (one_word 1 x))

-- ---- rows as sets

-- a word joined to another that is kept as its complement a
join_not : (a w : ℕ) → a < 2 ^ 64 → w < 2 ^ 64 → (2 ^ 64 - 1) - bit_and a ((2 ^ 64 - 1) - w) ≡ bit_or ((2 ^ 64 - 1) - a) w
join_not a w h k =
    let f : bit_and a ((2 ^ 64 - 1) - w) < 2 ^ 64 = and_lt 64 a _ h (ones_sub-lt 64 w) in
    bit_ext 64 _ _ (ones_sub-lt 64 _) (or_lt 64 _ _ (ones_sub-lt 64 a) k)
    (λ i l. bit_not 64 _ i f l ∙ ap not (bit_and_law a _ i ∙ ap (λ (b : Bool). bit a i && b) (bit_not 64 w i k l)) ∙ both (bit a i) (bit w i)
    ∙ sym (bit_or_law _ w i ∙ ap (λ (b : Bool). b || bit w i) (bit_not 64 a i h l)))
  where
    both : (p q : Bool) → not (p && not q) ≡ (not p || q)
    both true true = refl
    both true false = refl
    both false q = refl

-- the words a and b joined at the places k and l
abbrev stored : List ℕ → ℕ → ℕ → ℕ → ℕ → List ℕ
stored ws k l a b = let v = set ws k (bit_or (get_or ws k 0) a) in set v l (bit_or (get_or v l 0) b)

module _ (ws : List ℕ) where
  pub has_row : (z x : ℕ) → x < numbers → has (pair (get_or ws (row_size * z) 0) (get_or ws (row_size * z + 1) 0)) x ≡ cell row_size ws z x
  unfolding has words_by
  has_row z x l = ap (λ (k : ℕ). in_words (get_or ws k 0 ∷ get_or ws (row_size * z + 1) 0 ∷ []) x) (sym (add-zero (row_size * z))) ∙ in_row row_size ws z x l

  -- row z joined to a set whose high word is kept as its complement
  pub has_join : Fit ws → (a b z x : ℕ) → b < 2 ^ 64 → x < numbers
      → has (turned (bit_or a (get_or ws (row_size * z) 0)) (bit_and b ((2 ^ 64 - 1) - get_or ws (row_size * z + 1) 0))) x ≡ (has (turned a b) x || cell row_size ws z x)
  unfolding has words_by
  has_join f a b z x h l =
      let row = pair (get_or ws (row_size * z) 0) (get_or ws (row_size * z + 1) 0) in
      ap (λ (w : ℕ). has (pair (bit_or a row.low) w) x) (join_not b row.high h (f.word _))
      ∙ in_each (λ p q. p || q) bit_or (λ u v i k m. bit_or_law u v i) row_size (words (turned a b)) (words row) (fits (f.word _) (f.word _)) x l
      ∙ ap (λ (q : Bool). has (turned a b) x || q) (has_row z x l)

  -- the rows of a set's numbers, word by word
  pub joined_words : (s : Set) → Fit (words s) → (x : ℕ) → x < numbers
      → ((has (pair 0 0) x || joined row_size ws (in_word s.low 0) x) || joined row_size ws (in_word s.high 64) x) ≡ joined row_size ws (has s) x
  unfolding has joined
  joined_words s f x l = rw (in_zeros row_size x) (some_words (λ y. cell row_size ws y x) false s f)

  -- a set joined to row x, word by word
  pub join_is : (s : Set) → Fit (words s) → (x : ℕ) → stored ws (row_size * x) (row_size * x + 1) s.low s.high ≡ join_row row_size x (has s) ws
  unfolding join_row up_to words_of words_by
  join_is s f x =
      ap (λ (k : ℕ). stored ws k (row_size * x + 1) s.low s.high) (sym (add-zero (row_size * x)))
      ∙ ap (λ (l : List ℕ). stored ws (row_size * x + 0) (row_size * x + 1) (get_or l 0 0) (get_or l 1 0)) (set_words (has s) (set_is (has s) s f (λ y l. refl)))
