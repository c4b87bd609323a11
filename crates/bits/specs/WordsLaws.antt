-- Laws of words with a bit for each number, 64 numbers a word, for every number n of words.
-- Assumes nothing.
use Rattle.std.specs.Prelude.{◌≡◌, refl, Bool, true, false, not, List, [], ◌∷◌, ℕ, zero, suc, ◌+◌, ◌*◌, ◌/◌, ◌%◌, ◌^◌, ◌<◌, eqb, length, get_or, replicate}
use Rattle.std.proofs.Common.{sym, ap, ◌∙◌, arith, ext_get_or, eqb-true, eq-eqb}
use Rattle.std.proofs.lemmas.Bool.{not-true}
use Rattle.bits.specs.Bit.{bit, in_words, words_of, words_by}
use Rattle.bits.specs.BitLaws.{bit_zero, bit_ext, bit_word, word_is, word_lt}
use Rattle.bits.specs.All.{all_b, any_b}
use Rattle.bits.specs.AllLaws.{both_ways, all_at, all_i, none_at, any_ext, any_false}

-- each of them is a word
pub record Fit (ws : List ℕ) : Type 0 where
  pub word : (j : ℕ) → get_or ws j 0 < 2 ^ 64

pub fit_none : Fit []
fit_none = record { word = λ j. omega arith }

pub fit_more : {w : ℕ} {ws : List ℕ} → w < 2 ^ 64 → Fit ws → Fit (w ∷ ws)
fit_more {w} {ws} h f = record { word = word }
  where
    word : (j : ℕ) → get_or (w ∷ ws) j 0 < 2 ^ 64
    word zero = h
    word (suc j) = f.word j

-- ---- a number in words

-- bit i of word j
pub in_at : (ws : List ℕ) (j i : ℕ) {x : ℕ} → i < 64 → x ≡ 64 * j + i → in_words ws x ≡ bit (get_or ws j 0) i
unfolding in_words
in_at ws j i {x} l e = let d : x / 64 ≡ j = omega arith in let m : x % 64 ≡ i = omega arith in rw (d, m)

pub get_d_zeros : (n j : ℕ) → ◌≡◌ {A = ℕ} (get_or (replicate n 0) j 0) 0
get_d_zeros zero j = refl
get_d_zeros (suc n) zero = refl
get_d_zeros (suc n) (suc j) = get_d_zeros n j

pub in_zeros : (n x : ℕ) → in_words (replicate n 0) x ≡ false
unfolding in_words
in_zeros n x = ap (λ (w : ℕ). bit w (x % 64)) (get_d_zeros n (x / 64)) ∙ bit_zero (x % 64)

-- no number is in words that are all zero, and some number is in any others
pub none_in : (n : ℕ) (ws : List ℕ) → Fit ws → all_b n (λ j. eqb (get_or ws j 0) 0) ≡ not (any_b (64 * n) (in_words ws))
unfolding in_words
none_in n ws f = both_ways _ _ there back
  where
    there : all_b n (λ j. eqb (get_or ws j 0) 0) ≡ true → not (any_b (64 * n) (in_words ws)) ≡ true
    there h =
        ap not
        (any_ext (64 * n) (in_words ws) (λ x. false) (λ x l. ap (λ (w : ℕ). bit w (x % 64)) (eqb-true _ 0 (all_at n _ h (x / 64) (omega arith))) ∙ bit_zero (x % 64)) ∙ any_false (64 * n))

    back : not (any_b (64 * n) (in_words ws)) ≡ true → all_b n (λ j. eqb (get_or ws j 0) 0) ≡ true
    back h = all_i n _ (λ j l. eq-eqb _ 0 (bit_ext 64 _ 0 (f.word j) (omega arith) (λ i b. sym (in_at ws j i b refl) ∙ none_at (64 * n) (in_words ws) (not-true _ h) (64 * j + i) (omega arith) ∙ sym (bit_zero i))))

-- ---- words one by one

length_by : (n : ℕ) (f : ℕ → ℕ) → length (words_by n f) ≡ n
unfolding words_by
length_by zero f = refl
length_by (suc n) f = ap suc (length_by n (λ j. f (suc j)))

by_at : (n : ℕ) (f : ℕ → ℕ) (j : ℕ) → j < n → get_or (words_by n f) j 0 ≡ f j
unfolding words_by
by_at zero f j l = absurd (omega arith)
by_at (suc n) f zero l = refl
by_at (suc n) f (suc j) l = by_at n (λ i. f (suc i)) j (omega arith)

words_by_law : (n : ℕ) (f : ℕ → ℕ) (ws : List ℕ) → length ws ≡ n → ((j : ℕ) → j < n → get_or ws j 0 ≡ f j) → ws ≡ words_by n f
words_by_law n f ws k e = ext_get_or 0 ws (words_by n f) (k ∙ sym (length_by n f)) (λ j l. e j (omega arith) ∙ sym (by_at n f j (omega arith)))

pub in_by : (n : ℕ) (f : ℕ → ℕ) (x : ℕ) → x < 64 * n → in_words (words_by n f) x ≡ bit (f (x / 64)) (x % 64)
unfolding in_words
in_by n f x l = ap (λ (w : ℕ). bit w (x % 64)) (by_at n f (x / 64) (omega arith))

-- an operation on words that acts on each bit
pub in_each : (op : Bool → Bool → Bool) (g : ℕ → ℕ → ℕ) → ((a b i : ℕ) → b < 2 ^ 64 → i < 64 → bit (g a b) i ≡ op (bit a i) (bit b i))
    → (n : ℕ) (vs ws : List ℕ) → Fit ws → (x : ℕ) → x < 64 * n → in_words (words_by n (λ j. g (get_or vs j 0) (get_or ws j 0))) x ≡ op (in_words vs x) (in_words ws x)
unfolding in_words
in_each op g bit_g n vs ws f x l = in_by n _ x l ∙ bit_g _ _ (x % 64) (f.word (x / 64)) (omega arith)

-- ---- the words of the numbers that pass

pub in_words_law : (n : ℕ) (p : ℕ → Bool) (x : ℕ) → x < 64 * n → in_words (words_of n p) x ≡ p x
unfolding words_of
in_words_law n p x l =
    let d : 64 * (x / 64) + x % 64 ≡ x = omega arith in
    in_by n _ x l ∙ bit_word (λ i. p (64 * (x / 64) + i)) (x % 64) (omega arith) ∙ ap p d

pub words_are : (n : ℕ) (p : ℕ → Bool) (ws : List ℕ) → length ws ≡ n → Fit ws → ((x : ℕ) → x < 64 * n → in_words ws x ≡ p x) → ws ≡ words_of n p
unfolding words_of
words_are n p ws k f e =
    words_by_law n _ ws k (λ j l. word_is (λ i. p (64 * j + i)) (get_or ws j 0) (f.word j) (λ i b. sym (in_at ws j i b refl) ∙ e (64 * j + i) (omega arith)))

pub words_ext : (n : ℕ) (p q : ℕ → Bool) → ((x : ℕ) → x < 64 * n → p x ≡ q x) → words_of n p ≡ words_of n q
unfolding words_of
words_ext n p q e =
    words_by_law n _ _ (length_by n _)
    (λ j l. by_at n _ j l ∙ word_is (λ i. q (64 * j + i)) _ (word_lt _) (λ i b. bit_word (λ i. p (64 * j + i)) i b ∙ e (64 * j + i) (omega arith)))
