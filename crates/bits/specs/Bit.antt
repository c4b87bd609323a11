-- A bit of a number, and four bytes as one number.
-- Assumes nothing.
use Rattle.std.specs.Prelude.{Bool, cond, List, [], ◌∷◌, ℕ, zero, suc, ◌+◌, ◌*◌, ◌/◌, ◌%◌, ◌^◌, eqb, get_or}
use Rattle.bits.specs.All.{up_to}

-- the bit of weight 2 ^ i of w
unfoldable pub bit : ℕ → ℕ → Bool
bit w i = eqb (w / 2 ^ i % 2) 1

-- the word whose bit i is p i
unfoldable pub word_of : (ℕ → Bool) → ℕ
word_of p = up_to (λ i w. cond (p i) (w + 2 ^ i) w) 64 0

-- the number x is in the words: bit x % 64 of word x / 64
unfoldable pub in_words : List ℕ → ℕ → Bool
in_words ws x = bit (get_or ws (x / 64) 0) (x % 64)

-- the words f 0, f 1 and on, n of them
unfoldable pub words_by : ℕ → (ℕ → ℕ) → List ℕ
words_by zero f = []
words_by (suc n) f = f 0 ∷ words_by n (λ j. f (suc j))

-- the n words whose numbers are those that pass: bit i of word j is that of 64 * j + i
unfoldable pub words_of : ℕ → (ℕ → Bool) → List ℕ
words_of n p = words_by n (λ j. word_of (λ i. p (64 * j + i)))

-- four bytes as one number, the first lowest
abbrev pub joined : ℕ → ℕ → ℕ → ℕ → ℕ
joined a b c d = a + b * 0x100 + c * 0x1_0000 + d * 0x100_0000
