-- Sets of numbers, a bit for each, in two words, as many as a row has at the size in use.
-- Assumes nothing.
use Rattle.std.specs.Prelude.{◌≡◌, Bool, true, ◌&&◌, List, [], ◌∷◌, ℕ, ◌-◌, ◌*◌, ◌≤◌, leb, get_or, length}
use Rattle.bits.specs.Bit.{bit, in_words, words_of}
use Rattle.bits.specs.All.{any_b}
use Rattle.rows.specs.Size.{row_size, numbers}
use Rattle.rows.specs.Rows.{cell}
use Rattle.sets.specs.declared.Set.{Set}

-- the last number, 127 at the small size and 255 at the large
abbrev pub last : ℕ
last = numbers - 1

-- no number that passes exceeds it
abbrev pub Within : (ℕ → Bool) → Type 0
Within q = (x : ℕ) → q x ≡ true → x ≤ last

-- the words of a set, and the set of such words
abbrev pub words : Set → List ℕ
words s = s.low ∷ s.high ∷ []

abbrev pub of_words : List ℕ → Set
of_words ws = record { low = get_or ws 0 0; high = get_or ws 1 0 }

-- x is in the set
unfoldable pub has : Set → ℕ → Bool
has s x = in_words (words s) x

-- the numbers that pass
unfoldable pub set_of : (ℕ → Bool) → Set
set_of p = of_words (words_of row_size p)

-- y is one of the 64 numbers of a word whose first is k
unfoldable pub in_word : ℕ → ℕ → ℕ → Bool
in_word w k y = leb k y && bit w (y - k)

-- as many words as a table has
abbrev pub TableLent : List ℕ → Type 0
TableLent ws = row_size * numbers ≤ length ws

-- of a table of rows of n words: the row of some number that passes has column x
unfoldable pub joined : ℕ → List ℕ → (ℕ → Bool) → ℕ → Bool
joined n ws q x = any_b (64 * n) (λ y. q y && cell n ws y x)
