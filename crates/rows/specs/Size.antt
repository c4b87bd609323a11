-- The two sizes of a state. Document 01 has the numbers 0 to 127, the small size; document 02 goes on to 255, the large one.
-- Assumes nothing.
use Rattle.std.specs.Prelude.{◌≡◌, List, ℕ, ◌*◌, length}

pub data Size : Type 0 where
  small : Size
  large : Size

-- the words of a row of flows or accesses, and of a report
abbrev pub row_size_of : Size → ℕ
row_size_of small = 2
row_size_of large = 4

-- how many numbers there are, 128 or 256: a row has a bit for each
abbrev pub numbers_of : Size → ℕ
numbers_of size = 64 * row_size_of size

-- flows, read accesses and write accesses: a row for each number in each
abbrev pub tables : ℕ
tables = 3

-- the words that a caller lends
abbrev pub lent_words : Size → ℕ
lent_words size = row_size_of size * (numbers_of size * tables)

-- ---- the size in use, which is the code's

abbrev pub present : Size
present = small

abbrev pub row_size : ℕ
row_size = row_size_of present

abbrev pub numbers : ℕ
numbers = numbers_of present

abbrev pub WordsLent : List ℕ → Type 0
WordsLent ws = length ws ≡ lent_words present
