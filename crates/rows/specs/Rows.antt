-- Rows of bits in a list of words, for every number n of words a row. Row x starts at word n * x; column y of it is bit y % 64 of its word y / 64.
-- Assumes nothing.
use Rattle.std.specs.Prelude.{Bool, not, cond, ◌&&◌, List, ℕ, ◌+◌, ◌-◌, ◌*◌, ◌/◌, ◌%◌, ◌^◌, eqb, get_or, set}
use Rattle.std.specs.Int.Bits.{bit_and, bit_or}
use Rattle.bits.specs.Bit.{bit, word_of}
use Rattle.bits.specs.All.{up_to}

-- where the word of column y of row x stands
abbrev pub place : ℕ → ℕ → ℕ → ℕ
place n x y = n * x + y / 64

-- column y of row x
unfoldable pub cell : ℕ → List ℕ → ℕ → ℕ → Bool
cell n ws x y = bit (get_or ws (place n x y) 0) (y % 64)

-- with it set
unfoldable pub add_cell : ℕ → List ℕ → ℕ → ℕ → List ℕ
add_cell n ws x y = set ws (place n x y) (bit_or (get_or ws (place n x y) 0) (2 ^ (y % 64)))

-- with it clear
unfoldable pub cut_cell : ℕ → List ℕ → ℕ → ℕ → List ℕ
cut_cell n ws x y = set ws (place n x y) (bit_and (get_or ws (place n x y) 0) ((2 ^ 64 - 1) - 2 ^ (y % 64)))

-- with row x clear
unfoldable pub clear_row : ℕ → ℕ → List ℕ → List ℕ
clear_row n x ws = up_to (λ i v. set v (n * x + i) 0) n ws

-- with column y clear in the first r rows
unfoldable pub clear_column : ℕ → ℕ → ℕ → List ℕ → List ℕ
clear_column n r y ws = up_to (λ x v. cut_cell n v x y) r ws

-- with the thing k cleared from t tables of r rows each, one after the other: in each its row and its column
unfoldable pub clear_thing : ℕ → ℕ → ℕ → ℕ → List ℕ → List ℕ
clear_thing n r t k ws = clear_column n (r * t) k (up_to (λ i v. clear_row n (r * i + k) v) t ws)

-- with each column of row x that passes t set, word by word
unfoldable pub join_row : ℕ → ℕ → (ℕ → Bool) → List ℕ → List ℕ
join_row n x t ws = up_to (λ i v. set v (n * x + i) (bit_or (get_or v (n * x + i) 0) (word_of (λ j. t (64 * i + j))))) n ws

-- with the columns that pass `to` set in each of the first r rows that passes `from`, but for the row's own column
unfoldable pub bridged : ℕ → ℕ → (ℕ → Bool) → (ℕ → Bool) → List ℕ → List ℕ
bridged n r from to ws = up_to (λ x v. cond (from x) (join_row n x (λ y. to y && not (eqb y x)) v) v) r ws
