-- The order's test by whole rows, as the code does it.
-- Assumes nothing.
use Rattle.std.specs.Prelude.{◌≡◌, ◌⊎◌, Bool, true, ◌&&◌, ◌||◌, List, ℕ, ◌-◌, ◌/◌, ◌^◌, ◌<◌, leb, ltb, eqb, get_or}
use Rattle.std.specs.Int.Bits.{bit_and, bit_or}
use Rattle.bits.specs.Bit.{bit}
use Rattle.bits.specs.All.{all_b, ◌⇒◌}
use Rattle.levels.specs.Order.{most_levels}

-- each row is of sixteen bits
abbrev pub RowsFit : List ℕ → Type 0
RowsFit rows = (a : ℕ) → get_or rows a 0 < 2 ^ 16

-- row b has no bit but those of w
unfoldable pub within : List ℕ → ℕ → ℕ → Bool
within rows w b = eqb (bit_or (get_or rows b 0) w) w

-- the row of each level of w is within w
unfoldable pub closed : List ℕ → ℕ → Bool
closed rows w = all_b most_levels (λ b. bit w b ⇒ within rows w b)

-- row b is within w, or b is in the row of a level of w whose row is
unfoldable pub Covered : List ℕ → ℕ → ℕ → Type 0
Covered rows w b = (within rows w b ≡ true) ⊎ ((c : ℕ) × (bit w c ≡ true) × (within rows w c ≡ true) × (bit (get_or rows c 0) b ≡ true))

-- what a walk over w shows that passes over the levels in a row found within w.
-- It is less than `closed`; where it holds of what is above each level of the order, so does `closed`
abbrev pub AllCovered : List ℕ → ℕ → Type 0
AllCovered rows w = (b : ℕ) → bit w b ≡ true → Covered rows w b

-- in such a walk, those left are of w, and those of w that are not left are covered
pub record Passed (rows : List ℕ) (w left : ℕ) : Type 0 where
  pub fits : left < 2 ^ 16
  pub of_w : (c : ℕ) → bit left c ≡ true → bit w c ≡ true
  pub done : (c : ℕ) → bit w c ≡ true → (bit left c ≡ true) ⊎ Covered rows w c

-- row a without a itself: what is strictly above a
unfoldable pub above : List ℕ → ℕ → ℕ
above rows a = bit_and (get_or rows a 0) ((2 ^ 16 - 1) - 2 ^ a)

-- a level's row: no bit at or past the count, and the level itself and the top in it
unfoldable pub row_fits : ℕ → ℕ → ℕ → ℕ → Bool
row_fits row count top a = eqb (row / 2 ^ count) 0 && bit row a && bit row top

-- a level of the order, with what is strictly above it closed
unfoldable pub level_passes : List ℕ → ℕ → ℕ → ℕ → Bool
level_passes rows count top a = row_fits (get_or rows a 0) count top a && closed rows (above rows a)

-- what the test of one level shows
abbrev pub LevelCovered : List ℕ → ℕ → ℕ → ℕ → Type 0
LevelCovered rows count top a = (row_fits (get_or rows a 0) count top a ≡ true) × AllCovered rows (above rows a)

-- the rows from the count on are clear
unfoldable pub rest_empty : List ℕ → ℕ → Bool
rest_empty rows count = all_b most_levels (λ a. ltb a count || eqb (get_or rows a 0) 0)

-- all rows, under a count and a top that fit
unfoldable pub rows_pass : List ℕ → ℕ → ℕ → Bool
rows_pass rows count top = leb count most_levels && ltb top count && all_b count (λ a. level_passes rows count top a) && rest_empty rows count
