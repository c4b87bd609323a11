-- What the rounds of a spread work on: the objects of each driver as rows of n words, and a round on sets.
-- Assumes nothing.
use Rattle.std.specs.Prelude.{◌≡◌, Bool, true, false, not, cond, ◌&&◌, ◌||◌, List, ℕ, ◌+◌, ◌*◌, ◌<◌, eqb, length}
use Rattle.bits.specs.All.{any_b}
use Rattle.rows.specs.Size.{row_size, numbers}
use Rattle.rows.specs.Rows.{cell, add_cell}
use Rattle.records.specs.Records.{driver, is_object}
use Rattle.sets.specs.declared.Set.{Set}
use Rattle.sets.specs.Sets.{has, set_of, joined}
use Rattle.model.specs.State.{Memory, in_use, marked}
use Rattle.model.specs.Effects.{object_of}
use Rattle.model.specs.Spread.{rounds, after_rounds}
use Rattle.marking.specs.declared.rounds.Spread.{Spread}

-- a row for each number, and one more for the drivers
abbrev pub OwnedRows : List ℕ → Type 0
OwnedRows ws = length ws ≡ row_size * (numbers + 1)

-- an object is put into the row of its driver, and its driver into the drivers' row
unfoldable pub own_row : ℕ → List ℕ → ℕ → List ℕ → List ℕ
own_row n bs x ws = cond (is_object bs x) (add_cell n (add_cell n ws (driver bs x) x) (64 * n) (driver bs x)) ws

-- so the number i puts y into row d
unfoldable pub puts : ℕ → List ℕ → ℕ → ℕ → ℕ → Bool
puts n bs d y i = is_object bs i && ((eqb d (driver bs i) && eqb y i) || (eqb d (64 * n) && eqb y (driver bs i)))

-- vs is ws with the numbers that pass put into their rows
abbrev pub Put : ℕ → List ℕ → (ℕ → Bool) → List ℕ → List ℕ → Type 0
Put n bs q ws vs = (d y : ℕ) → y < 64 * n → cell n vs d y ≡ (cell n ws d y || any_b (64 * n) (λ i. q i && puts n bs d y i))

-- the driver of each object is one of the numbers
abbrev pub Driven : List ℕ → Type 0
Driven bs = (x : ℕ) → is_object bs x ≡ true → driver bs x < numbers

-- of the unmarked things: row d has the objects of d, and whatever drives one is in the drivers' row
pub record Table (m : Memory) (ws : List ℕ) : Type 0 where
  pub owns : (d x : ℕ) → d < numbers → x < numbers → marked m x ≡ false → cell row_size ws d x ≡ object_of m d x
  pub drives : (d x : ℕ) → d < numbers → x < numbers → marked m x ≡ false → object_of m d x ≡ true → cell row_size ws numbers d ≡ true

-- ---- a round, with the rows of flows, the rows of objects, the unmarked things in use and the sources

module _ (n : ℕ) (flows owned : List ℕ) (unmarked sources : ℕ → Bool) where
  -- an unmarked thing that a source has a flow to
  unfoldable pub by_flow : ℕ → Bool
  by_flow x = joined n flows sources x && unmarked x

  -- an unmarked object of a source or of such a thing; only what drives something is asked
  unfoldable pub by_driver : ℕ → Bool
  by_driver x = joined n owned (λ y. (sources y || by_flow y) && cell n owned (64 * n) y) x && unmarked x

unfoldable pub round_set : List ℕ → List ℕ → Set → Set → Set
round_set flows owned unmarked sources =
    set_of (λ x. by_flow row_size flows owned (has unmarked) (has sources) x || by_driver row_size flows owned (has unmarked) (has sources) x)

-- ---- the spread, as what it marks and the count of its rounds

unfoldable pub spread_sets : Memory → Spread
spread_sets m = record { marked = set_of (λ x. in_use m x && not (marked m x) && marked (after_rounds numbers m) x); rounds = rounds numbers m }
