-- Chains of things in use, defined apart from the spread.
-- Assumes nothing.
use Rattle.std.specs.Prelude.{◌≡◌, true, ℕ, ◌<◌}
use Rattle.rows.specs.Size.{Size, numbers_of}
use Rattle.model.specs.State.{MemoryOf, in_use, object, driver_of, marked, has_flow}

-- `Chain m x`: a chain reaches x, its last thing
pub data Chain {size : Size} (m : MemoryOf size) : ℕ → Type 0 where
  -- the first thing is in use, and marked before the spread
  first : (x : ℕ) → x < numbers_of size → in_use m x ≡ true → marked m x ≡ true → Chain m x
  -- the next has a recorded flow from the one before
  by_flow_law : (x y : ℕ) → Chain m x → y < numbers_of size → in_use m y ≡ true → has_flow m x y ≡ true → Chain m y
  -- or is an object whose driver that one is
  by_driver_law : (x y : ℕ) → Chain m x → y < numbers_of size → object m y ≡ true → driver_of m y ≡ x → Chain m y
