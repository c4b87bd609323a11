-- What lies inside an object: steps from container to container.
-- Assumes nothing.
use Rattle.std.specs.Prelude.{◌≡◌, Bool, true, false, not, ◌&&◌, ◌||◌, ℕ, zero, suc, ◌-◌}
use Rattle.rows.specs.Size.{Size, numbers_of}
use Rattle.model.specs.State.{MemoryOf, is_root, container_of, lies_in}

-- "at most 127 steps" (255 in the large size): one less than the numbers there are, and so as many as there can be objects, since number 0 is a task
abbrev pub most_steps : Size → ℕ
most_steps size = numbers_of size - 1

module _ {size : Size} where
  -- n steps from container to container lead from the object x to y
  unfoldable pub Leads : MemoryOf size → ℕ → ℕ → ℕ → Type 0
  Leads m zero x y = x ≡ y
  Leads m (suc n) x y = (k : ℕ) × (lies_in m x k ≡ true) × Leads m n k y

  -- x "lies anywhere inside" y: some number of such steps, one or more, leads from x to y
  abbrev pub Inside : MemoryOf size → ℕ → ℕ → Type 0
  Inside m x y = (n : ℕ) × Leads m (suc n) x y

  -- a walk of at most n steps from x, which a root ends, comes to y
  unfoldable pub walk : ℕ → MemoryOf size → ℕ → ℕ → Bool
  walk zero m x y = false
  walk (suc n) m x y = lies_in m x y || (not (is_root m x) && walk n m (container_of m x) y)

  -- `Inside` as a test: the claim InsideExact says that they agree for an object x in sound bytes
  unfoldable pub inside : MemoryOf size → ℕ → ℕ → Bool
  inside m x y = walk (most_steps size) m x y
