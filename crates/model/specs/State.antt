-- The lent memory, and what is read from it.
-- Assumes nothing.
use Rattle.std.specs.Prelude.{Bool, not, ◌&&◌, List, ℕ, ◌+◌, ◌*◌, eqb, length}
use Rattle.rows.specs.Rows.{cell}
use Rattle.rows.specs.Size.{Size, present, row_size_of, numbers_of, lent_words}
use Rattle.records.specs.Records as records
use Rattle.records.specs.Records.{lent_bytes, kind, marks}

-- what the caller lends; the size says how it is read, and `lengths_fit` whether it is as long
pub record MemoryOf (size : Size) : Type 0 where
  pub bytes : List ℕ
  pub words : List ℕ

-- of the size in use
abbrev pub Memory : Type 0
Memory = MemoryOf present

abbrev pub memory : List ℕ → List ℕ → Memory
memory bs ws = record { bytes = bs; words = ws }

-- ---- rows: three tables stand one after the other, flows, then read accesses, then write accesses

-- row x of the table t; tables count from 0
abbrev pub row_of : Size → ℕ → ℕ → ℕ
row_of size t x = numbers_of size * t + x

abbrev pub flow_row : ℕ → ℕ
flow_row x = x

abbrev pub read_row : Size → ℕ → ℕ
read_row size x = row_of size 1 x

abbrev pub write_row : Size → ℕ → ℕ
write_row size x = row_of size 2 x

-- ---- what a memory of either size says. Where the lengths fit, a number past the last is of no kind: a byte past the end reads as zero

module _ {size : Size} where
  unfoldable pub lengths_fit : MemoryOf size → Bool
  lengths_fit m = eqb (length m.bytes) (lent_bytes size) && eqb (length m.words) (lent_words size)

  -- in use means not free
  unfoldable pub in_use : MemoryOf size → ℕ → Bool
  in_use m x = not (eqb (kind m.bytes x) 0)

  unfoldable pub task : MemoryOf size → ℕ → Bool
  task m x = records.is_task m.bytes x

  unfoldable pub object : MemoryOf size → ℕ → Bool
  object m x = records.is_object m.bytes x

  abbrev pub level_of : MemoryOf size → ℕ → ℕ
  level_of m x = records.level m.bytes x

  abbrev pub read_level_of : MemoryOf size → ℕ → ℕ
  read_level_of m x = records.read_level m.bytes x

  abbrev pub driver_of : MemoryOf size → ℕ → ℕ
  driver_of m x = records.driver m.bytes x

  -- the object x is a root: it is in no container
  abbrev pub is_root : MemoryOf size → ℕ → Bool
  is_root m x = records.is_root size m.bytes x

  -- the container that the object x is in, if it is no root
  abbrev pub container_of : MemoryOf size → ℕ → ℕ
  container_of m x = records.container m.bytes x

  -- the object x is in the container k, not deeper
  abbrev pub lies_in : MemoryOf size → ℕ → ℕ → Bool
  lies_in m x k = records.lies_within size m.bytes x k

  -- "marked", from outside or not
  unfoldable pub marked : MemoryOf size → ℕ → Bool
  marked m x = not (eqb (marks m.bytes x) 0)

  -- the recorded flow from x to y
  unfoldable pub has_flow : MemoryOf size → ℕ → ℕ → Bool
  has_flow m x y = cell (row_size_of size) m.words (flow_row x) y

  -- the recorded read access of the task x to y
  unfoldable pub has_read : MemoryOf size → ℕ → ℕ → Bool
  has_read m x y = cell (row_size_of size) m.words (read_row size x) y

  -- the recorded write access of the task x to y
  unfoldable pub has_write : MemoryOf size → ℕ → ℕ → Bool
  has_write m x y = cell (row_size_of size) m.words (write_row size x) y
