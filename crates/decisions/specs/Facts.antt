-- What the code of the events asks of bytes and words, as it looks for it.
-- Assumes nothing.
use Rattle.std.specs.Prelude.{◌≡◌, Bool, true, ◌&&◌, List, ℕ, ltb}
use Rattle.rows.specs.Rows.{cell}
use Rattle.rows.specs.Size.{present, row_size, numbers}
use Rattle.levels.specs.declared.Order.{Order}
use Rattle.levels.specs.Order.{order_passes}
use Rattle.records.specs.Records.{sound}
use Rattle.model.specs.State.{write_row}

-- the order passes and the bytes are sound under it, so that every level of theirs is in the order
abbrev pub Levelled : Order → List ℕ → Type 0
Levelled o bs = (order_passes o ≡ true) × (sound o bs ≡ true)

-- the task e has write access to x; past the table there is none
unfoldable pub writes : List ℕ → ℕ → ℕ → Bool
writes ws e x = ltb e numbers && cell row_size ws (write_row present e) x

unfoldable pub both_write : List ℕ → ℕ → ℕ → ℕ → Bool
both_write ws e d k = writes ws e k && writes ws d k
