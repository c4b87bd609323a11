-- What an event does to the memory: a list of effects, done one after the other.
-- Assumes nothing.
use Rattle.std.specs.Prelude.{Bool, not, cond, ◌&&◌, ◌||◌, List, [], ◌∷◌, ℕ, eqb}
use Rattle.bits.specs.All.{up_to, one}
use Rattle.rows.specs.Rows.{add_cell, bridged, clear_thing}
use Rattle.rows.specs.Size.{Size, row_size_of, numbers_of, tables}
use Rattle.records.specs.Records.{set_field, set_record, Place, container_byte, spare_byte}
use Rattle.model.specs.State.{MemoryOf, flow_row, read_row, write_row, in_use, task, object, driver_of, marked, has_flow}

pub data Effect : Type 0 where
  -- a flow from .. to .. is recorded; with a condition, where it holds
  flow : ℕ → ℕ → Effect
  flow_if : Bool → ℕ → ℕ → Effect
  -- an access of the task .. to the object .. is recorded
  read_access : ℕ → ℕ → Effect
  write_access : ℕ → ℕ → Effect
  -- a free number becomes a task: number, level, read level
  make_task : ℕ → ℕ → ℕ → Effect
  -- a free number becomes an object: number, level, driver, place, whether it is marked
  make_object : ℕ → ℕ → ℕ → Place → Bool → Effect
  -- the object .., which is in a container and no root, is put into the container ..
  move_to : ℕ → ℕ → Effect
  -- each thing that fed .., and its driver, is recorded as feeding each thing that it fed, none as feeding itself (document 02)
  bridge : ℕ → Effect
  -- the record, and in flows and both kinds of access the row and the column, are cleared
  clear : ℕ → Effect
  -- the task .. is marked from outside, and its objects are marked
  mark_outside : ℕ → Effect
  -- the thing .. is marked and, for a task, its objects
  mark_thing : ℕ → Effect

-- ---- on a memory of either size

module _ {size : Size} where
  abbrev pub with_bytes : MemoryOf size → List ℕ → MemoryOf size
  with_bytes m bs = record { bytes = bs; words = m.words }

  abbrev pub with_words : MemoryOf size → List ℕ → MemoryOf size
  with_words m ws = record { bytes = m.bytes; words = ws }

  -- ---- marking

  -- x gets the mark 1, unless it is marked already: marks 3 stay 3
  unfoldable pub mark_one : ℕ → MemoryOf size → MemoryOf size
  mark_one x m = cond (marked m x) m (with_bytes m (set_field m.bytes x 5 1))

  -- each number that passes gets a mark
  unfoldable pub mark_where : (ℕ → Bool) → MemoryOf size → MemoryOf size
  mark_where p m = up_to (λ x v. cond (p x) (mark_one x v) v) (numbers_of size) m

  -- x is an object of the driver d
  unfoldable pub object_of : MemoryOf size → ℕ → ℕ → Bool
  object_of m d x = object m x && eqb (driver_of m x) d

  -- ---- bridging past x: "a free number neither feeds nor is fed", and x itself, which is to go, is no part of it

  -- p fed x, or is its driver
  unfoldable pub feeder : MemoryOf size → ℕ → ℕ → Bool
  feeder m x p = in_use m p && not (eqb p x) && (has_flow m p x || object_of m p x)

  -- x fed q
  unfoldable pub fed_by : MemoryOf size → ℕ → ℕ → Bool
  fed_by m x q = in_use m q && not (eqb q x) && has_flow m x q

  -- ---- recording

  -- column y of the row is set
  abbrev pub recorded : MemoryOf size → ℕ → ℕ → List ℕ
  recorded m row y = add_cell (row_size_of size) m.words row y

  -- ---- each effect

  unfoldable pub effect : Effect → MemoryOf size → MemoryOf size
  effect (flow x y) m = with_words m (recorded m (flow_row x) y)
  effect (flow_if b x y) m = with_words m (cond b (recorded m (flow_row x) y) m.words)
  effect (read_access e x) m = with_words m (recorded m (read_row size e) x)
  effect (write_access e x) m = with_words m (recorded m (write_row size e) x)
  effect (make_task n l r) m = with_bytes m (set_record m.bytes n 1 l r 0 0 0 0)
  effect (make_object n l d p b) m = with_bytes m (set_record m.bytes n 2 l 0 d (container_byte p size) (one b) (spare_byte p size))
  effect (move_to x c) m = with_bytes m (set_field m.bytes x 4 c)
  effect (bridge x) m = with_words m (bridged (row_size_of size) (numbers_of size) (feeder m x) (fed_by m x) m.words)
  effect (clear x) m = record { bytes = set_record m.bytes x 0 0 0 0 0 0 0; words = clear_thing (row_size_of size) (numbers_of size) tables x m.words }
  effect (mark_outside e) m = mark_where (object_of m e) (with_bytes m (set_field m.bytes e 5 3))
  effect (mark_thing x) m = mark_where (λ y. eqb y x || (task m x && object_of m x y)) m

  unfoldable pub effects : List Effect → MemoryOf size → MemoryOf size
  effects [] m = m
  effects (e ∷ es) m = effects es (effect e m)
