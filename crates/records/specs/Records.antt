-- The records, eight bytes for each number, and the soundness of the bytes.
-- Assumes nothing.
use Rattle.std.specs.Prelude.{◌≡◌, Bool, not, ◌&&◌, ◌||◌, List, ℕ, ◌+◌, ◌*◌, eqb, get_or, set, length}
use Rattle.bits.specs.All.{all_b}
use Rattle.rows.specs.Size.{Size, small, large, present, numbers_of}
use Rattle.levels.specs.declared.Order.{Order}
use Rattle.levels.specs.Order.{in_order}

-- the bytes of a record
abbrev pub record_size : ℕ
record_size = 8

-- the bytes that a caller lends
abbrev pub lent_bytes : Size → ℕ
lent_bytes size = record_size * numbers_of size

-- ---- the bytes of the record of x, by name

-- byte f of it; zero past the end of the bytes
unfoldable pub field : List ℕ → ℕ → ℕ → ℕ
field bs x f = get_or bs (record_size * x + f) 0

-- with v there
unfoldable pub set_field : List ℕ → ℕ → ℕ → ℕ → List ℕ
set_field bs x f v = set bs (record_size * x + f) v

-- with the whole record written: kind, level, read level, driver, container, marks, first spare byte, and zero in the last
unfoldable pub set_record : List ℕ → ℕ → ℕ → ℕ → ℕ → ℕ → ℕ → ℕ → ℕ → List ℕ
set_record bs x k l r d c m s =
    set_field (set_field (set_field (set_field (set_field (set_field (set_field (set_field bs x 0 k) x 1 l) x 2 r) x 3 d) x 4 c) x 5 m) x 6 s) x 7 0

-- 0 free, 1 task, 2 object
abbrev pub kind : List ℕ → ℕ → ℕ
kind bs x = field bs x 0

abbrev pub level : List ℕ → ℕ → ℕ
level bs x = field bs x 1

abbrev pub read_level : List ℕ → ℕ → ℕ
read_level bs x = field bs x 2

abbrev pub driver : List ℕ → ℕ → ℕ
driver bs x = field bs x 3

-- in the small size 255 for a root object, in the large one 0
abbrev pub container : List ℕ → ℕ → ℕ
container bs x = field bs x 4

-- 1 marked, plus 2 marked from outside
abbrev pub marks : List ℕ → ℕ → ℕ
marks bs x = field bs x 5

-- zero; but in the large size 1 for a root object
abbrev pub first_spare : List ℕ → ℕ → ℕ
first_spare bs x = field bs x 6

-- zero
abbrev pub last_spare : List ℕ → ℕ → ℕ
last_spare bs x = field bs x 7

-- ---- kinds

unfoldable pub is_task : List ℕ → ℕ → Bool
is_task bs x = eqb (kind bs x) 1

unfoldable pub is_object : List ℕ → ℕ → Bool
is_object bs x = eqb (kind bs x) 2

-- ---- the place of an object: it is a root, or within a container

pub data Place : Type 0 where
  root : Place
  within : ℕ → Place

-- what stands in the container byte of a root object of the small size
abbrev pub root_sign : ℕ
root_sign = 255

-- how a place is written: the container byte, and the first spare byte
abbrev pub container_byte : Place → Size → ℕ
container_byte root small = root_sign
container_byte root large = 0
container_byte (within k) size = k

abbrev pub spare_byte : Place → Size → ℕ
spare_byte root small = 0
spare_byte root large = 1
spare_byte (within k) size = 0

-- x is written as a root
abbrev pub is_root : Size → List ℕ → ℕ → Bool
is_root size bs x = eqb (container bs x) (container_byte root size) && eqb (first_spare bs x) (spare_byte root size)

-- x lies within k
unfoldable pub lies_within : Size → List ℕ → ℕ → ℕ → Bool
lies_within size bs x k = not (is_root size bs x) && eqb (container bs x) k

-- ---- soundness, as document 01 lists it; how a root is written in the large size is document 02's

-- a free number has eight zeros
unfoldable pub free_record : List ℕ → ℕ → Bool
free_record bs x = all_b record_size (λ f. eqb (field bs x f) 0)

-- a task has level and read level in the order, driver and container 0, marks 0, 1 or 3
unfoldable pub task_record : Order → List ℕ → ℕ → Bool
task_record o bs x =
    is_task bs x
    && in_order o (level bs x)
    && in_order o (read_level bs x)
    && eqb (driver bs x) 0
    && eqb (container bs x) 0
    && (eqb (marks bs x) 0 || eqb (marks bs x) 1 || eqb (marks bs x) 3)
    && eqb (first_spare bs x) 0
    && eqb (last_spare bs x) 0

-- within another object
abbrev pub in_another : List ℕ → ℕ → Bool
in_another bs x = eqb (first_spare bs x) 0 && is_object bs (container bs x) && not (eqb (container bs x) x)

-- an object has a level in the order, read level 0, a task as driver, no container or another object as container, marks 0 or 1
unfoldable pub object_record_of : Size → Order → List ℕ → ℕ → Bool
object_record_of size o bs x =
    is_object bs x
    && in_order o (level bs x)
    && eqb (read_level bs x) 0
    && is_task bs (driver bs x)
    && (is_root size bs x || in_another bs x)
    && (eqb (marks bs x) 0 || eqb (marks bs x) 1)
    && eqb (last_spare bs x) 0

unfoldable pub sound_record_of : Size → Order → List ℕ → ℕ → Bool
sound_record_of size o bs x = free_record bs x || task_record o bs x || object_record_of size o bs x

-- number 0 is a task at the top level
unfoldable pub core_record : Order → List ℕ → Bool
core_record o bs = is_task bs 0 && eqb (level bs 0) o.top

-- the bytes are sound
unfoldable pub sound_of : Size → Order → List ℕ → Bool
sound_of size o bs = eqb (length bs) (lent_bytes size) && core_record o bs && all_b (numbers_of size) (λ x. sound_record_of size o bs x)

-- ---- at the size in use

abbrev pub sound_record : Order → List ℕ → ℕ → Bool
sound_record o bs x = sound_record_of present o bs x

abbrev pub sound : Order → List ℕ → Bool
sound o bs = sound_of present o bs

abbrev pub BytesLent : List ℕ → Type 0
BytesLent bs = length bs ≡ lent_bytes present
