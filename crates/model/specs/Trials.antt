-- Document 01's trials P1 to P10, one table of the events as they stand, at the size in use: a state, a call, and the verdict and the flows that must follow. TrialsProved.antt proves them together.
-- Assumes nothing.
use Rattle.std.specs.Prelude.{◌≡◌, Bool, false, ◌&&◌, ◌||◌, List, [], ◌∷◌, ◌++◌, ℕ, ◌-◌, ◌<◌, eqb, length, replicate}
use Rattle.rows.specs.Size.{present, numbers}
use Rattle.levels.specs.declared.Order.{Order}
use Rattle.levels.specs.Order.{most_levels}
use Rattle.records.specs.Records.{set_record, root, container_byte, spare_byte}
use Rattle.model.specs.State.{Memory, memory, has_flow}
use Rattle.model.specs.Monitor.{perform, started}
use Rattle.model.specs.declared.Call.{Call}
use Rattle.model.specs.declared.Call.TheVariants.{Start, Read, Invoke}

pub record Pair : Type 0 where
  pub source : ℕ
  pub end : ℕ

infix 75 ◌↣◌
abbrev pub ◌↣◌ : ℕ → ℕ → Pair
x ↣ y = record { source = x; end = y }

pub record Trial : Type 0 where
  pub order : Order
  pub before : Memory
  pub call : Call
  pub verdict : ℕ
  -- all the flows recorded after the call, and no others
  pub flows : List Pair

unfoldable pub listed : List Pair → ℕ → ℕ → Bool
listed [] x y = false
listed (p ∷ ps) x y = listed ps x y || (eqb x p.source && eqb y p.end)

-- a trial holds: the verdict is that of the table, and so are the flows, over all pairs of numbers
pub record Holds (t : Trial) : Type 0 where
  pub gives : (perform t.order t.before t.call).verdict ≡ t.verdict
  pub records : (x y : ℕ) → x < numbers → y < numbers → has_flow (perform t.order t.before t.call).memory x y ≡ listed t.flows x y

abbrev pub AllHold : List Trial → Type 0
AllHold [] = Unit {0}
AllHold (t ∷ ts) = Holds t × AllHold ts

-- ---- orders and states

-- count, top and the rows, filled up with zeros
unfoldable pub order_of : ℕ → ℕ → List ℕ → Order
order_of n t rs = record { rows = rs ++ replicate (most_levels - length rs) 0; count = n; top = t }

unfoldable pub Q : Order
Q = order_of 4 3 (15 ∷ 10 ∷ 12 ∷ 8 ∷ [])

-- after a start under Q
unfoldable pub fresh : Memory
fresh = started Q

-- task 1 at level 1 with read level r; object 2 at level 2; its driver, task 3, at level l with marks k
unfoldable pub three_things : ℕ → ℕ → ℕ → Memory
three_things r l k =
    memory (set_record (set_record (set_record fresh.bytes 1 1 1 r 0 0 0 0) 3 1 l l 0 0 k 0) 2 2 2 0 3 (container_byte root present) 0 (spare_byte root present)) fresh.words

-- task 1 at level 1, task 2 at level 2
unfoldable pub two_tasks : Memory
two_tasks = memory (set_record (set_record fresh.bytes 1 1 1 1 0 0 0 0) 2 1 2 2 0 0 0 0) fresh.words

abbrev pub trial : Order → Memory → Call → ℕ → List Pair → Trial
trial o m c v fs = record { order = o; before = m; call = c; verdict = v; flows = fs }

-- ---- the table

unfoldable pub trials : List Trial
trials =
    -- P1 Q passes
    trial Q fresh Start 0 []
    -- P2
    ∷ trial (order_of 1 0 (1 ∷ [])) fresh Start 0 []
    -- P3
    ∷ trial (order_of 17 0 (1 ∷ [])) fresh Start 3 []
    -- P4 not antisymmetric
    ∷ trial (order_of 2 1 (3 ∷ 3 ∷ [])) fresh Start 3 []
    -- P5 not transitive
    ∷ trial (order_of 4 3 (11 ∷ 14 ∷ 12 ∷ 8 ∷ [])) fresh Start 3 []
    -- P6 read level 0: granted, no flow
    ∷ trial Q (three_things 0 3 0) (Read 1 3 2) 0 []
    -- P7 read level 1
    ∷ trial Q (three_things 1 3 0) (Read 1 3 2) 11 []
    -- P8 the driver marked: slipped, two flows
    ∷ trial Q (three_things 1 3 1) (Read 1 3 2) 1 (2 ↣ 1 ∷ 3 ↣ 1 ∷ [])
    -- P9 and at level 2
    ∷ trial Q (three_things 1 2 1) (Read 1 3 2) 10 []
    -- P10
    ∷ trial Q two_tasks (Invoke 1 2) 11 []
    ∷ []
