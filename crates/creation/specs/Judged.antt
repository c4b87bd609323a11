-- The tests and rows of the events that make things, and each event's decision: the verdict of its table and its flows.
-- Assumes nothing.
use Rattle.std.specs.Prelude.{Bool, false, not, ◌&&◌, List, ℕ, ltb, eqb}
use Rattle.rows.specs.Size.{numbers}
use Rattle.records.specs.Records.{kind, is_task, is_object}
use Rattle.levels.specs.declared.Order.{Order}
use Rattle.levels.specs.Order.{in_order}
use Rattle.model.specs.Verdicts.{granted, row_number, row_taken, row_held, row_scale, row_rule}
use Rattle.model.specs.State.{Memory, marked}
use Rattle.model.specs.Events.{unless, verdict_of, execute, create, create_root}
use Rattle.decisions.specs.Decisions.{Decision}
use Rattle.decisions.specs.Facts.{both_write}

-- two tasks and a number that may be given out
unfoldable pub are_new : List ℕ → ℕ → ℕ → ℕ → Bool
are_new bs c d n = is_task bs c && is_task bs d && ltb n numbers

-- ---- rows, above the rest of the table

-- the numbers, and a new number
unfoldable pub given : List ℕ → Bool → ℕ → ℕ → ℕ
given bs named n rest = unless named row_number (unless (not (not (eqb (kind bs n) 0))) row_taken rest)

-- a level that is given is in the order, and the rule
unfoldable pub scaled : Order → ℕ → Bool → ℕ
scaled o l rule = unless (in_order o l) row_scale (unless rule row_rule granted)

-- the rows of create but for its level tests
unfoldable pub create_rows : List ℕ → List ℕ → ℕ → ℕ → ℕ → ℕ → ℕ → ℕ
create_rows bs ws c d n k rest = given bs (are_new bs c d n && is_object bs k) n (unless (both_write ws c d k) row_held rest)

-- ---- decisions: the flow from a marked image; the creator's flows where the driver is marked
module _ (o : Order) (m : Memory) where
  abbrev pub execute_judged : ℕ → ℕ → ℕ → ℕ → ℕ → Decision
  execute_judged c i n l r = record { verdict = verdict_of (execute o m c i n l r); first = marked m i; second = false }

  abbrev pub create_judged : ℕ → ℕ → ℕ → ℕ → ℕ → Decision
  create_judged c d n k l = record { verdict = verdict_of (create o m c d n k l); first = marked m d; second = marked m d }

  abbrev pub root_judged : ℕ → ℕ → ℕ → ℕ → Decision
  root_judged c d n l = record { verdict = verdict_of (create_root o m c d n l); first = marked m d; second = marked m d }
