-- The call: lengths, soundness and order first, then the event; and the report.
-- Assumes nothing.
use Rattle.std.specs.Prelude.{Bool, cond, ◌&&◌, List, [], ◌∷◌, ℕ, zero, suc, ◌+◌, ◌-◌, ltb, replicate}
use Rattle.std.specs.Int.Count.{ones}
use Rattle.bits.specs.Bit.{in_words, words_of}
use Rattle.rows.specs.Size.{Size, present, row_size_of, numbers_of, lent_words}
use Rattle.levels.specs.declared.Order.{Order}
use Rattle.levels.specs.Order.{order_passes}
use Rattle.records.specs.Records.{lent_bytes, set_record, sound_of}
use Rattle.model.specs.Verdicts.{granted, row_state, row_order}
use Rattle.model.specs.State.{MemoryOf, lengths_fit, marked}
use Rattle.model.specs.Events.{OutcomeOf, outcome, read, write, execute, create, create_root, move, delete, call_task, invoke, pass, post, find, mark, step}
use Rattle.model.specs.Spread.{spread}
use Rattle.model.specs.declared.Call.{Call}
use Rattle.model.specs.declared.Call.TheVariants.{Start, Read, Write, Execute, Create, CreateRoot, Move, Delete, CallTask, Invoke, Pass, Post, Find, Mark, Step, Spread}
use Rattle.model.specs.declared.Report.{Report}

-- ---- calls on a memory of either size

module _ {size : Size} where
  -- ---- rows 2 and 3

  unfoldable pub refusal : ℕ → MemoryOf size → OutcomeOf size
  refusal n m = record { verdict = n; rounds = 0; memory = m }

  unfoldable pub refused_unless : Bool → ℕ → MemoryOf size → OutcomeOf size → OutcomeOf size
  refused_unless ok n m out = cond ok out (refusal n m)

  -- but for start: the lengths are right and the bytes are sound, then the order passes
  unfoldable pub fitted : Order → MemoryOf size → OutcomeOf size → OutcomeOf size
  fitted o m out = refused_unless (lengths_fit m && sound_of size o m.bytes) row_state m (refused_unless (order_passes o) row_order m out)

  -- ---- start

  -- core alone, L and R at the top, all else zero
  unfoldable pub started : Order → MemoryOf size
  started o =
      record {
        bytes = set_record (replicate (lent_bytes size) 0) 0 1 o.top o.top 0 0 0 0;
        words = replicate (lent_words size) 0;
      }

  -- it tests lengths and the order only
  unfoldable pub start : Order → MemoryOf size → OutcomeOf size
  start o m =
      refused_unless (lengths_fit m) row_state m
      (refused_unless (order_passes o) row_order m (record { verdict = granted; rounds = 0; memory = started o }))

  -- ---- every call

  abbrev pub perform : Order → MemoryOf size → Call → OutcomeOf size
  perform o m Start = start o m
  perform o m (Read e d x) = fitted o m (outcome m (read o m e d x))
  perform o m (Write e d x) = fitted o m (outcome m (write o m e d x))
  perform o m (Execute c i n l r) = fitted o m (outcome m (execute o m c i n l r))
  perform o m (Create c d n k l) = fitted o m (outcome m (create o m c d n k l))
  perform o m (CreateRoot c d n l) = fitted o m (outcome m (create_root o m c d n l))
  perform o m (Move e d x f t) = fitted o m (outcome m (move o m e d x f t))
  perform o m (Delete e d x k) = fitted o m (outcome m (delete o m e d x k))
  perform o m (CallTask a b) = fitted o m (outcome m (call_task o m a b))
  perform o m (Invoke a b) = fitted o m (outcome m (invoke o m a b))
  perform o m (Pass z x y) = fitted o m (outcome m (pass o m z x y))
  perform o m (Post x z y) = fitted o m (outcome m (post o m x z y))
  perform o m (Find x z y) = fitted o m (outcome m (find o m x z y))
  perform o m (Mark e) = fitted o m (outcome m (mark o m e))
  perform o m (Step x) = fitted o m (outcome m (step o m x))
  perform o m Spread = fitted o m (spread m)

-- ---- the report

-- how many ones the words hold
unfoldable pub ones_in : List ℕ → ℕ
ones_in [] = 0
ones_in (w ∷ ws) = ones w + ones_in ws

-- all zero when refused
unfoldable pub no_report : Size → ℕ → Report
no_report size n = record { words = replicate (row_size_of size) 0; ones = 0; verdict = n }

module _ {size : Size} where
  -- a bit for each marked number
  unfoldable pub marked_words : MemoryOf size → List ℕ
  marked_words m = words_of (row_size_of size) (marked m)

  abbrev pub marked_report : MemoryOf size → Report
  marked_report m = record { words = marked_words m; ones = ones_in (marked_words m); verdict = granted }

  unfoldable pub report : Order → MemoryOf size → Report
  report o m = cond (lengths_fit m && sound_of size o m.bytes) (cond (order_passes o) (marked_report m) (no_report size row_order)) (no_report size row_state)

-- the lowest of the k numbers from n on that passes; n + k where none does
unfoldable pub first_from : ℕ → (ℕ → Bool) → ℕ → ℕ
first_from zero p n = n
first_from (suc k) p n = cond (p n) n (first_from k p (n + 1))

-- the lowest marked number of a report at or above n; where there is none, the number past the last
unfoldable pub next_marked_of : Size → Report → ℕ → ℕ
next_marked_of size r n = cond (ltb n (numbers_of size)) (first_from (numbers_of size - n) (in_words r.words) n) (numbers_of size)

-- at the size in use
abbrev pub next_marked : Report → ℕ → ℕ
next_marked r n = next_marked_of present r n
