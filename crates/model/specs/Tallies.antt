-- The tallies of document 02: a record for each task, who asks, and what a whole call or load leaves of the list that it is lent.
-- Assumes nothing.
use Rattle.std.specs.Prelude.{Bool, true, false, cond, ◌&&◌, List, ℕ, ◌+◌, ltb, eqb, length, replicate, get_or, set}
use Rattle.rows.specs.Size.{Size, present, numbers_of}
use Rattle.levels.specs.declared.Order.{Order}
use Rattle.model.specs.Verdicts.{granted, slipped, row_state}
use Rattle.model.specs.State.{MemoryOf, task}
use Rattle.model.specs.Events.{OutcomeOf, Outcome}
use Rattle.model.specs.Monitor.{refusal, perform}
use Rattle.model.specs.Load.{load, past_order}
use Rattle.model.specs.declared.Call.{Call}
use Rattle.model.specs.declared.Call.TheVariants.{Start, Read, Write, Execute, Create, CreateRoot, Move, Delete, CallTask, Invoke, Pass, Post, Find, Mark, Step, Spread}
use Rattle.model.specs.declared.Tally.{Tally}

-- ---- a record

-- where a count stops
abbrev pub most_counted : ℕ
most_counted = 4294967295

unfoldable pub one_more : ℕ → ℕ
one_more n = cond (ltb n most_counted) (n + 1) n

-- a verdict raises one of the counts by one
unfoldable pub raised : Tally → ℕ → Tally
raised t v =
    cond (eqb v granted)
    (record { granted = one_more t.granted; slipped = t.slipped; refused = t.refused })
    (cond (eqb v slipped)
    (record { granted = t.granted; slipped = one_more t.slipped; refused = t.refused })
    (record { granted = t.granted; slipped = t.slipped; refused = one_more t.refused }))

abbrev pub nothing_counted : Tally
nothing_counted = record { granted = 0; slipped = 0; refused = 0 }

-- ---- a list of them

-- "a lent list of 128": a record for each number
unfoldable pub list_fits : Size → List Tally → Bool
list_fits size ts = eqb (length ts) (numbers_of size)

unfoldable pub zeroed : Size → List Tally
zeroed size = replicate (numbers_of size) nothing_counted

-- record i is raised by the verdict v, and all others are kept
unfoldable pub raised_at : ℕ → ℕ → List Tally → List Tally
raised_at i v ts = set ts i (raised (get_or ts i nothing_counted) v)

-- ---- who asks

module _ {size : Size} where
  -- the number, if it names a task; 0 for a free number, an object's, and a number past the last
  unfoldable pub if_task : MemoryOf size → ℕ → ℕ
  if_task m x = cond (task m x) x 0

  -- "the task that asks: the first task it names"; "start, load, mark, step and spread count on record 0, and so does a call .. whose first number names no task"
  unfoldable pub asker : MemoryOf size → Call → ℕ
  asker m Start = 0
  asker m (Read e d x) = if_task m e
  asker m (Write e d x) = if_task m e
  asker m (Execute c i n l r) = if_task m c
  asker m (Create c d n k l) = if_task m c
  asker m (CreateRoot c d n l) = if_task m c
  asker m (Move e d x f t) = if_task m e
  asker m (Delete e d x k) = if_task m e
  asker m (CallTask a b) = if_task m a
  asker m (Invoke a b) = if_task m a
  asker m (Pass z x y) = if_task m z
  asker m (Post x z y) = if_task m x
  asker m (Find x z y) = if_task m x
  asker m (Mark e) = 0
  asker m (Step x) = 0
  asker m Spread = 0

  -- the record that a call of the verdict v raises: "and so does a call refused with 2 or 3"
  unfoldable pub counted_on : MemoryOf size → Call → ℕ → ℕ
  counted_on m c v = cond (past_order v) (asker m c) 0

-- ---- whole calls and loads

unfoldable pub is_start : Call → Bool
is_start Start = true
is_start (Read e d x) = false
is_start (Write e d x) = false
is_start (Execute c i n l r) = false
is_start (Create c d n k l) = false
is_start (CreateRoot c d n l) = false
is_start (Move e d x f t) = false
is_start (Delete e d x k) = false
is_start (CallTask a b) = false
is_start (Invoke a b) = false
is_start (Pass z x y) = false
is_start (Post x z y) = false
is_start (Find x z y) = false
is_start (Mark e) = false
is_start (Step x) = false
is_start Spread = false

-- what a call leaves, and its list
pub record TalliedOf (size : Size) : Type 0 where
  pub outcome : OutcomeOf size
  pub tallies : List Tally

-- of the size in use
abbrev pub Tallied : Type 0
Tallied = TalliedOf present

abbrev pub tallied : Outcome → List Tally → Tallied
tallied out ts = record { outcome = out; tallies = ts }

module _ {size : Size} where
  -- "a list of another length is refused with 2 and stays untouched", as bytes and words do
  unfoldable pub with_list : MemoryOf size → List Tally → TalliedOf size → TalliedOf size
  with_list m ts rest = cond (list_fits size ts) rest (record { outcome = refusal row_state m; tallies = ts })

  -- an outcome, counted on record i; `anew` says that the list is zeroed first
  unfoldable pub counted : Bool → ℕ → List Tally → OutcomeOf size → TalliedOf size
  counted anew i ts out = record { outcome = out; tallies = raised_at i out.verdict (cond anew (zeroed size) ts) }

  -- a whole call, with its list: "a granted start .. zeroes the list, then counts itself"
  unfoldable pub performed : Order → MemoryOf size → List Tally → Call → TalliedOf size
  performed o m ts c = let out = perform o m c in with_list m ts (counted (is_start c && eqb out.verdict granted) (counted_on m c out.verdict) ts out)

  -- a whole load, with its list: a granted one zeroes it too, and each counts on record 0
  unfoldable pub loaded : Order → MemoryOf size → List Tally → List ℕ → TalliedOf size
  loaded o m ts t = let out = load o m t in with_list m ts (counted (eqb out.verdict granted) 0 ts out)
