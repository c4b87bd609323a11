-- Lists of calls and loads: what a list leaves, and which lists demand 3 speaks of.
-- Assumes nothing.
use Rattle.std.specs.Prelude.{◌≡◌, true, cond, ◌⊎◌, List, [], ◌∷◌, ℕ}
use Rattle.rows.specs.Size.{Size, present}
use Rattle.levels.specs.declared.Order.{Order}
use Rattle.model.specs.declared.Call.{Call}
use Rattle.model.specs.declared.Call.TheVariants.{Start, Read, Write, Execute, Create, CreateRoot, Move, Delete, CallTask, Invoke, Pass, Post, Find, Mark, Step, Spread}
use Rattle.model.specs.Verdicts.{granted, is_done}
use Rattle.model.specs.State.{MemoryOf}
use Rattle.model.specs.Monitor.{perform}
use Rattle.model.specs.Load.{load, past_order}

-- a call, a report, or the load of a text, with the order that it is lent
pub data Item : Type 0 where
  asks : Order → Call → Item
  reports : Order → Item
  loads : Order → List ℕ → Item

-- the order that it is lent
abbrev pub lent : Item → Order
lent (asks o c) = o
lent (reports o) = o
lent (loads o t) = o

-- where a list stands: the order of the last granted start, the memory left, and the tasks that a granted mark has named since that start. A load that
-- gets past rows 2 and 3 makes the state of a start, and counts as a granted start, refused or not
pub record StandingOf (size : Size) : Type 0 where
  pub order : Order
  pub memory : MemoryOf size
  pub outside : List ℕ

-- at the size in use
abbrev pub Standing : Type 0
Standing = StandingOf present

-- what a call means for that, if it is granted or slipped
pub data Role : Type 0 where
  starting : Role
  marking : ℕ → Role
  other : Role

abbrev pub role : Call → Role
role Start = starting
role (Read e d x) = other
role (Write e d x) = other
role (Execute c i n l r) = other
role (Create c d n k l) = other
role (CreateRoot c d n l) = other
role (Move e d x f t) = other
role (Delete e d x k) = other
role (CallTask a b) = other
role (Invoke a b) = other
role (Pass z x y) = other
role (Post x z y) = other
role (Find x z y) = other
role (Mark e) = marking e
role (Step x) = other
role Spread = other

-- ---- on a state of either size

module _ {size : Size} where
  -- the memory that an item leaves
  unfoldable pub leaves : Item → MemoryOf size → MemoryOf size
  leaves (asks o c) m = (perform o m c).memory
  leaves (reports o) m = m
  leaves (loads o t) m = (load o m t).memory

  -- after a call of that role that was granted or slipped
  unfoldable pub entered : Role → Order → MemoryOf size → StandingOf size → StandingOf size
  entered starting o m s = record { order = o; memory = m; outside = [] }
  entered (marking e) o m s = record { order = s.order; memory = m; outside = e ∷ s.outside }
  entered other o m s = record { order = s.order; memory = m; outside = s.outside }

  -- a refused call, and a report, leave all as it was; so does a load refused with 2 or 3
  unfoldable pub next : Item → StandingOf size → StandingOf size
  next (asks o c) s =
      cond (is_done (perform o s.memory c).verdict)
      (entered (role c) o (perform o s.memory c).memory s)
      (record { order = s.order; memory = (perform o s.memory c).memory; outside = s.outside })
  next (reports o) s = s
  next (loads o t) s =
      cond (past_order (load o s.memory t).verdict)
      (entered starting o (load o s.memory t).memory s)
      (record { order = s.order; memory = (load o s.memory t).memory; outside = s.outside })

  unfoldable pub run : List Item → StandingOf size → StandingOf size
  run [] s = s
  run (i ∷ is) s = run is (next i s)

  -- a call granted or slipped, but for a start, has the last granted start's order; a refused one may have any, and so may a report and a load
  abbrev pub Admitted : Item → StandingOf size → Type 0
  Admitted (asks o c) s = (role c ≡ starting) ⊎ (is_done (perform o s.memory c).verdict ≡ true → o ≡ s.order)
  Admitted (reports o) s = Unit {0}
  Admitted (loads o t) s = Unit {0}

  abbrev pub Admissible : List Item → StandingOf size → Type 0
  Admissible [] s = Unit {0}
  Admissible (i ∷ is) s = Admitted i s × Admissible is (next i s)

  -- where a list stands after the item that begins it, whatever the memory held
  unfoldable pub begun : Item → MemoryOf size → StandingOf size
  begun i m = record { order = lent i; memory = leaves i m; outside = [] }

-- what makes the state of a start, and so may begin a list: a granted start, or a load that gets past row 3
pub data Begins {size : Size} (m : MemoryOf size) : Item → Type 0 where
  by_start : (o : Order) → (perform o m Start).verdict ≡ granted → Begins m (asks o Start)
  by_load : (o : Order) (t : List ℕ) → past_order (load o m t).verdict ≡ true → Begins m (loads o t)
