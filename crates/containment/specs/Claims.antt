-- The claims of demand 3 and those about loads and containers, each a short definition, for a state of either size; the proofs stand in Proved.antt.
-- Assumes nothing.
use Rattle.std.specs.Prelude.{◌≡◌, Bool, true, false, ◌&&◌, ◌||◌, ◌⊎◌, ◌↔◌, ℕ, ◌≤◌, ◌<◌, eqb, length}
use mathlib.Core.List.{List, [], ◌∷◌, map, Memᴰ}
use Rattle.rows.specs.Size.{Size, numbers_of}
use Rattle.levels.specs.declared.Order.{Order}
use Rattle.levels.specs.Order.{at_or_below, order_passes}
use Rattle.records.specs.Records.{record_size, field, sound_of}
use Rattle.layout.specs.Layout.{Layout, Fits, depth, most_deep, written, most_bytes}
use Rattle.model.specs.declared.Call.{Call}
use Rattle.model.specs.declared.Call.TheVariants.{Start, Move, Mark, Spread}
use Rattle.model.specs.Verdicts.{granted, is_done, row_state, row_order, row_number, row_taken, row_place, row_scale, row_rule, row_form, row_deep}
use Rattle.model.specs.State.{MemoryOf, lengths_fit, in_use, task, object, is_root, lies_in, level_of, driver_of, marked, has_flow, has_read, has_write}
use Rattle.model.specs.Inside.{most_steps, Leads, Inside, inside}
use Rattle.model.specs.Spread.{marks_some}
use Rattle.model.specs.Monitor.{started, perform}
use Rattle.model.specs.Load.{layout_calls, load, past_order}
use Rattle.containment.specs.Lists.{Item, asks, loads, lent, StandingOf, next, run, Admissible, begun, Begins}
use Rattle.containment.specs.Chains.{Chain}

-- ---- the limits on levels

-- level l is at or below the level of some task marked from outside since the last granted start
abbrev pub Covered : {size : Size} → StandingOf size → ℕ → Type 0
Covered s l = (t : ℕ) × Memᴰ t s.outside × (task s.memory t ≡ true) × (at_or_below s.order l (level_of s.memory t) ≡ true)

-- demand 3 of the memory that a list leaves
pub record Contained {size : Size} (s : StandingOf size) : Type 0 where
  -- every marked thing lies at or below the level of some task marked from outside since
  pub marks_covered : (x : ℕ) → x < numbers_of size → marked s.memory x ≡ true → Covered s (level_of s.memory x)
  -- every recorded flow joins things in use
  pub flows_join : (x y : ℕ) → x < numbers_of size → y < numbers_of size → has_flow s.memory x y ≡ true → (in_use s.memory x ≡ true) × (in_use s.memory y ≡ true)
  -- and ends at or below its source's level, or such a task's
  pub flows_end : (x y : ℕ) → x < numbers_of size → y < numbers_of size → has_flow s.memory x y ≡ true
      → (at_or_below s.order (level_of s.memory y) (level_of s.memory x) ≡ true) ⊎ Covered s (level_of s.memory y)

-- a list begun by a granted start, or by a load past row 3, which counts as one: the memory before it may hold anything
pub record Reached {size : Size} (b : Item) (m : MemoryOf size) (is : List Item) : Type 0 where
  pub beginning : Begins m b
  pub admissible : Admissible is (begun b m)

-- demand 3, both limits on levels: one claim about the list as a whole
abbrev pub Containment : Type 0
Containment = (size : Size) (b : Item) (m : MemoryOf size) (is : List Item) → Reached b m is → Contained (run is (begun b m))

-- ---- what a list leaves is settled by its calls alone

abbrev pub Determined : Type 0
Determined = (size : Size) (b : Item) (m n : MemoryOf size) (is : List Item) → Begins m b → Begins n b → run is (begun b m) ≡ run is (begun b n)

-- ---- every granted spread, on any state, marks exactly what chains reach

pub record Exact {size : Size} (m n : MemoryOf size) : Type 0 where
  -- marked after it: what a chain reaches, and the chains begin with what was marked before
  pub by_chains : (x : ℕ) → x < numbers_of size → (marked n x ≡ true) ↔ Chain m x
  -- nothing changes but marks
  pub words_kept : n.words ≡ m.words
  pub bytes_kept : (x f : ℕ) → x < numbers_of size → f < record_size → (f ≡ 5 → ⊥) → field n.bytes x f ≡ field m.bytes x f
  -- a mark that was there stays as it was
  pub marks_kept : (x : ℕ) → x < numbers_of size → marked m x ≡ true → field n.bytes x 5 ≡ field m.bytes x 5
  -- and one more round would mark nothing
  pub at_rest : marks_some n ≡ false

abbrev pub SpreadExact : Type 0
SpreadExact = (size : Size) (o : Order) (m : MemoryOf size) → (perform o m Spread).verdict ≡ granted → Exact m (perform o m Spread).memory

-- ---- a repeated mark changes only the tallies

abbrev pub RepeatedMark : Type 0
RepeatedMark = (size : Size) (b : Item) (m : MemoryOf size) (is : List Item) → Reached b m is → (e : ℕ) → Memᴰ e (run is (begun b m)).outside
    → perform (run is (begun b m)).order (run is (begun b m)).memory (Mark e) ≡ record { verdict = granted; rounds = 0; memory = (run is (begun b m)).memory }

-- ---- soundness is kept

-- every call that is granted or slipped leaves right lengths and sound bytes, on any memory, reached or not
abbrev pub LeavesSound : Type 0
LeavesSound = (size : Size) (o : Order) (m : MemoryOf size) (c : Call) → is_done (perform o m c).verdict ≡ true
    → (lengths_fit (perform o m c).memory ≡ true) × (sound_of size o (perform o m c).memory.bytes ≡ true)

-- so does every load past row 3, granted or not
abbrev pub LoadsSound : Type 0
LoadsSound = (size : Size) (o : Order) (m : MemoryOf size) (t : List ℕ) → past_order (load o m t).verdict ≡ true
    → (lengths_fit (load o m t).memory ≡ true) × (sound_of size o (load o m t).memory.bytes ≡ true)

-- so no call and no load of a list is refused with 2 under the last granted start's order; by NeverTested a whole one is so only for the length of its tallies
abbrev pub NeverUnsound : Type 0
NeverUnsound = (size : Size) (b : Item) (m : MemoryOf size) (is : List Item) → Reached b m is
    → ((c : Call) → (perform (run is (begun b m)).order (run is (begun b m)).memory c).verdict ≡ row_state → ⊥)
    × ((t : List ℕ) → (load (run is (begun b m)).order (run is (begun b m)).memory t).verdict ≡ row_state → ⊥)

-- ---- loads

-- the numbers that the calls of a layout give: nothing being marked, none slips
unfoldable pub layout_gives : ℕ → Bool
layout_gives v = eqb v granted || eqb v row_number || eqb v row_taken || eqb v row_scale || eqb v row_rule

module _ {size : Size} (o : Order) where
  -- each gives one of these, up to the first that is refused, and so does that one
  unfoldable pub GiveThese : List Call → MemoryOf size → Type 0
  GiveThese [] m = Unit {0}
  GiveThese (c ∷ cs) m = (layout_gives (perform o m c).verdict ≡ true) × (is_done (perform o m c).verdict ≡ true → GiveThese cs (perform o m c).memory)

  -- each is granted
  unfoldable pub AllGranted : List Call → MemoryOf size → Type 0
  AllGranted [] m = Unit {0}
  AllGranted (c ∷ cs) m = ((perform o m c).verdict ≡ granted) × AllGranted cs (perform o m c).memory

  -- those before one are granted, and that one is refused with v
  unfoldable pub FirstRefused : List Call → MemoryOf size → ℕ → Type 0
  FirstRefused [] m v = ⊥
  FirstRefused (c ∷ cs) m v =
      ((is_done (perform o m c).verdict ≡ false) × ((perform o m c).verdict ≡ v)) ⊎ (((perform o m c).verdict ≡ granted) × FirstRefused cs (perform o m c).memory v)

abbrev pub LayoutGives : Type 0
LayoutGives = (size : Size) (o : Order) → order_passes o ≡ true → (f : Layout) → GiveThese {size = size} o (layout_calls f) (started o)

-- so a load's verdict is one of these, 2, 3, 14 or 15
abbrev pub LoadGives : Type 0
LoadGives = (size : Size) (o : Order) (m : MemoryOf size) (t : List ℕ)
    → let v = (load o m t).verdict in (layout_gives v || eqb v row_state || eqb v row_order || eqb v row_form || eqb v row_deep) ≡ true

-- "The result is that of a start and then these calls, in file order": the text is that of a layout, not too deep and not too long, whose calls are all
-- granted after a start, and leave what the load leaves
pub record AsCalls {size : Size} (o : Order) (m : MemoryOf size) (t : List ℕ) : Type 0 where
  pub layout : Layout
  pub fits : Fits layout
  pub text : written layout ≡ t
  pub not_deep : depth layout ≤ most_deep
  pub not_long : length t ≤ most_bytes
  pub start_granted : (perform o m Start).verdict ≡ granted
  pub all_granted : AllGranted o (layout_calls layout) (perform o m Start).memory
  pub leaves_same : begun (loads o t) m ≡ run (map (asks o) (layout_calls layout)) (begun (asks o Start) m)

abbrev pub LoadIsList : Type 0
LoadIsList = (size : Size) (o : Order) (m : MemoryOf size) (t : List ℕ) → (load o m t).verdict ≡ granted → AsCalls o m t

-- the load of such a layout's text tells what its calls give after a start: granted if all are, and otherwise the number of the first that is refused
pub record Tells {size : Size} (o : Order) (m : MemoryOf size) (f : Layout) : Type 0 where
  pub granted_all : AllGranted o (layout_calls f) (perform o m Start).memory → (load o m (written f)).verdict ≡ granted
  pub refused_with : (v : ℕ) → FirstRefused o (layout_calls f) (perform o m Start).memory v → (load o m (written f)).verdict ≡ v

abbrev pub LoadTells : Type 0
LoadTells = (size : Size) (o : Order) (m : MemoryOf size) (f : Layout) → lengths_fit m ≡ true → order_passes o ≡ true → Fits f → depth f ≤ most_deep → length (written f) ≤ most_bytes → Tells o m f

-- "as a start, tests only lengths for 2", then 3
abbrev pub LoadRows : Type 0
LoadRows = (size : Size) (o : Order) (m : MemoryOf size) (t : List ℕ)
    → (lengths_fit m ≡ false → (load o m t).verdict ≡ row_state) × (lengths_fit m ≡ true → order_passes o ≡ false → (load o m t).verdict ≡ row_order)

-- a load refused past row 3 leaves the state of a start, "the one exception for refused calls"
abbrev pub RefusedLoad : Type 0
RefusedLoad = (size : Size) (o : Order) (m : MemoryOf size) (t : List ℕ) → past_order (load o m t).verdict ≡ true → is_done (load o m t).verdict ≡ false
    → begun (loads o t) m ≡ begun (asks o Start) m

-- and one refused with 2 or 3 leaves all as it was
abbrev pub UntouchedByLoad : Type 0
UntouchedByLoad = (size : Size) (o : Order) (t : List ℕ) (s : StandingOf size) → past_order (load o s.memory t).verdict ≡ false → next (loads o t) s ≡ s

-- ---- containers

-- "going from container to container ends at a root in at most 127 steps", from the object x
pub record EndsAtRoot {size : Size} (m : MemoryOf size) (x : ℕ) : Type 0 where
  pub steps : ℕ
  pub end : ℕ
  pub at_most : steps ≤ most_steps size
  pub leads : Leads m steps x end
  pub end_object : object m end ≡ true
  pub end_root : is_root m end ≡ true

-- in every reached state, from every object
abbrev pub Rooted : Type 0
Rooted = (size : Size) (b : Item) (m : MemoryOf size) (is : List Item) → Reached b m is
    → (x : ℕ) → object (run is (begun b m)).memory x ≡ true → EndsAtRoot (run is (begun b m)).memory x

-- the walk that a move is tested by comes to y exactly where one or more steps from x lead there, on every sound memory, reached or not, circles or none
abbrev pub InsideExact : Type 0
InsideExact = (size : Size) (o : Order) (m : MemoryOf size) → sound_of size o m.bytes ≡ true
    → (x y : ℕ) → object m x ≡ true → (inside m x y ≡ true) ↔ Inside m x y

-- what row 7 refuses a move of x from f to t for
pub data Misplaced {size : Size} (m : MemoryOf size) (x f t : ℕ) : Type 0 where
  from_itself : x ≡ f → Misplaced m x f t
  to_itself : x ≡ t → Misplaced m x f t
  to_the_same : f ≡ t → Misplaced m x f t
  not_there : lies_in m x f ≡ false → Misplaced m x f t
  -- "the new container lies anywhere inside the object"
  to_its_inside : Inside m t x → Misplaced m x f t

-- where no row above applies, a move is refused with 7 for these and for nothing else
abbrev pub MovePlace : Type 0
MovePlace = (size : Size) (o : Order) (m : MemoryOf size) → lengths_fit m ≡ true → sound_of size o m.bytes ≡ true → order_passes o ≡ true
    → (e d x f t : ℕ) → (task m e && task m d && object m x && object m f && object m t) ≡ true → driver_of m x ≡ d
    → ((perform o m (Move e d x f t)).verdict ≡ row_place) ↔ Misplaced m x f t

-- ---- free numbers

-- no flow, no read access and no write access of x to y is recorded
abbrev pub Unrecorded : {size : Size} → MemoryOf size → ℕ → ℕ → Type 0
Unrecorded m x y = (has_flow m x y ≡ false) × (has_read m x y ≡ false) × (has_write m x y ≡ false)

-- of a number that is not in use nothing is recorded, in either direction: given out anew, it keeps nothing of an earlier use
abbrev pub FreeBare : Type 0
FreeBare = (size : Size) (b : Item) (m : MemoryOf size) (is : List Item) → Reached b m is → (x y : ℕ) → x < numbers_of size → y < numbers_of size → in_use (run is (begun b m)).memory x ≡ false
    → Unrecorded (run is (begun b m)).memory x y × Unrecorded (run is (begun b m)).memory y x

-- ---- objects and their drivers

-- every object is at or below its driver
abbrev pub UnderDrivers : {size : Size} → StandingOf size → Type 0
UnderDrivers {size} s = (x : ℕ) → x < numbers_of size → object s.memory x ≡ true → at_or_below s.order (level_of s.memory x) (level_of s.memory (driver_of s.memory x)) ≡ true

-- so "only bytes not reached from a start, or an order other than that start's, can break" read's rule L(o) ≤ L(d)
abbrev pub DriversAbove : Type 0
DriversAbove = (size : Size) (b : Item) (m : MemoryOf size) (is : List Item) → Reached b m is → UnderDrivers (run is (begun b m))

-- ---- no claim is empty

-- a start is granted wherever the lengths are right and the order passes, as Q does in P1
abbrev pub StartGranted : Type 0
StartGranted = (size : Size) (o : Order) (m : MemoryOf size) → lengths_fit m ≡ true → order_passes o ≡ true → (perform o m Start).verdict ≡ granted

-- so such a start begins lists, and so does every load there
abbrev pub ListsBegin : Type 0
ListsBegin = (size : Size) (o : Order) (m : MemoryOf size) → lengths_fit m ≡ true → order_passes o ≡ true → Begins m (asks o Start) × ((t : List ℕ) → Begins m (loads o t))

-- any calls, reports and loads at all may follow what begins a list, if each is lent its order
abbrev pub OwnOrderReached : Type 0
OwnOrderReached = (size : Size) (b : Item) (m : MemoryOf size) (is : List Item) → Begins m b → ((i : Item) → Memᴰ i is → lent i ≡ lent b) → Reached b m is

-- after every list, the core may be marked from outside under its order
abbrev pub MarkGranted : Type 0
MarkGranted = (size : Size) (b : Item) (m : MemoryOf size) (is : List Item) → Reached b m is
    → (perform (run is (begun b m)).order (run is (begun b m)).memory (Mark 0)).verdict ≡ granted

-- after every list, a spread under its order is granted
abbrev pub SpreadGranted : Type 0
SpreadGranted = (size : Size) (b : Item) (m : MemoryOf size) (is : List Item) → Reached b m is
    → (perform (run is (begun b m)).order (run is (begun b m)).memory Spread).verdict ≡ granted

-- a spread is granted on this memory and marks something, and no list leaves it, under any order
pub record Unreached {size : Size} (o : Order) (m : MemoryOf size) : Type 0 where
  pub spread_granted : (perform o m Spread).verdict ≡ granted
  pub spread_marks : marks_some m ≡ true
  pub no_list : (b : Item) (n : MemoryOf size) (is : List Item) → Reached b n is → (run is (begun b n)).memory ≡ m → ⊥

-- there is one of each size: SpreadExact speaks of more memories than lists leave
abbrev pub GrantedUnreached : Type 0
GrantedUnreached = (size : Size) → (o : Order) × (m : MemoryOf size) × Unreached o m
