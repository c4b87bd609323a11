-- The claims about tallies, each a short definition, for a state of either size; the proofs stand in TallyProof.antt, that of WholeContainment in Proved.antt.
-- Assumes nothing.
use Rattle.std.specs.Prelude.{◌≡◌, true, false, ◌⊎◌, List, ℕ, ◌<◌, length, get_or, set}
use Rattle.rows.specs.Size.{Size, numbers_of}
use Rattle.levels.specs.declared.Order.{Order}
use Rattle.model.specs.declared.Call.{Call}
use Rattle.model.specs.declared.Call.TheVariants.{Start, Read, Write, Execute, Create, CreateRoot, Move, Delete, CallTask, Invoke, Pass, Post, Find, Mark, Step, Spread}
use Rattle.model.specs.declared.Tally.{Tally}
use Rattle.model.specs.Verdicts.{granted, is_done, row_state}
use Rattle.model.specs.State.{MemoryOf, task}
use Rattle.model.specs.Monitor.{refusal, started, perform}
use Rattle.model.specs.Load.{load, past_order}
use Rattle.model.specs.Tallies.{one_more, raised, nothing_counted, counted_on, TalliedOf, performed, loaded}
use Rattle.containment.specs.Lists.{StandingOf, run, begun}
use Rattle.containment.specs.TallyLists.{WholeItem, item, fitting, run_whole, AdmissibleWhole, BeginsWhole}
use Rattle.containment.specs.Claims.{Contained, Reached}

-- "a lent list of 128", at the small size
abbrev pub Fits : Size → List Tally → Type 0
Fits size ts = length ts ≡ numbers_of size

-- record i of a list
abbrev pub record_of : List Tally → ℕ → Tally
record_of ts i = get_or ts i nothing_counted

-- ---- the length of the list

-- "A list of another length is refused with 2 and stays untouched", and so does all else, a start and a load too
abbrev pub AnotherLength : Type 0
AnotherLength = (size : Size) (o : Order) (m : MemoryOf size) (ts : List Tally) → (Fits size ts → ⊥)
    → ((c : Call) → performed o m ts c ≡ record { outcome = refusal row_state m; tallies = ts })
    × ((t : List ℕ) → loaded o m ts t ≡ record { outcome = refusal row_state m; tallies = ts })

-- of a list of the right length nothing is tested: what else a call or a load answers and leaves does not depend on it
abbrev pub NeverTested : Type 0
NeverTested = (size : Size) (o : Order) (m : MemoryOf size) (ts : List Tally) → Fits size ts
    → ((c : Call) → (performed o m ts c).outcome ≡ perform o m c) × ((t : List ℕ) → (loaded o m ts t).outcome ≡ load o m t)

-- ---- refusals

-- of record i, which the list has, the refusals are one more; nothing else changes
pub record OnlyRefused (i : ℕ) (ts us : List Tally) : Type 0 where
  pub is_record : i < length ts
  pub leaves : us ≡ set ts i (record { granted = (record_of ts i).granted; slipped = (record_of ts i).slipped; refused = one_more (record_of ts i).refused })

-- a refusal counts on record i of a list of the right length; one of another length it leaves, and then its number is 2
pub record RefusedOn {size : Size} (i : ℕ) (ts : List Tally) (done : TalliedOf size) : Type 0 where
  pub counted : Fits size ts → OnlyRefused i ts done.tallies
  pub uncounted : (Fits size ts → ⊥) → (done.outcome.verdict ≡ row_state) × (done.tallies ≡ ts)

-- demand 1: a refused call changes no lent memory but "that one record"
abbrev pub RefusalKeeps : Type 0
RefusalKeeps = (size : Size) (o : Order) (m : MemoryOf size) (ts : List Tally) (c : Call)
    → let done = performed o m ts c in is_done done.outcome.verdict ≡ false
    → (done.outcome.memory ≡ m) × RefusedOn (counted_on m c done.outcome.verdict) ts done

-- so does a refused load, on record 0; but past row 3 it leaves the state of a start, "the one exception for refused calls"
abbrev pub RefusedLoadKeeps : Type 0
RefusedLoadKeeps = (size : Size) (o : Order) (m : MemoryOf size) (ts : List Tally) (t : List ℕ)
    → let done = loaded o m ts t in is_done done.outcome.verdict ≡ false
    → (past_order done.outcome.verdict ≡ false → done.outcome.memory ≡ m)
    × (past_order done.outcome.verdict ≡ true → done.outcome.memory ≡ started o)
    × RefusedOn 0 ts done

-- ---- one record, and whose

-- record i, which the list has, is raised by the verdict v, and all others are as they were
pub record RaisedOnly (i v : ℕ) (ts us : List Tally) : Type 0 where
  pub is_record : i < length ts
  pub as_long : length us ≡ length ts
  pub raised_it : record_of us i ≡ raised (record_of ts i) v
  pub others_kept : (j : ℕ) → (j ≡ i → ⊥) → record_of us j ≡ record_of ts j

-- "a call raises only the record of the task that asks", whatever its verdict, but for a granted start; so does a load, but for a granted one
abbrev pub OthersKept : Type 0
OthersKept = (size : Size) (o : Order) (m : MemoryOf size) (ts : List Tally) → Fits size ts
    → ((c : Call) → let v = (performed o m ts c).outcome.verdict in (c ≡ Start → v ≡ granted → ⊥) → RaisedOnly (counted_on m c v) v ts (performed o m ts c).tallies)
    × ((t : List ℕ) → let v = (loaded o m ts t).outcome.verdict in (v ≡ granted → ⊥) → RaisedOnly 0 v ts (loaded o m ts t).tallies)

-- the calls that a task asks for, each with the number that stands first in it
pub data AskedBy : ℕ → Call → Type 0 where
  of_read : (e d x : ℕ) → AskedBy e (Read e d x)
  of_write : (e d x : ℕ) → AskedBy e (Write e d x)
  of_execute : (c i n l r : ℕ) → AskedBy c (Execute c i n l r)
  of_create : (c d n k l : ℕ) → AskedBy c (Create c d n k l)
  of_create_root : (c d n l : ℕ) → AskedBy c (CreateRoot c d n l)
  of_move : (e d x f t : ℕ) → AskedBy e (Move e d x f t)
  of_delete : (e d x k : ℕ) → AskedBy e (Delete e d x k)
  of_call : (a b : ℕ) → AskedBy a (CallTask a b)
  of_invoke : (a b : ℕ) → AskedBy a (Invoke a b)
  of_pass : (z x y : ℕ) → AskedBy z (Pass z x y)
  of_post : (x z y : ℕ) → AskedBy x (Post x z y)
  of_find : (x z y : ℕ) → AskedBy x (Find x z y)

-- those that no task asks for
pub data AskedByNone : Call → Type 0 where
  of_start : AskedByNone Start
  of_mark : (e : ℕ) → AskedByNone (Mark e)
  of_step : (x : ℕ) → AskedByNone (Step x)
  of_spread : AskedByNone Spread

-- there are no others
abbrev pub AllAsked : Type 0
AllAsked = (c : Call) → AskedByNone c ⊎ ((x : ℕ) × AskedBy x c)

-- past rows 2 and 3 the first number's record is raised where that names a task, and otherwise record 0; other numbers do not matter
abbrev pub OnAsker : Type 0
OnAsker = (size : Size) (o : Order) (m : MemoryOf size) (ts : List Tally) (x : ℕ) (c : Call) → Fits size ts → AskedBy x c
    → let done = performed o m ts c in let v = done.outcome.verdict in past_order v ≡ true
    → (task m x ≡ true → RaisedOnly x v ts done.tallies) × (task m x ≡ false → RaisedOnly 0 v ts done.tallies)

-- "Start, .. mark, step and spread count on record 0, and so does a call refused with 2 or 3". Of loads OthersKept says it
abbrev pub OnRecordZero : Type 0
OnRecordZero = (size : Size) (o : Order) (m : MemoryOf size) (ts : List Tally) (c : Call) → Fits size ts
    → let done = performed o m ts c in let v = done.outcome.verdict in
    (AskedByNone c → (c ≡ Start → v ≡ granted → ⊥) → RaisedOnly 0 v ts done.tallies) × (past_order v ≡ false → RaisedOnly 0 v ts done.tallies)

-- ---- what begins anew

-- record 0 has counted one granted call, and nothing else is counted
pub record CountsItself (size : Size) (us : List Tally) : Type 0 where
  pub as_long : Fits size us
  pub itself : record_of us 0 ≡ record { granted = 1; slipped = 0; refused = 0 }
  pub others_zero : (j : ℕ) → j < numbers_of size → (j ≡ 0 → ⊥) → record_of us j ≡ nothing_counted

-- "A granted start or load zeroes the list, then counts itself"
abbrev pub BegunAnew : Type 0
BegunAnew = (size : Size) (o : Order) (m : MemoryOf size) (ts : List Tally)
    → ((performed o m ts Start).outcome.verdict ≡ granted → CountsItself size (performed o m ts Start).tallies)
    × ((t : List ℕ) → (loaded o m ts t).outcome.verdict ≡ granted → CountsItself size (loaded o m ts t).tallies)

-- ---- the lists of demand 3

-- what a list of whole calls and loads leaves, whatever tallies each is lent, is what those lent a list of the right length leave
abbrev pub TalliesApart : Type 0
TalliesApart = (size : Size) (is : List WholeItem) (s : StandingOf size) → run_whole is s ≡ run (fitting size is) s

-- so all claims about lists hold of such lists: what fits makes one of demand 3's lists, if a granted start or a load past row 3 begins it and each
-- whole call granted or slipped, but for a start, has the last granted start's order
abbrev pub WholeReached : Type 0
WholeReached = (size : Size) (b : WholeItem) (m : MemoryOf size) (is : List WholeItem) → BeginsWhole m b → AdmissibleWhole is (begun (item b) m) → Reached (item b) m (fitting size is)

-- demand 3 of whole calls and loads
abbrev pub WholeContainment : Type 0
WholeContainment = (size : Size) (b : WholeItem) (m : MemoryOf size) (is : List WholeItem) → BeginsWhole m b → AdmissibleWhole is (begun (item b) m) → Contained (run_whole is (begun (item b) m))
