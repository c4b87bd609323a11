-- The claims of document 02's deletions: the trail is exact, also without the flows of bridging, and a load's history is that of its calls; the proofs stand in Trails.antt, Direct.antt and LoadHistory.antt.
-- Assumes nothing.
use Rattle.std.specs.Prelude.{◌≡◌, true, ◌↔◌, List, map, ℕ}
use Rattle.rows.specs.Size.{Size}
use Rattle.levels.specs.declared.Order.{Order}
use Rattle.model.specs.declared.Call.TheVariants.{Start, Spread}
use Rattle.model.specs.Verdicts.{granted}
use Rattle.model.specs.State.{MemoryOf, in_use, marked}
use Rattle.model.specs.Monitor.{perform}
use Rattle.model.specs.Load.{layout_calls, load}
use Rattle.containment.specs.Lists.{Item, asks, StandingOf, next, run, begun, Begins}
use Rattle.containment.specs.Claims.{Reached, AsCalls}
use Rattle.containment.specs.History.{Life, History, life_of, Trail, every, direct, anew, after, history_of}

-- a thing in use is marked exactly when a chain of joins leads to its life from a life that a granted mark named
abbrev pub Trailed : {size : Size} → StandingOf size → History → Type 0
Trailed s h = (x : ℕ) → in_use s.memory x ≡ true → (marked s.memory x ≡ true) ↔ Trail h (life_of h x)

-- after every list that ends in a granted spread; here its calls may be lent any orders. Too little bridging would break this claim, and bridging that leads where
-- nothing led before the next one: together they hold the deletions
abbrev pub TrailExact : Type 0
TrailExact = (size : Size) (b : Item) (m : MemoryOf size) (is : List Item) → Begins m b
    → (o : Order) → let s = run is (begun b m) in (perform o s.memory Spread).verdict ≡ granted
    → Trailed (next (asks o Spread) s) (after every (asks o Spread) s (history_of every b m is))

-- and, for the lists of demand 3, no chain needs a flow that bridging recorded
abbrev pub TrailDirect : Type 0
TrailDirect = (size : Size) (b : Item) (m : MemoryOf size) (is : List Item) → Reached b m is
    → (o : Order) → let s = run is (begun b m) in (perform o s.memory Spread).verdict ≡ granted
    → Trailed (next (asks o Spread) s) (after direct (asks o Spread) s (history_of direct b m is))

-- the same lives are over, joined and named
pub record SameHistory (g h : History) : Type 0 where
  pub same_ended : (x : ℕ) → g.ended x ≡ h.ended x
  pub same_joined : (a b : Life) → g.joined a b ≡ h.joined a b
  pub same_named : g.named ≡ h.named

-- the history that a granted load, which is such calls, begins is that of a start and then its calls, every flow counted
abbrev pub LoadHistory : Type 0
LoadHistory = (size : Size) (o : Order) (m : MemoryOf size) (t : List ℕ) (a : AsCalls o m t)
    → SameHistory (anew (load o m t).memory) (history_of every (asks o Start) m (map (asks o) (layout_calls a.layout)))
