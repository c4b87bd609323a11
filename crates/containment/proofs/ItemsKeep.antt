-- What begins a list establishes the invariant, and every item of a list keeps it.
-- Assumes nothing.
use Rattle.std.specs.Prelude.{◌≡◌, true, List, [], ◌∷◌, ℕ}
use Rattle.std.proofs.Common.{ap, inl, inr, ⊎_elim}
use Rattle.bits.specs.AllLaws.{either}
use Rattle.rows.specs.Size.{Size}
use Rattle.levels.specs.declared.Order.{Order}
use Rattle.layout.specs.Reading.{settled}
use Rattle.model.specs.Verdicts.{is_done}
use Rattle.model.specs.State.{MemoryOf}
use Rattle.model.specs.Monitor.{started, perform}
use Rattle.model.specs.Load.{layout_calls, load, past_order}
use Rattle.model.proofs.LoadLaws.{laid_leaves, load_past, load_kept}
use Rattle.model.proofs.TableLaws.{refused_keeps}
use Rattle.containment.specs.Lists.{Item, asks, reports, loads, StandingOf, entered, next, run, Admitted, Admissible, leaves, begun, Begins, by_start, by_load}
use Rattle.containment.proofs.Invariant.{standing, Invariant}
use Rattle.containment.proofs.CallsKeep.{started_keeps, start_keeps, call_keeps}
use Rattle.containment.proofs.LayoutCalls.{layout_goes, goes_leaves}

-- ---- what begins a list

-- a load past row 3 leaves the invariant, as a start does
pub load_keeps : {size : Size} (o : Order) (m : MemoryOf size) (t : List ℕ) → past_order (load o m t).verdict ≡ true → Invariant (standing o (load o m t).memory [])
load_keeps {size} o m t h =
    let d = load_past o m t h in
    let i = started_keeps size o d.1 in
    rw d.2 (laid_leaves size o (λ n. Invariant (standing o n [])) i (λ f g. goes_leaves o (layout_calls f) (started o) (layout_goes o f (started o) i) g) (settled t))

pub begun_keeps : {size : Size} {b : Item} {m : MemoryOf size} → Begins m b → Invariant (begun b m)
unfolding begun leaves
begun_keeps {m = m} (by_start o g) = start_keeps o m (ap is_done g)
begun_keeps {m = m} (by_load o t h) = load_keeps o m t h

-- ---- every item, and every list

pub next_keeps : {size : Size} (x : Item) (s : StandingOf size) → Invariant s → Admitted x s → Invariant (next x s)
unfolding next entered
next_keeps (asks o c) s i a =
    ⊎_elim (λ h. rw h (call_keeps s i o c a h)) (λ h. rw h (rw (refused_keeps o s.memory c h) i))
    (either (is_done (perform o s.memory c).verdict))
next_keeps (reports o) s i a = i
next_keeps (loads o t) s i a =
    elim (either (past_order (load o s.memory t).verdict)) [ inl h ↦ rw h (load_keeps o s.memory t h) | inr h ↦ rw h (rw (load_kept o s.memory t h) i) ]

pub run_keeps : {size : Size} (is : List Item) (s : StandingOf size) → Invariant s → Admissible is s → Invariant (run is s)
unfolding run
run_keeps [] s i a = i
run_keeps (x ∷ is) s i a = run_keeps is (next x s) (next_keeps x s i a.0) a.1
