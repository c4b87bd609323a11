-- Lists of whole calls and loads, each lent tallies: what such a list leaves of the state.
-- Assumes nothing.
use Rattle.std.specs.Prelude.{◌≡◌, true, cond, ◌⊎◌, List, [], ◌∷◌, ℕ}
use Rattle.rows.specs.Size.{Size}
use Rattle.levels.specs.declared.Order.{Order}
use Rattle.model.specs.declared.Call.TheVariants.{Start}
use Rattle.model.specs.declared.Tally.{Tally}
use Rattle.model.specs.Verdicts.{granted, is_done}
use Rattle.model.specs.State.{MemoryOf}
use Rattle.model.specs.Load.{past_order}
use Rattle.model.specs.Tallies.{list_fits, performed, loaded}
use Rattle.containment.specs.Lists.{Item, asks, reports, loads, StandingOf, starting, role, entered}

-- an item with the tallies that it is lent. A report is lent none: what stands here for it says nothing
pub data WholeItem : Type 0 where
  with_tallies : List Tally → Item → WholeItem

abbrev pub item : WholeItem → Item
item (with_tallies ts i) = i

-- the items that are lent a list of the right length
unfoldable pub fitting : Size → List WholeItem → List Item
fitting size [] = []
fitting size (with_tallies ts i ∷ is) = cond (list_fits size ts) (i ∷ fitting size is) (fitting size is)

module _ {size : Size} where
  -- as `next`, by what the whole call or load answers and leaves
  unfoldable pub next_whole : WholeItem → StandingOf size → StandingOf size
  next_whole (with_tallies ts (asks o c)) s =
      let out = (performed o s.memory ts c).outcome in
      cond (is_done out.verdict) (entered (role c) o out.memory s) (record { order = s.order; memory = out.memory; outside = s.outside })
  next_whole (with_tallies ts (reports o)) s = s
  next_whole (with_tallies ts (loads o t)) s =
      let out = (loaded o s.memory ts t).outcome in
      cond (past_order out.verdict) (entered starting o out.memory s) (record { order = s.order; memory = out.memory; outside = s.outside })

  unfoldable pub run_whole : List WholeItem → StandingOf size → StandingOf size
  run_whole [] s = s
  run_whole (i ∷ is) s = run_whole is (next_whole i s)

  -- as `Admitted`: a whole call granted or slipped, but for a start, has the last granted start's order
  abbrev pub AdmittedWhole : WholeItem → StandingOf size → Type 0
  AdmittedWhole (with_tallies ts (asks o c)) s = (role c ≡ starting) ⊎ (is_done (performed o s.memory ts c).outcome.verdict ≡ true → o ≡ s.order)
  AdmittedWhole (with_tallies ts (reports o)) s = Unit {0}
  AdmittedWhole (with_tallies ts (loads o t)) s = Unit {0}

  abbrev pub AdmissibleWhole : List WholeItem → StandingOf size → Type 0
  AdmissibleWhole [] s = Unit {0}
  AdmissibleWhole (i ∷ is) s = AdmittedWhole i s × AdmissibleWhole is (next_whole i s)

-- as `Begins`: a whole start that is granted, or a whole load past row 3
pub data BeginsWhole {size : Size} (m : MemoryOf size) : WholeItem → Type 0 where
  by_whole_start : (ts : List Tally) (o : Order) → (performed o m ts Start).outcome.verdict ≡ granted → BeginsWhole m (with_tallies ts (asks o Start))
  by_whole_load : (ts : List Tally) (o : Order) (t : List ℕ) → past_order (loaded o m ts t).outcome.verdict ≡ true → BeginsWhole m (with_tallies ts (loads o t))
