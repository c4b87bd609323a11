-- The trail is exact without the flows that bridging records: what a call did not record itself is a path that it found.
-- Assumes nothing.
use Rattle.std.specs.Prelude.{◌≡◌, true, ◌&&◌, ◌⊎◌, List, [], ◌∷◌, ℕ, ◌<◌}
use Rattle.std.proofs.Math.Path.{refl}
use Rattle.std.proofs.Common.{sym, ap, ◌∙◌}
use Rattle.std.proofs.Math.Bool.{not, and-eq-true_iff}
use Rattle.std.proofs.Math.Logic.{inl, inr, ⊎_elim}
use Rattle.std.proofs.Math.Dec.{eqb}
use Rattle.bits.specs.AllLaws.{either, or_cases, and_i, and_l}
use Rattle.rows.specs.Size.{Size, numbers_of}
use Rattle.levels.specs.declared.Order.{Order}
use Rattle.levels.specs.OrderLaws.{is_order}
use Rattle.model.specs.declared.Call.{Call}
use Rattle.model.specs.declared.Call.TheVariants.{Start, Read, Write, Execute, Create, CreateRoot, Move, Delete, CallTask, Invoke, Pass, Post, Find, Mark, Step, Spread}
use Rattle.model.specs.Verdicts.{is_done}
use Rattle.model.specs.State.{MemoryOf, in_use, task, object, marked, has_flow}
use Rattle.model.proofs.StateLaws.{task_used, object_used, used_below}
use Rattle.model.specs.Effects.{Effect, flow_if, bridge, clear, effect, effects}
use Rattle.model.proofs.EffectLaws.{Long, fit_long, effect_long, flow_after}
use Rattle.model.specs.Events.{delete}
use Rattle.model.specs.Monitor.{perform}
use Rattle.model.proofs.SoundLaws.{leaves_sound}
use Rattle.model.proofs.TableLaws.{event_done}
use Rattle.containment.specs.Lists.{Item, asks, reports, loads, StandingOf, role, next, run, Admissible, begun}
use Rattle.containment.specs.TrailClaims.{TrailDirect}
use Rattle.containment.proofs.Invariant.{Limits, Invariant, contained}
use Rattle.containment.proofs.Preserve.{effect_keeps}
use Rattle.containment.proofs.CallsKeep.{NoStart}
use Rattle.containment.proofs.ItemsKeep.{begun_keeps, next_keeps, run_keeps}
use Rattle.containment.specs.History.{direct, own_flow, counts}
use Rattle.containment.proofs.Reach.{at, along, Path}
use Rattle.containment.proofs.Bypass.{bypassed, bypassed_long, bridge_adds_none}
use Rattle.containment.proofs.Trails.{Counted, ItemCounted, AllCounted, counted_trail}

-- within the limits a flow is a path, since it joins things in use
flow_path : {size : Size} (s : StandingOf size) → Limits s → (x y : ℕ) → x < numbers_of size → y < numbers_of size → has_flow s.memory x y ≡ true → Path s.memory x y
flow_path s k x y lx ly f = let j = (contained s k).flows_join x y lx ly f in along x y (at x lx j.0 refl) ly j.1 f

module _ {size : Size} (s : StandingOf size) (i : Invariant s) where
  abbrev m : MemoryOf size
  m = s.memory

  long : Long m
  long = fit_long m i.limits.fits

  -- ---- what a call leaves, did not find and has not recorded itself must be a path that it found

  own_counted : (c : Call) (n : MemoryOf size) → Long n → ((x y : ℕ) → x < numbers_of size → y < numbers_of size → has_flow n x y ≡ true → (own_flow c m x y ≡ true) ⊎ Path m x y) → Counted direct c m n
  unfolding counts
  own_counted c n l own =
      record {
        recorded = λ x y ux uy f. and_l (has_flow n x y) _ (and_l (has_flow n x y && not (has_flow m x y)) _ f);
        found = λ x y ux uy f.
            let lx = used_below n x l.bytes_long ux in
            let ly = used_below n y l.bytes_long uy in
            ⊎_elim (λ e. inr (flow_path s i.limits x y lx ly e)) (λ e. ⊎_elim (λ g. inl (and_i (and_i f (ap not e)) g)) (λ g. inr g) (own x y lx ly f)) (either (has_flow m x y));
      }

  -- ---- of a deletion: all but its own flow were there, or are bridged

  delete_counted : (e d x q : ℕ) → task m e ≡ true → task m d ≡ true → object m x ≡ true → Counted direct (Delete e d x q) m (effects (bridge x ∷ clear x ∷ flow_if (marked m d) e d ∷ []) m)
  unfolding effects
  delete_counted e d x q te td ox =
      own_counted (Delete e d x q) (effect own cleared) (effect_long own long')
      (λ u v lu lv f.
      ⊎_elim (λ g. inr (bridged u v lu lv g)) (λ g. inl g)
      (or_cases (has_flow cleared u v) (marked m d && (eqb u e && eqb v d)) (sym (flow_after u v lu lv own cleared long' (below e (task_used m e te), below d (task_used m d td))) ∙ f)))
    where
      cleared : MemoryOf size
      cleared = bypassed m x

      own : Effect
      own = flow_if (marked m d) e d

      long' : Long cleared
      long' = bypassed_long long x

      below : (y : ℕ) → in_use m y ≡ true → y < numbers_of size
      below y = used_below m y long.bytes_long

      -- what was there or is bridged was a path (C)
      bridged : (u v : ℕ) → u < numbers_of size → v < numbers_of size → has_flow cleared u v ≡ true → Path m u v
      bridged u v lu lv f =
          let ux = object_used m x ox in
          let k = effect_keeps s (is_order s.order i.passes) i.limits (bridge x) ux in
          let g = simp and-eq-true_iff at (sym (flow_after u v lu lv (clear x) (effect (bridge x) m) (effect_long (bridge x) long) (below x ux)) ∙ f) in
          bridge_adds_none m long x ux (λ z. u ≡ z) (flow_path _ k u v lu lv g.0.0)

  -- ---- every call

  -- of any other call every flow is its own
  other_counted : (o : Order) (c : Call) → is_done (perform o m c).verdict ≡ true → ((x y : ℕ) → own_flow c m x y ≡ true) → Counted direct c m (perform o m c).memory
  other_counted o c h own = own_counted c (perform o m c).memory (fit_long _ (leaves_sound size o m c h).0) (λ x y lx ly f. inl (own x y))

  call_counted : (o : Order) (c : Call) → is_done (perform o m c).verdict ≡ true → NoStart (role c) → Counted direct c m (perform o m c).memory
  unfolding delete
  call_counted o (Delete e d x q) h w =
      let t = event_done o m (delete o m e d x q) refl h in
      let a = simp and-eq-true_iff at t.tests.0 in
      rw t.leaves (delete_counted e d x q a.0.0.0 a.0.0.1 a.0.1)
  call_counted o Start h w = absurd w
  call_counted o (Read e d x) h w = other_counted o (Read e d x) h (λ u v. refl)
  call_counted o (Write e d x) h w = other_counted o (Write e d x) h (λ u v. refl)
  call_counted o (Execute c p n l r) h w = other_counted o (Execute c p n l r) h (λ u v. refl)
  call_counted o (Create c d n q l) h w = other_counted o (Create c d n q l) h (λ u v. refl)
  call_counted o (CreateRoot c d n l) h w = other_counted o (CreateRoot c d n l) h (λ u v. refl)
  call_counted o (Move e d x f t) h w = other_counted o (Move e d x f t) h (λ u v. refl)
  call_counted o (CallTask a b) h w = other_counted o (CallTask a b) h (λ u v. refl)
  call_counted o (Invoke a b) h w = other_counted o (Invoke a b) h (λ u v. refl)
  call_counted o (Pass z x y) h w = other_counted o (Pass z x y) h (λ u v. refl)
  call_counted o (Post x z y) h w = other_counted o (Post x z y) h (λ u v. refl)
  call_counted o (Find x z y) h w = other_counted o (Find x z y) h (λ u v. refl)
  call_counted o (Mark e) h w = other_counted o (Mark e) h (λ u v. refl)
  call_counted o (Step x) h w = other_counted o (Step x) h (λ u v. refl)
  call_counted o Spread h w = other_counted o Spread h (λ u v. refl)

  item_counted : (j : Item) → ItemCounted direct j s
  item_counted (asks o c) = call_counted o c
  item_counted (reports o) = tt
  item_counted (loads o t) = tt

-- ---- every list of demand 3

all_counted : {size : Size} (is : List Item) (s : StandingOf size) → Invariant s → Admissible is s → AllCounted direct is s
all_counted [] s i a = tt
all_counted (j ∷ is) s i a = (item_counted s i j, all_counted is (next j s) (next_keeps j s i a.0) a.1)

pub trail_direct : TrailDirect
trail_direct size b m is r o =
    let i = begun_keeps r.beginning in
    counted_trail direct b m is r.beginning (all_counted is (begun b m) i r.admissible) o (item_counted (run is (begun b m)) (run_keeps is (begun b m) i r.admissible) (asks o Spread))
