-- The claims of demand 3, proved: those about lists here, that a spread is exact, that the trail is exact, what a load gives and leaves and what becomes of tallies in files of their own; and the claims of the told word.
-- Assumes nothing.
use Rattle.std.specs.Prelude.{◌≡◌, refl, true, false, ℕ, ◌+◌, ◌*◌, ◌<◌, set}
use Rattle.std.proofs.Common.{sym, ap, ◌∙◌, true≢false, inr, ⊎_elim, arith, eqb-true}
use Rattle.std.proofs.Math.Bool.{and-eq-true_iff, false≢true}
use mathlib.Core.List.{List, [], ◌∷◌, Memᴰ}
use Rattle.std.proofs.lemmas.List.{set-get_or}
use Rattle.bits.specs.AllLaws.{either, not_so}
use Rattle.rows.specs.Size.{Size, numbers_of}
use Rattle.levels.specs.declared.Order.{Order}
use Rattle.records.specs.Records.{record_size, field, set_field, is_task}
use Rattle.records.specs.RecordLaws.{core_task}
use Rattle.model.specs.declared.Call.TheVariants.{Start}
use Rattle.model.specs.Verdicts.{granted, row_state, is_done}
use Rattle.model.specs.State.{MemoryOf, task, driver_of, marked, has_flow, has_read, has_write}
use Rattle.model.proofs.StateLaws.{outside_mark}
use Rattle.model.specs.Effects.{with_bytes, object_of, mark_outside, effect, effects}
use Rattle.model.specs.Events.{OutcomeOf, unless, first_failing, verdict_of, outcome, mark}
use Rattle.model.proofs.InsideLaws.{few_steps, leads_object}
use Rattle.model.specs.Spread.{spread}
use Rattle.model.specs.Monitor.{refused_unless, fitted, start, started, perform}
use Rattle.model.proofs.MarkLaws.{where_rest}
use Rattle.model.proofs.SoundLaws as model
use Rattle.model.proofs.TableLaws.{start_done, fitted_fits}
use Rattle.model.specs.Load.{load, past_order}
use Rattle.model.proofs.LoadLaws.{past_rows, past_load, load_past}
use Rattle.model.specs.Trials.{Q}
use Rattle.containment.specs.Lists.{Item, asks, reports, loads, lent, StandingOf, Role, starting, marking, other, role, entered, next, run, Admitted, Admissible, leaves, begun, Begins, by_start, by_load}
use Rattle.containment.specs.Claims.{Reached, Containment, Determined, LeavesSound, RepeatedMark, NeverUnsound, Rooted, FreeBare, DriversAbove, StartGranted, ListsBegin, OwnOrderReached, MarkGranted, SpreadGranted, GrantedUnreached}
use Rattle.containment.specs.TallyLists.{item}
use Rattle.containment.specs.TallyClaims.{WholeContainment}
use Rattle.containment.proofs.Tables.{Table, flows, reads, writes, has}
use Rattle.containment.proofs.Invariant.{standing, Joined, Limits, joins, Invariant, contained}
use Rattle.containment.proofs.ItemsKeep.{begun_keeps, run_keeps}
use Rattle.containment.proofs.Witness.{upward, upward_granted, upward_marks, none_leaves}
pub use Rattle.containment.proofs.SpreadProof.{spread_exact}
pub use Rattle.containment.proofs.Trails.{trail_exact}
pub use Rattle.containment.proofs.Direct.{trail_direct}
pub use Rattle.containment.proofs.LoadHistory.{load_history}
pub use Rattle.containment.proofs.PlaceProof.{inside_exact, move_place}
pub use Rattle.containment.proofs.LoadProof.{layout_gives_law, load_gives, loads_sound, refused_load, untouched_by_load, load_is_list, load_tells, load_rows}
pub use Rattle.containment.proofs.TallyProof.{another_length, never_tested, refusal_keeps, refused_load_keeps, others_kept, all_asked, on_asker, on_record_zero, begun_anew_law, tallies_apart, whole_reached}
pub use Rattle.containment.proofs.ToldProof.{told_alike, verdicts_show_marks}

-- what a list leaves
reached : {size : Size} (b : Item) (m : MemoryOf size) (is : List Item) → Reached b m is → Invariant (run is (begun b m))
reached b m is r = run_keeps is (begun b m) (begun_keeps r.beginning) r.admissible

pub containment : Containment
containment size b m is r = contained (run is (begun b m)) (reached b m is r).limits

-- whatever tallies are lent
pub whole_containment : WholeContainment
whole_containment size b m is g a = rw (tallies_apart size is (begun (item b) m)) (containment size (item b) m _ (whole_reached size b m is g a))

-- what makes the state of a start leaves the same whatever was there
started_memory : {size : Size} (o : Order) (m : MemoryOf size) → (perform o m Start).verdict ≡ granted → (perform o m Start).memory ≡ started o
started_memory {size} o m g = ap (λ (out : OutcomeOf size). out.memory) (start_done o m (ap is_done g)).2

pub determined : Determined
unfolding begun leaves
determined size b m n is p q = ap (λ (u : MemoryOf size). run is (standing (lent b) u [])) (left b p q)
  where
    left : (b : Item) → Begins m b → Begins n b → leaves b m ≡ leaves b n
    left b (by_start o g) (by_start p h) = started_memory o m g ∙ sym (started_memory o n h)
    left b (by_load o t g) (by_load p u h) = ap (λ (out : OutcomeOf size). out.memory) ((load_past o m t g).2 ∙ sym (load_past o n t h).2)

-- ---- soundness is kept

pub leaves_sound : LeavesSound
leaves_sound = model.leaves_sound

-- ---- rows 2 and 3 do not apply

module _ {size : Size} (s : StandingOf size) (i : Invariant s) where
  fitted_out : (out : OutcomeOf size) → fitted s.order s.memory out ≡ out
  fitted_out out = fitted_fits s.order s.memory out i.limits.fits i.is_sound i.passes

pub never_unsound : NeverUnsound
never_unsound size b m is r = (
  λ c. not_state (past_rows s.order i.passes s.memory (i.limits.fits, i.is_sound) c),
  λ t. not_state (past_load s.order s.memory t i.limits.fits i.passes),
)
  where
    s : StandingOf size
    s = run is (begun b m)

    i : Invariant s
    i = reached b m is r

    not_state : {v : ℕ} → past_order v ≡ true → v ≡ row_state → ⊥
    not_state h e = unfold past_order in false≢true (rw e at h)

-- ---- what is marked from outside is marked already, and its objects are

mark_again : {size : Size} (s : StandingOf size) → Limits s → (e : ℕ) → Memᴰ e s.outside → effect (mark_outside e) s.memory ≡ s.memory
unfolding effect object_of field set_field
mark_again {size} s k e h = rw same (where_rest (object_of m e) m own)
  where
    m : MemoryOf size
    m = s.memory

    same : with_bytes m (set_field m.bytes e 5 3) ≡ m
    same = ap (with_bytes m) (ap (set m.bytes (record_size * e + 5)) (sym (k.named e h).1) ∙ set-get_or m.bytes (record_size * e + 5) 0)

    own : (x : ℕ) → x < numbers_of size → object_of m e x ≡ true → marked m x ≡ true
    own x l p =
        let t = simp and-eq-true_iff at p in
        (k.bounded x l).driven_marked t.0 (ap (marked m) (eqb-true (driver_of m x) e t.1) ∙ outside_mark m e (k.named e h).1)

pub repeated_mark : RepeatedMark
unfolding outcome verdict_of first_failing unless mark effects
repeated_mark size b m is r e h = fitted_out s i _ ∙ rw ((i.limits.named e h).0, mark_again s i.limits e h)
  where
    s : StandingOf size
    s = run is (begun b m)

    i : Invariant s
    i = reached b m is r

-- ---- containers

pub rooted : Rooted
rooted size b m is r x h =
    let i = reached b m is r in
    let n = (run is (begun b m)).memory in
    let o = (run is (begun b m)).order in
    let e = i.rooted x h in
    let f = few_steps n o i.is_sound e.0 x e.1 e.2 e.4 h in
    record { steps = f.0; end = f.1; at_most = omega (arith, f.2); leads = f.3; end_object = leads_object n o i.is_sound f.0 x f.1 f.3 h; end_root = f.4 }

-- ---- free numbers, and objects and their drivers

pub free_bare : FreeBare
unfolding has_flow has_read has_write
free_bare size b m is r x y lx ly free = ((from flows, from reads, from writes), (to flows, to reads, to writes))
  where
    n : MemoryOf size
    n = (run is (begun b m)).memory

    joined : (t : Table) (u v : ℕ) → u < numbers_of size → v < numbers_of size → has t n u v ≡ true → Joined n u v
    joined = joins (reached b m is r).limits

    from : (t : Table) → has t n x y ≡ false
    from t = not_so _ (λ h. true≢false (sym (joined t x y lx ly h).0 ∙ free))

    to : (t : Table) → has t n y x ≡ false
    to t = not_so _ (λ h. true≢false (sym (joined t y x ly lx h).1 ∙ free))

pub drivers_above : DriversAbove
drivers_above size b m is r x l = ((reached b m is r).limits.bounded x l).driver_above

-- ---- no claim is empty

admitted : {size : Size} (i : Item) (s : StandingOf size) → lent i ≡ s.order → Admitted i s
admitted (asks o c) s e = inr (λ h. e)
admitted (reports o) s e = tt
admitted (loads o t) s e = tt

-- a call under the order that stands leaves it standing
next_order : {size : Size} (i : Item) (s : StandingOf size) → lent i ≡ s.order → (next i s).order ≡ s.order
unfolding next entered
next_order (asks o c) s e = ⊎_elim (λ h. rw h (go (role c))) (λ h. rw h) (either (is_done (perform o s.memory c).verdict))
  where
    go : (r : Role) → (entered r o (perform o s.memory c).memory s).order ≡ s.order
    go starting = e
    go (marking t) = refl
    go other = refl
next_order (reports o) s e = refl
next_order (loads o t) s e = ⊎_elim (λ h. rw h e) (λ h. rw h) (either (past_order (load o s.memory t).verdict))

under_one : {size : Size} (o : Order) (is : List Item) (s : StandingOf size) → s.order ≡ o → ((i : Item) → Memᴰ i is → lent i ≡ o) → Admissible is s
under_one o [] s e l = tt
under_one o (i ∷ is) s e l =
    let h = l i (Memᴰ.head refl) ∙ sym e in
    (admitted i s h, under_one o is (next i s) (next_order i s h ∙ e) (λ j k. l j (Memᴰ.tail k)))

pub start_granted : StartGranted
unfolding start refused_unless
start_granted size o m f p = rw (f, p)

pub lists_begin : ListsBegin
lists_begin size o m f p = (by_start o (start_granted size o m f p), λ t. by_load o t (past_load o m t f p))

pub own_order_reached : OwnOrderReached
unfolding begun
own_order_reached size b m is g h = record { beginning = g; admissible = under_one (lent b) is (begun b m) refl h }

pub mark_granted : MarkGranted
unfolding outcome verdict_of first_failing unless mark task is_task
mark_granted size b m is r =
    let s = run is (begun b m) in
    let i = reached b m is r in
    ap (λ (out : OutcomeOf size). out.verdict) (fitted_out s i (outcome s.memory (mark s.order s.memory 0))) ∙ rw (core_task size s.order s.memory.bytes i.is_sound)

pub spread_granted : SpreadGranted
unfolding spread
spread_granted size b m is r = ap (λ (out : OutcomeOf size). out.verdict) (fitted_out (run is (begun b m)) (reached b m is r) (spread (run is (begun b m)).memory))

pub granted_unreached : GrantedUnreached
granted_unreached size =
    (Q, upward size, record { spread_granted = upward_granted size; spread_marks = upward_marks size; no_list = λ b m is r. none_leaves (run is (begun b m)) (reached b m is r) })
