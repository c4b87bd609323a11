-- A start establishes the invariant, and every call that is done keeps it.
-- Assumes nothing.
use Rattle.std.specs.Prelude.{◌≡◌, true, ◌⊎◌, List, [], ◌∷◌, ℕ, ◌<◌, length, replicate}
use Rattle.std.proofs.Math.Path.{refl}
use Rattle.std.proofs.Common.{sym, subst, ◌∙◌, true≢false, ⊎_elim, arith, eq-eqb, eqb-true}
use mathlib.Core.List.Memᴰ
use Rattle.std.proofs.lemmas.List.{length-replicate}
use Rattle.bits.specs.AllLaws.{and_i}
use Rattle.rows.proofs.RowLaws.{cell_zeros, some_number}
use Rattle.rows.specs.Size.{Size, row_size_of, numbers_of, lent_words}
use Rattle.levels.specs.declared.Order.{Order}
use Rattle.levels.specs.Order.{at_or_below, order_passes}
use Rattle.levels.specs.OrderLaws.{IsOrder, is_order}
use Rattle.records.specs.Records.{field, is_task, is_object, sound_of, lent_bytes}
use Rattle.records.specs.RecordLaws.{task_facts}
use Rattle.records.proofs.KeepLaws.{field_zero}
use Rattle.model.specs.declared.Call.{Call}
use Rattle.model.specs.declared.Call.TheVariants.{Start, Read, Write, Execute, Create, CreateRoot, Move, Delete, CallTask, Invoke, Pass, Post, Find, Mark, Step, Spread}
use Rattle.model.specs.Verdicts.{is_done}
use Rattle.model.specs.State.{MemoryOf, lengths_fit, in_use, task, object, level_of, driver_of, marked, has_flow}
use Rattle.model.proofs.StateLaws.{outside_mark}
use Rattle.model.proofs.EffectLaws.{fit_long}
use Rattle.model.specs.Effects.{make_task, effect, effects}
use Rattle.model.specs.Events.{Event, outcome, read, write, execute, create, create_root, move, delete, call_task, invoke, pass, post, find, mark, step}
use Rattle.model.specs.Spread.{spread}
use Rattle.model.specs.Monitor.{fitted, started, perform}
use Rattle.model.proofs.MarkLaws.{MoreMarks, kept_marked, kept_object, kept_driver}
use Rattle.model.proofs.SpreadLaws.{Closed, rest_closed, sized_more, spread_more, spread_only, spread_rests}
use Rattle.model.proofs.SoundLaws.{started_sound, call_did, leaves_sound}
use Rattle.model.proofs.TableLaws.{Holds, refusals, event_done, fitted_done, start_done}
use Rattle.containment.specs.Lists.{asks, StandingOf, Role, starting, marking, other, role, entered, Admitted}
use Rattle.containment.specs.Claims.{Covered}
use Rattle.containment.proofs.Roots.{AllEnd, started_ends, did_ends}
use Rattle.containment.proofs.Tables.{flows, row}
use Rattle.containment.proofs.Invariant.{standing, Limits, Invariant, covered_below}
use Rattle.containment.proofs.Changes.{marks_limits}
use Rattle.containment.proofs.Preserve.{AllAllowed, bounded_none, effect_keeps, effects_keep, outside_keeps}
use Rattle.containment.proofs.FlowEvents.{read_allowed, write_allowed, call_allowed, invoke_allowed, pass_allowed, post_allowed, find_allowed, step_allowed}
use Rattle.containment.proofs.RecordEvents.{execute_allowed, create_allowed, create_root_allowed, move_allowed, delete_allowed}

-- ---- a start makes a task in an empty memory

empty : (size : Size) → MemoryOf size
empty size = record { bytes = replicate (lent_bytes size) 0; words = replicate (lent_words size) 0 }

empty_limits : (size : Size) (o : Order) → Limits (standing o (empty size) [])
unfolding lengths_fit object is_object marked empty
empty_limits size o =
    record {
      fits = and_i (eq-eqb _ _ (length-replicate {A = ℕ} (lent_bytes size) 0)) (eq-eqb _ _ (length-replicate {A = ℕ} (lent_words size) 0));
      bounded = λ x l. bounded_none (standing o (empty size) []) x (rw (field_zero _ x 0)) (rw (field_zero _ x 5));
      named = λ t h. absurd (Memᴰ.not-nil h);
      recorded = λ t x y a b h. absurd (true≢false (sym h ∙ cell_zeros (row_size_of size) (lent_words size) (row size t x) y));
    }

started_limits : (size : Size) (o : Order) → IsOrder o → Limits (standing o (started {size = size} o) [])
unfolding started effect empty in_use
started_limits size o ok = effect_keeps (standing o (empty size) []) ok (empty_limits size o) (make_task 0 o.top o.top) (some_number size, rw (field_zero _ 0 0))

pub started_keeps : (size : Size) (o : Order) → order_passes o ≡ true → Invariant (standing o (started {size = size} o) [])
started_keeps size o p = record { passes = p; is_sound = (started_sound size o p).1; limits = started_limits size o (is_order o p); rooted = started_ends size o }

pub start_keeps : {size : Size} (o : Order) (m : MemoryOf size) → is_done (perform o m Start).verdict ≡ true → Invariant (standing o (perform o m Start).memory [])
start_keeps {size} o m h =
    let d = start_done o m h in
    rw d.2 (started_keeps size o d.1)

-- ---- a spread marks only what is covered, and rests with every driver's objects marked

spread_limits : {size : Size} (s : StandingOf size) → IsOrder s.order → Limits s → Limits (standing s.order (spread s.memory).memory s.outside)
unfolding has_flow
spread_limits {size} s ok k =
    marks_limits s.order m n s.outside s.outside k g.words_kept kept (λ x l. kept_marked g x) (λ t h. h) g.length_kept
    (λ x l h. (spread_only Q m closed sized (λ y a b. (a, (k.bounded y a).mark_covered b)) x l h).1)
    (λ x l h d. (rest_closed n (sized_more g sized) (spread_rests m sized)).by_driver_law (driver_of m x) x d l (kept_object g x ∙ h) (kept_driver g x))
    (λ t h. let j = k.named t h in (j.0, g.marks_kept t (outside_mark m t j.1) ∙ j.1))
  where
    m : MemoryOf size
    m = s.memory

    n : MemoryOf size
    n = (spread m).memory

    g : MoreMarks m n
    g = spread_more m

    sized : length m.bytes ≡ lent_bytes size
    sized = (fit_long m k.fits).bytes_long

    kept : (x f : ℕ) → f < 4 → field n.bytes x f ≡ field m.bytes x f
    kept x f l = g.bytes_kept x f (omega arith) (omega arith)

    Q : ℕ → Type 0
    Q x = (x < numbers_of size) × Covered s (level_of m x)

    closed : Closed m Q
    closed =
        record {
          by_flow_law = λ x y q l u f. (l, ⊎_elim (λ h. covered_below s ok _ _ h q.1) (λ c. c) (k.recorded flows x y q.0 l f).2);
          by_driver_law = λ x y q l h d. (l, covered_below s ok _ _ ((k.bounded y l).driver_above h) (rw d q.1));
        }

-- ---- a call that is done

-- a sound task's level is in the order
task_self : {size : Size} (s : StandingOf size) → Invariant s → (e : ℕ) → task s.memory e ≡ true → at_or_below s.order (level_of s.memory e) (level_of s.memory e) ≡ true
unfolding task is_task
task_self {size} s i e t = (is_order s.order i.passes).self _ (task_facts size s.order s.memory.bytes i.is_sound e (eqb-true _ 1 t)).level_in

-- a call of that role is no start
abbrev pub NoStart : Role → Type 0
NoStart starting = ⊥
NoStart (marking e) = Unit {0}
NoStart other = Unit {0}

module _ {size : Size} (s : StandingOf size) (i : Invariant s) (o : Order) where
  ok : IsOrder s.order
  ok = is_order s.order i.passes

  -- a call that is no start is done under the order of the last granted one
  same_order : (r : Role) {D : Type 0} → NoStart r → (r ≡ starting) ⊎ (D → o ≡ s.order) → D → o ≡ s.order
  same_order r n a d = ⊎_elim (λ e. absurd (subst NoStart e n)) (λ f. f d) a

  -- what every call that is done leaves
  abbrev Left : MemoryOf size → Type 0
  Left m = (sound_of size o m.bytes ≡ true) × AllEnd m

  -- what such a call leaves, under that order
  later : (m : MemoryOf size) (ts : List ℕ) → o ≡ s.order → Left m → Limits (standing s.order m ts) → Invariant (standing s.order m ts)
  later m ts q l k = record { passes = i.passes; is_sound = rw q at l.0; limits = k; rooted = l.1 }

  -- an event whose tests allow its effects
  event_keeps : (e : Order → Event) → refusals (e o).tests ≡ true
      → (other ≡ starting) ⊎ (is_done (fitted o s.memory (outcome s.memory (e o))).verdict ≡ true → o ≡ s.order)
      → (Holds (e s.order).tests → AllAllowed s (e s.order).effects)
      → is_done (fitted o s.memory (outcome s.memory (e o))).verdict ≡ true
      → Left (fitted o s.memory (outcome s.memory (e o))).memory
      → Invariant (standing s.order (fitted o s.memory (outcome s.memory (e o))).memory s.outside)
  event_keeps e r a allowed h l =
      let q = same_order other tt a h in
      let d = event_done o s.memory (e o) r h in
      let f = subst (λ (p : Order). Holds (e p).tests → AllAllowed s (e p).effects) (sym q) allowed in
      later _ s.outside q l (rw d.leaves (effects_keep s ok i.limits (e o).effects (f d.tests)))

  done_keeps : (c : Call) → Admitted (asks o c) s → is_done (perform o s.memory c).verdict ≡ true → Left (perform o s.memory c).memory → Invariant (entered (role c) o (perform o s.memory c).memory s)
  unfolding entered read write execute create create_root move delete call_task invoke pass post find mark step effects
  done_keeps Start a h l = start_keeps o s.memory h
  done_keeps (Read e d x) a h l = event_keeps (λ p. read p s.memory e d x) refl a (read_allowed s ok i.limits e d x) h l
  done_keeps (Write e d x) a h l = event_keeps (λ p. write p s.memory e d x) refl a (write_allowed s ok i.limits e d x) h l
  done_keeps (Execute c g n v r) a h l = event_keeps (λ p. execute p s.memory c g n v r) refl a (execute_allowed s ok i.limits c g n v r) h l
  done_keeps (Create c d n k v) a h l = event_keeps (λ p. create p s.memory c d n k v) refl a (create_allowed s ok i.limits c d n k v) h l
  done_keeps (CreateRoot c d n v) a h l = event_keeps (λ p. create_root p s.memory c d n v) refl a (create_root_allowed s ok i.limits c d n v) h l
  done_keeps (Move e d x f t) a h l = event_keeps (λ p. move p s.memory e d x f t) refl a (move_allowed s ok i.limits e d x f t) h l
  done_keeps (Delete e d x k) a h l = event_keeps (λ p. delete p s.memory e d x k) refl a (delete_allowed s ok i.limits e d x k) h l
  done_keeps (CallTask x y) a h l = event_keeps (λ p. call_task p s.memory x y) refl a (call_allowed s ok i.limits x y) h l
  done_keeps (Invoke x y) a h l = event_keeps (λ p. invoke p s.memory x y) refl a (invoke_allowed s ok i.limits x y) h l
  done_keeps (Pass z x y) a h l = event_keeps (λ p. pass p s.memory z x y) refl a (pass_allowed s ok i.limits z x y) h l
  done_keeps (Post x z y) a h l = event_keeps (λ p. post p s.memory x z y) refl a (post_allowed s ok i.limits x z y) h l
  done_keeps (Find x z y) a h l = event_keeps (λ p. find p s.memory x z y) refl a (find_allowed s ok i.limits x z y) h l
  done_keeps (Mark e) a h l =
      let d = event_done o s.memory (mark o s.memory e) refl h in
      later _ (e ∷ s.outside) (same_order (marking e) tt a h) l
      (rw d.leaves (outside_keeps s ok i.limits e d.tests.0 (task_self s i e d.tests.0)))
  done_keeps (Step x) a h l = event_keeps (λ p. step p s.memory x) refl a (step_allowed s ok i.limits x) h l
  done_keeps Spread a h l =
      later _ s.outside (same_order other tt a h) l (rw (fitted_done o s.memory (spread s.memory) h).inner (spread_limits s ok i.limits))

  pub call_keeps : (c : Call) → Admitted (asks o c) s → is_done (perform o s.memory c).verdict ≡ true → Invariant (entered (role c) o (perform o s.memory c).memory s)
  call_keeps c a h = done_keeps c a h ((leaves_sound size o s.memory c h).1, did_ends (call_did size o s.memory c h) i.rooted)
