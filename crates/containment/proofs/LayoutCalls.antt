-- The calls of a layout, made in turn where nothing is marked: what they give, and that they keep the invariant.
-- Assumes nothing.
use Rattle.std.specs.Prelude.{◌≡◌, Bool, false, ◌||◌, ◌&&◌, ℕ, zero, suc, ◌<◌, eqb}
use Rattle.std.proofs.Math.Path.{refl, ap}
use Rattle.std.proofs.Common.{sym, ◌∙◌, true≢false, arith}
use Rattle.std.proofs.Math.Bool.{true, and-eq-true_iff}
use Rattle.std.proofs.lemmas.Bool.{false≢true}
use Rattle.std.proofs.Math.Logic.{inl, inr}
use mathlib.Core.List.Memᴰ
use mathlib.Core.List.{List, [], ◌∷◌, ◌++◌, map}
use borrow.Author.Tests.{eq-eqb, leb-true, ltb-true, not-true}
use Rattle.bits.specs.AllLaws.{either, not_so, and_i, or_l, or_r}
use Rattle.rows.proofs.RowLaws.{some_number}
use Rattle.rows.specs.Size.{Size, numbers_of}
use Rattle.levels.specs.declared.Order.{Order}
use Rattle.levels.specs.Order.{at_or_below}
use Rattle.records.specs.Records.{record_size, field, set_record, is_object}
use Rattle.records.specs.RecordLaws.{record_else, record_same}
use Rattle.layout.specs.Layout as layout
use Rattle.layout.specs.Layout.{Objects, none, object, Form, Layout}
use Rattle.model.specs.declared.Call.{Call}
use Rattle.model.specs.declared.Call.TheVariants.{Write, Execute, Create, CreateRoot}
use Rattle.model.specs.Verdicts.{granted, slipped, is_done}
use Rattle.model.specs.State as state
use Rattle.model.specs.State.{MemoryOf, in_use, task, level_of, driver_of, marked, has_write}
use Rattle.model.proofs.StateLaws.{task_used, object_used, used_apart, used_below, marked_below}
use Rattle.model.specs.Effects.{flow, flow_if, write_access, effect, effects}
use Rattle.model.proofs.EffectLaws.{Long, fit_long, effect_long, write_after}
use Rattle.model.specs.Events.{OutcomeOf, unless, first_failing, verdict_of, outcome, write, execute, create, create_root}
use Rattle.model.specs.Monitor.{fitted, perform}
use Rattle.model.proofs.TableLaws.{Happened, event_done, fitted_fits}
use Rattle.model.specs.Load.{inner_calls, form_calls, layout_calls, in_turn}
use Rattle.containment.specs.Lists.{asks, other, role, entered, next, run}
use Rattle.containment.specs.Claims.{layout_gives, GiveThese, AllGranted}
use Rattle.containment.proofs.Invariant.{standing, Invariant}
use Rattle.containment.proofs.Follows.{Same, same_use, same_object}
use Rattle.containment.proofs.CallsKeep.{call_keeps}

-- ---- what tables give whose rows are these

write_rows : (a h b : Bool) → layout_gives (unless a 4 (unless true 6 (unless (h || false) 11 (unless b 11 (unless h 1 0))))) ≡ true
unfolding layout_gives unless
write_rows true true true = refl
write_rows true true false = refl
write_rows true false b = refl
write_rows false h b = refl

create_rows_law : (a b s r : Bool) → layout_gives (unless a 4 (unless b 5 (unless true 8 (unless s 9 (unless r 11 (unless true 1 0)))))) ≡ true
unfolding layout_gives unless
create_rows_law true true true true = refl
create_rows_law true true true false = refl
create_rows_law true true false r = refl
create_rows_law true false s r = refl
create_rows_law false b s r = refl

-- without a row 8
made_rows : (a b s r : Bool) → layout_gives (unless a 4 (unless b 5 (unless s 9 (unless r 11 (unless true 1 0))))) ≡ true
unfolding unless
made_rows a b s r = create_rows_law a b s r

-- of these numbers only 0 is not a refusal
gives_granted : (v : ℕ) → layout_gives v ≡ true → is_done v ≡ true → v ≡ granted
unfolding layout_gives
gives_granted zero g h = refl
gives_granted (suc zero) g h = absurd (false≢true g)
gives_granted (suc (suc v)) g h = absurd (omega (arith, leb-true (suc (suc v)) slipped h))

module _ {size : Size} (o : Order) where
  -- nothing is marked from outside
  abbrev Stands : MemoryOf size → Type 0
  Stands m = Invariant (standing o m [])

  -- what is in use stays
  abbrev Lasts : MemoryOf size → MemoryOf size → Type 0
  Lasts m n = (x : ℕ) → in_use m x ≡ true → Same m n x

  module _ (m : MemoryOf size) (i : Stands m) where
    long : Long m
    long = fit_long m i.limits.fits

    below : (x : ℕ) → in_use m x ≡ true → x < numbers_of size
    below x = used_below m x long.bytes_long

    -- no task is named, so nothing is marked
    pub unmarked : (x : ℕ) → marked m x ≡ false
    unmarked x = not_so _ (λ h. Memᴰ.not-nil ((i.limits.bounded x (marked_below m x long.bytes_long h)).mark_covered h).1)

    stands_on : (c : Call) → role c ≡ other → is_done (perform o m c).verdict ≡ true → Stands (perform o m c).memory
    unfolding entered
    stands_on c r h = rw r at (call_keeps (standing o m []) i o c (inr (λ d. refl)) h)

    fit : (out : OutcomeOf size) → fitted o m out ≡ out
    fit out = fitted_fits o m out i.limits.fits i.is_sound i.passes

    -- ---- write

    write_gives : (e d x : ℕ) → driver_of m x ≡ d → layout_gives (perform o m (Write e d x)).verdict ≡ true
    unfolding outcome verdict_of first_failing write
    write_gives e d x q =
        rw (fit (outcome m (write o m e d x)))
        (rw (eq-eqb (driver_of m x) d q, unmarked d) (write_rows _ (at_or_below o (level_of m x) (level_of m e)) (at_or_below o (level_of m x) (level_of m d))))

    module _ (e d x : ℕ) (h : is_done (perform o m (Write e d x)).verdict ≡ true) where
      wrote : Happened o m (write o m e d x)
      unfolding write
      wrote = event_done o m (write o m e d x) refl h

      write_lasts : Lasts m (perform o m (Write e d x)).memory
      unfolding write effects effect
      write_lasts y u = rw wrote.leaves (record { kind = refl; level = refl; read_level_law = refl; driver = refl })

      write_access_after : (u v : ℕ) → u < numbers_of size → v < numbers_of size → has_write (perform o m (Write e d x)).memory u v ≡ (has_write m u v || (eqb u e && eqb v x))
      unfolding write effects
      write_access_after u v lu lv =
          let t = simp and-eq-true_iff at wrote.tests.0 in
          let le = below e (task_used m e t.0.0) in
          let ld = below d (task_used m d t.0.1) in
          let lx = below x (object_used m x t.1) in
          rw wrote.leaves (
          write_after u v lu lv (flow_if (marked m d) e d) _ (effect_long _ (effect_long _ long)) (le, ld)
          ∙ write_after u v lu lv (flow e x) _ (effect_long _ long) (le, lx)
          ∙ write_after u v lu lv (write_access e x) m long (le, lx)
          )

      used : (e < numbers_of size) × (x < numbers_of size)
      unfolding write
      used =
          let t = simp and-eq-true_iff at wrote.tests.0 in
          (below e (task_used m e t.0.0), below x (object_used m x t.1))

      -- e then holds the access, and what held it before does
      writes : has_write (perform o m (Write e d x)).memory e x ≡ true
      writes = write_access_after e x used.0 used.1 ∙ or_r (has_write m e x) _ (and_i (eq-eqb e e refl) (eq-eqb x x refl))

      held : (u : ℕ) → u < numbers_of size → has_write m u x ≡ true → has_write (perform o m (Write e d x)).memory u x ≡ true
      held u lu a = write_access_after u x lu used.1 ∙ or_l (has_write m u x) _ a

    -- ---- what makes a thing n: the others stay

    made_lasts : (n : ℕ) → in_use m n ≡ false → (k l r d c w s : ℕ) (ws : List ℕ) → Lasts m (record { bytes = set_record m.bytes n k l r d c w s; words = ws })
    made_lasts n free k l r d c w s ws x u = record { kind = off 0 (omega arith); level = off 1 (omega arith); read_level_law = off 2 (omega arith); driver = off 3 (omega arith) }
      where
        off : (f : ℕ) → f < record_size → field (set_record m.bytes n k l r d c w s) x f ≡ field m.bytes x f
        off f = record_else m.bytes n k l r d c w s x f (used_apart m x n u free)

    -- ---- execute

    execute_gives : (c g n l r : ℕ) → layout_gives (perform o m (Execute c g n l r)).verdict ≡ true
    unfolding outcome verdict_of first_failing execute
    execute_gives c g n l r = rw (fit (outcome m (execute o m c g n l r))) (made_rows _ _ _ _)

    execute_lasts : (c g n l r : ℕ) → is_done (perform o m (Execute c g n l r)).verdict ≡ true → Lasts m (perform o m (Execute c g n l r)).memory
    unfolding execute effects effect
    execute_lasts c g n l r h =
        let d = event_done o m (execute o m c g n l r) refl h in
        rw d.leaves (made_lasts n (not-true _ d.tests.1.0) _ _ _ _ _ _ _ _)

    -- ---- create, in a container or in none

    create_gives : (d n k l : ℕ) → has_write m 0 k ≡ true → has_write m d k ≡ true → layout_gives (perform o m (Create 0 d n k l)).verdict ≡ true
    unfolding outcome verdict_of first_failing create
    create_gives d n k l a b = rw (fit (outcome m (create o m 0 d n k l))) (rw (a, b) (create_rows_law _ _ _ _))

    root_gives : (d n l : ℕ) → layout_gives (perform o m (CreateRoot 0 d n l)).verdict ≡ true
    unfolding outcome verdict_of first_failing create_root
    root_gives d n l = rw (fit (outcome m (create_root o m 0 d n l))) (made_rows _ _ _ _)

    -- n is then an object of the driver d
    record Made (d n : ℕ) (v : MemoryOf size) : Type 0 where
      lasts : Lasts m v
      is_object_law : state.object v n ≡ true
      driven : driver_of v n ≡ d

    made : (d n l c w s : ℕ) (ws : List ℕ) → n < numbers_of size → in_use m n ≡ false → Made d n (record { bytes = set_record m.bytes n 2 l 0 d c w s; words = ws })
    unfolding state.object is_object
    made d n l c w s ws ln free =
        let f = record_same m.bytes n 2 l 0 d c w s size long.bytes_long ln in
        record { lasts = made_lasts n free 2 l 0 d c w s ws; is_object_law = eq-eqb _ 2 f.kind_is; driven = f.driver_is }

    create_made : (d n k l : ℕ) → is_done (perform o m (Create 0 d n k l)).verdict ≡ true → Made d n (perform o m (Create 0 d n k l)).memory
    unfolding create effects effect
    create_made d n k l h =
        let e = event_done o m (create o m 0 d n k l) refl h in
        let t = simp and-eq-true_iff at e.tests.0 in
        rw e.leaves (made d n l _ _ _ _ (ltb-true n (numbers_of size) t.0.1) (not-true (in_use m n) e.tests.1.0))

    root_made : (d n l : ℕ) → is_done (perform o m (CreateRoot 0 d n l)).verdict ≡ true → Made d n (perform o m (CreateRoot 0 d n l)).memory
    unfolding create_root effects effect
    root_made d n l h =
        let e = event_done o m (create_root o m 0 d n l) refl h in
        let t = simp and-eq-true_iff at e.tests.0 in
        rw e.leaves (made d n l _ _ _ _ (ltb-true n (numbers_of size) t.1) (not-true (in_use m n) e.tests.1.0))

  -- ---- calls in turn

  -- each call is of no role in lists and gives one of the numbers, and where none is refused P holds at the end
  unfoldable pub Goes : (MemoryOf size → Type 0) → List Call → MemoryOf size → Type 0
  Goes P [] m = P m
  Goes P (c ∷ cs) m = (role c ≡ other) × (layout_gives (perform o m c).verdict ≡ true) × (is_done (perform o m c).verdict ≡ true → Goes P cs (perform o m c).memory)

  goes_on : (P Q : MemoryOf size → Type 0) → ((n : MemoryOf size) → P n → Q n) → (cs : List Call) (m : MemoryOf size) → Goes P cs m → Goes Q cs m
  unfolding Goes
  goes_on P Q k [] m g = k m g
  goes_on P Q k (c ∷ cs) m g = (g.0, g.1, λ h. goes_on P Q k cs (perform o m c).memory (g.2 h))

  goes_append : (P : MemoryOf size → Type 0) (cs ds : List Call) (m : MemoryOf size) → Goes (Goes P ds) cs m → Goes P (cs ++ ds) m
  unfolding Goes
  goes_append P [] ds m g = g
  goes_append P (c ∷ cs) ds m g = (g.0, g.1, λ h. goes_append P cs ds (perform o m c).memory (g.2 h))

  -- ---- the calls of a layout

  -- x is an object of the driver d
  Driven : (d x : ℕ) → MemoryOf size → Type 0
  Driven d x m = (state.object m x ≡ true) × (driver_of m x ≡ d)

  driven_lasts : (d x : ℕ) {m n : MemoryOf size} → Lasts m n → Driven d x m → Driven d x n
  unfolding Driven
  driven_lasts d x {m} k c =
      let e = k x (object_used m x c.0) in
      (same_object e ∙ c.0, e.driver ∙ c.1)

  lasts_on : {m n v : MemoryOf size} → Lasts m n → Lasts n v → Lasts m v
  lasts_on k l x u =
      let a = k x u in
      let b = l x (same_use a ∙ u) in
      record { kind = b.kind ∙ a.kind; level = b.level ∙ a.level; read_level_law = b.read_level_law ∙ a.read_level_law; driver = b.driver ∙ a.driver }

  -- both writes to the container c, and the create that they allow
  nested_goes : (P : MemoryOf size → Type 0) (c d e n l : ℕ) (rest : List Call) (m : MemoryOf size) → Stands m → Driven d c m
      → ((v : MemoryOf size) → Stands v → Lasts m v → Driven e n v → Goes P rest v) → Goes P (Write 0 d c ∷ Write e d c ∷ Create 0 e n c l ∷ rest) m
  unfolding Goes Driven
  nested_goes P c d e n l rest m i q k = (
    refl,
    write_gives m i 0 d c q.1,
    λ h.
        let j = stands_on m i (Write 0 d c) refl h in
        let a = write_lasts m i 0 d c h in
        let r = driven_lasts d c a q in (
          refl,
          write_gives _ j e d c r.1,
          λ g.
              let k2 = stands_on _ j (Write e d c) refl g in
              let b = write_lasts _ j e d c g in (
                refl,
                create_gives _ k2 e n c l (held _ j e d c g 0 (some_number size) (writes _ i 0 d c h)) (writes _ j e d c g),
                λ f.
                    let v = create_made _ k2 e n c l f in
                    k _ (stands_on _ k2 (Create 0 e n c l) refl f) (lasts_on a (lasts_on b v.lasts)) (v.is_object_law, v.driven),
              ),
        ),
  )

  -- what stands after calls that began at m
  abbrev Built : MemoryOf size → MemoryOf size → Type 0
  Built m n = Stands n × Lasts m n

  inner_goes : (c d : ℕ) (fs : Objects) (m : MemoryOf size) → Stands m → Driven d c m → Goes (Built m) (inner_calls c d fs) m
  unfolding inner_calls
  inner_goes c d none m i q = unfold Goes in (i, λ x u. record { kind = refl; level = refl; read_level_law = refl; driver = refl })
  inner_goes c d (object h inner rest) m i q =
      nested_goes (Built m) c d h.driver h.number h.level _ m i q (λ v j k r.
      goes_append (Built m) (inner_calls h.number h.driver inner) (inner_calls c d rest) v
      (goes_on (Built v) (Goes (Built m) (inner_calls c d rest))
      (λ w b. goes_on (Built w) (Built m) (λ x g. (g.0, lasts_on (lasts_on k b.1) g.1)) (inner_calls c d rest) w (inner_goes c d rest w b.0 (driven_lasts d c (lasts_on k b.1) q)))
      _ v (inner_goes h.number h.driver inner v j r)))

  form_goes : (f : Form) (m : MemoryOf size) → Stands m → Goes Stands (form_calls f) m
  unfolding form_calls Goes Driven
  form_goes (layout.root h inner) m i = (
    refl,
    root_gives m i h.driver h.number h.level,
    λ g.
        let v = root_made m i h.driver h.number h.level g in
        goes_on (Built _) Stands (λ n b. b.0) (inner_calls h.number h.driver inner) _ (inner_goes h.number h.driver inner _ (stands_on m i (CreateRoot 0 h.driver h.number h.level) refl g) (v.is_object_law, v.driven)),
  )
  form_goes (layout.task a) m i = (refl, execute_gives m i 0 a.image a.number a.level a.reads, λ g. stands_on m i (Execute 0 a.image a.number a.level a.reads) refl g)

  pub layout_goes : (f : Layout) (m : MemoryOf size) → Stands m → Goes Stands (layout_calls f) m
  unfolding layout_calls Goes
  layout_goes [] m i = i
  layout_goes (f ∷ fs) m i = goes_append Stands (form_calls f) (layout_calls fs) m (goes_on Stands _ (layout_goes fs) (form_calls f) m (form_goes f m i))

  -- ---- what follows of calls in turn

  turn_done : (c : Call) (cs : List Call) (m : MemoryOf size) → is_done (in_turn o (c ∷ cs) m).verdict ≡ true
      → (is_done (perform o m c).verdict ≡ true) × (in_turn o (c ∷ cs) m ≡ in_turn o cs (perform o m c).memory) × (is_done (in_turn o cs (perform o m c).memory).verdict ≡ true)
  unfolding in_turn
  turn_done c cs m h =
      elim (either (is_done (perform o m c).verdict)) [ inl d ↦ (d, rw d, rw d at h) | inr d ↦ absurd (true≢false (sym (rw d at h) ∙ d)) ]

  pub goes_leaves : (cs : List Call) (m : MemoryOf size) → Goes Stands cs m → is_done (in_turn o cs m).verdict ≡ true → Stands (in_turn o cs m).memory
  unfolding Goes
  goes_leaves [] m g h = unfold in_turn in g
  goes_leaves (c ∷ cs) m g h =
      let d = turn_done c cs m h in
      rw d.1 (goes_leaves cs (perform o m c).memory (g.2 d.0) d.2)

  pub goes_gives : (cs : List Call) (m : MemoryOf size) → Goes Stands cs m → GiveThese o cs m
  unfolding Goes GiveThese
  goes_gives [] m g = tt
  goes_gives (c ∷ cs) m g = (g.1, λ h. goes_gives cs (perform o m c).memory (g.2 h))

  pub turn_gives : (cs : List Call) (m : MemoryOf size) → Goes Stands cs m → layout_gives (in_turn o cs m).verdict ≡ true
  unfolding Goes in_turn layout_gives
  turn_gives [] m g = refl
  turn_gives (c ∷ cs) m g = elim (either (is_done (perform o m c).verdict)) [ inl h ↦ rw h (turn_gives cs (perform o m c).memory (g.2 h)) | inr h ↦ rw h g.1 ]

  pub goes_granted : (cs : List Call) (m : MemoryOf size) → Goes Stands cs m → is_done (in_turn o cs m).verdict ≡ true → AllGranted o cs m
  unfolding Goes AllGranted
  goes_granted [] m g h = tt
  goes_granted (c ∷ cs) m g h =
      let d = turn_done c cs m h in
      (gives_granted _ g.1 d.0, goes_granted cs (perform o m c).memory (g.2 d.0) d.2)

  -- in a list they leave what they leave in turn
  pub goes_run : (cs : List Call) (m : MemoryOf size) → Goes Stands cs m → is_done (in_turn o cs m).verdict ≡ true → standing o (in_turn o cs m).memory [] ≡ run (map (asks o) cs) (standing o m [])
  unfolding Goes run
  goes_run [] m g h = unfold in_turn in refl
  goes_run (c ∷ cs) m g h =
      let d = turn_done c cs m h in
      ap (λ (out : OutcomeOf size). standing o out.memory []) d.1 ∙ goes_run cs (perform o m c).memory (g.2 d.0) d.2
      ∙ ap (run (map (asks o) cs)) (sym (one d.0 g.0))
    where
      one : is_done (perform o m c).verdict ≡ true → role c ≡ other → next (asks o c) (standing o m []) ≡ standing o (perform o m c).memory []
      one e r = unfold next entered in rw (e, r)
