-- Every call other than a start, on every sound memory, reached or not: paths stay (A), what marks reach stays (B), and marks come along paths.
-- Assumes nothing.
use Rattle.std.specs.Prelude.{◌≡◌, Bool, true, false, ◌&&◌, ◌||◌, List, [], ◌∷◌, ℕ, ◌<◌, eqb}
use Rattle.std.proofs.Math.Path.{refl, sym}
use Rattle.std.proofs.Common.{ap, subst, ◌∙◌, true≢false, inl, inr, arith, eqb-true, eq-eqb, ne_eqb, ltb-true}
use Rattle.std.proofs.Math.Bool.{not, and-eq-true_iff}
use Rattle.std.proofs.Math.Logic.{⊎_elim}
use Rattle.std.proofs.lemmas.Bool.{not-true}
use Rattle.bits.specs.All.{any_b}
use Rattle.bits.specs.AllLaws.{either, or_cases, or_l, or_r, and_i, and_r, any_i, any_at}
use Rattle.rows.specs.Size.{Size, numbers_of}
use Rattle.levels.specs.declared.Order.{Order}
use Rattle.records.specs.Records.{Place, root, within, is_task, is_object, sound_of}
use Rattle.records.specs.RecordLaws.{field_else, object_facts}
use Rattle.model.specs.declared.Call.{Call}
use Rattle.model.specs.declared.Call.TheVariants.{Start, Read, Write, Execute, Create, CreateRoot, Move, Delete, CallTask, Invoke, Pass, Post, Find, Mark, Step, Spread}
use Rattle.model.specs.Verdicts.{granted, is_done}
use Rattle.model.specs.State.{MemoryOf, in_use, task, object, driver_of, marked, has_flow}
use Rattle.model.proofs.StateLaws.{task_used, used_below}
use Rattle.model.specs.Effects.{Effect, flow_if, make_task, make_object, move_to, bridge, clear, mark_outside, mark_thing, object_of, fed_by, effect, effects}
use Rattle.model.proofs.EffectLaws.{Long, fit_long, effect_long, effects_long, in_use_after, object_after, driver_after, marked_after_law, outside_marked, thing_marked}
use Rattle.model.specs.Events.{Event, OutcomeOf, outcome, read, write, execute, create, create_root, move, delete, call_task, invoke, pass, post, find, mark, fed, step, feeds_unmarked}
use Rattle.model.specs.Spread.{spread}
use Rattle.model.specs.Monitor.{fitted, perform}
use Rattle.model.proofs.MarkLaws.{MoreMarks, kept_in_use}
use Rattle.model.proofs.SpreadLaws.{spread_more}
use Rattle.model.proofs.SoundLaws.{marked_used}
use Rattle.model.proofs.TableLaws.{Happened, refusals, event_done, fitted_done}
use Rattle.containment.specs.Lists.{Role, starting, marking, other, role}
use Rattle.containment.specs.Claims.{Exact}
use Rattle.containment.proofs.Changes.{equal_or_not}
use Rattle.containment.proofs.CallsKeep.{NoStart}
use Rattle.containment.proofs.SpreadProof.{spread_exact}
use Rattle.containment.proofs.Reach.{own_object, Reach, at, along, down, chain_fed, Grows, reach_grows}
use Rattle.containment.proofs.Bypass.{Bypasses, not_gone, past_path, past_fed, bypassed, bypassed_long, delete_bypasses}
use Rattle.containment.proofs.Carries.{Source, Origin, Carries, Nobody, same_origin, grows_carries, more_grows, effects_grow, quiet_carries}

-- an object of what is reached is reached, also if it was its object before
own_reached : {size : Size} {m n : MemoryOf size} {S : ℕ → Type 0} → Grows m n → (d x : ℕ) → x < numbers_of size → object_of m d x ≡ true → Reach n S d → Reach n S x
own_reached {m = m} g d x l h r = let t = own_object m d x h in let k = g.objects x t.0 in down d x r l k.0 (k.1 ∙ t.1)

-- ---- each kind of call

module _ {size : Size} (m : MemoryOf size) (long : Long m) where
  -- a new task has no mark
  execute_carries : (n l r : ℕ) (b : Bool) (i : ℕ) → n < numbers_of size → in_use m n ≡ false → Carries m (effects (make_task n l r ∷ flow_if b i n ∷ []) m) Nobody
  unfolding effects effect in_use marked
  execute_carries n l r b i ln free = quiet_carries m long (make_task n l r ∷ flow_if b i n ∷ []) (free, (tt, tt)) (λ x u k. ⊎_elim (new x k) (old x u k) (equal_or_not x n))
    where
      made : MemoryOf size
      made = effect (make_task n l r) m

      new : (x : ℕ) → marked made x ≡ true → x ≡ n → (in_use m x ≡ true) × (marked m x ≡ true)
      new x k e = absurd (true≢false (sym k ∙ marked_after_law x (make_task n l r) m long (ln, tt) ∙ rw (eq-eqb x n e)))

      old : (x : ℕ) → in_use made x ≡ true → marked made x ≡ true → (x ≡ n → ⊥) → (in_use m x ≡ true) × (marked m x ≡ true)
      old x u k e = (sym (in_use_after x (make_task n l r) m long ln ∙ rw (ne_eqb x n e)) ∙ u, sym (marked_after_law x (make_task n l r) m long (ln, tt) ∙ rw (ne_eqb x n e)) ∙ k)

  -- a new object is marked if its driver is
  created_carries : (c d n : ℕ) (q : Place) (l : ℕ) → task m d ≡ true → n < numbers_of size → in_use m n ≡ false
      → Carries m (effects (make_object n l d q (marked m d) ∷ flow_if (marked m d) c n ∷ flow_if (marked m d) c d ∷ []) m) Nobody
  unfolding effects effect in_use object is_object marked
  created_carries c d n q l td ln free = grows_carries m left Nobody grow (λ x u k. ⊎_elim (new x u k) (old x u k) (equal_or_not x n)) (λ y e. absurd e)
    where
      made : Effect
      made = make_object n l d q (marked m d)

      es : List Effect
      es = made ∷ flow_if (marked m d) c n ∷ flow_if (marked m d) c d ∷ []

      left : MemoryOf size
      left = effects es m

      grow : Grows m left
      grow = effects_grow m long es (free, (tt, (tt, tt)))

      below : (x : ℕ) → in_use left x ≡ true → x < numbers_of size
      below x = used_below left x (effects_long es long).bytes_long

      new : (x : ℕ) → in_use left x ≡ true → marked left x ≡ true → x ≡ n → Reach left (Source m Nobody) x
      new x u k e =
          let ud = task_used m d td in
          let md : marked m d ≡ true = sym (marked_after_law x made m long (ln, tt) ∙ rw (eq-eqb x n e)) ∙ k in
          down d x (at d (below d (grow.used d ud)) (grow.used d ud) (inl (ud, md))) (below x u)
          (object_after x made m long ln ∙ rw (eq-eqb x n e)) (driver_after x made m long ln ∙ rw (eq-eqb x n e))

      old : (x : ℕ) → in_use left x ≡ true → marked left x ≡ true → (x ≡ n → ⊥) → Reach left (Source m Nobody) x
      old x u k e =
          at x (below x u) u
          (inl (sym (in_use_after x made m long ln ∙ rw (ne_eqb x n e)) ∙ u, sym (marked_after_law x made m long (ln, tt) ∙ rw (ne_eqb x n e)) ∙ k))

  -- a move changes no mark
  move_carries : (x t : ℕ) (b : Bool) (e d : ℕ) → Carries m (effects (move_to x t ∷ flow_if b e x ∷ flow_if b e d ∷ []) m) Nobody
  unfolding effects effect in_use marked
  move_carries x t b e d =
      quiet_carries m long (move_to x t ∷ flow_if b e x ∷ flow_if b e d ∷ []) (tt, (tt, (tt, tt)))
      (λ y u k. (
        sym (ap (λ (v : ℕ). not (eqb v 0)) (field_else m.bytes x 4 t y 0 (omega arith) (omega arith) (inr (omega arith)))) ∙ u,
        sym (ap (λ (v : ℕ). not (eqb v 0)) (field_else m.bytes x 4 t y 5 (omega arith) (omega arith) (inr (omega arith)))) ∙ k,
      ))

  -- the task e is named, and its objects are its own
  mark_carries : (e : ℕ) → task m e ≡ true → Carries m (effects (mark_outside e ∷ []) m) (λ y. y ≡ e)
  unfolding effects
  mark_carries e te =
      grows_carries m left (λ y. y ≡ e) grow born (λ y d. rw d (grow.used e ue, outside_marked e m long le e le ∙ or_r (marked m e) _ (or_l (eqb e e) _ (eq-eqb e e refl))))
    where
      left : MemoryOf size
      left = effect (mark_outside e) m

      ue : in_use m e ≡ true
      ue = task_used m e te

      le : e < numbers_of size
      le = used_below m e long.bytes_long ue

      grow : Grows m left
      grow = effects_grow m long (mark_outside e ∷ []) (te, tt)

      born : Origin m left (λ y. y ≡ e)
      born x u k =
          let lx = used_below left x (effect_long (mark_outside e) long).bytes_long u in
          ⊎_elim (λ h. at x lx u (inl (sym (in_use_after x (mark_outside e) m long le) ∙ u, h)))
          (λ h. ⊎_elim (λ d. at x lx u (inr (eqb-true x e d))) (λ d. own_reached grow e x lx d (at e le (grow.used e ue) (inr refl))) (or_cases (eqb x e) (object_of m e x) h))
          (or_cases (marked m x) (eqb x e || object_of m e x) (sym (outside_marked x m long lx e le) ∙ k))

  -- a marked thing y feeds x, and a task's objects are its own
  step_carries : (x y : ℕ) → in_use m x ≡ true → in_use m y ≡ true → marked m y ≡ true → has_flow m y x ≡ true → Carries m (effects (mark_thing x ∷ []) m) Nobody
  unfolding effects
  step_carries x y ux uy ky f = grows_carries m left Nobody grow born (λ y e. absurd e)
    where
      left : MemoryOf size
      left = effect (mark_thing x) m

      below : (z : ℕ) → in_use m z ≡ true → z < numbers_of size
      below z = used_below m z long.bytes_long

      grow : Grows m left
      grow = effects_grow m long (mark_thing x ∷ []) (tt, tt)

      itself : Reach left (Source m Nobody) x
      itself = along y x (at y (below y uy) (grow.used y uy) (inl (uy, ky))) (below x ux) (grow.used x ux) (grow.flows y x f)

      born : Origin m left Nobody
      born z u k =
          let uz = sym (in_use_after z (mark_thing x) m long (below x ux)) ∙ u in
          ⊎_elim (λ h. at z (below z uz) u (inl (uz, h)))
          (λ h. ⊎_elim (λ e. subst (Reach left (Source m Nobody)) (sym (eqb-true z x e)) itself) (λ e. own_reached grow x z (below z uz) (and_r (task m x) (object_of m x z) e) itself) (or_cases (eqb z x) (task m x && object_of m x z) h))
          (or_cases (marked m z) (eqb z x || (task m x && object_of m x z)) (sym (thing_marked z m long (below z uz) x) ∙ k))

  -- the object x goes, bridged
  delete_carries : (x : ℕ) (b : Bool) (e d : ℕ) → object m x ≡ true → ((y : ℕ) → object m y ≡ true → task m (driver_of m y) ≡ true)
      → (marked m x ≡ true → (q : ℕ) → fed_by m x q ≡ true → marked m q ≡ true) → Carries m (effects (bridge x ∷ clear x ∷ flow_if b e d ∷ []) m) Nobody
  unfolding effects effect in_use object is_object marked
  delete_carries x b e d o drivers feeding =
      record {
        paths = λ w y uw uy r. reach_grows (λ z. w ≡ z) (λ z. w ≡ z) grow (λ z u e. e) (past_path m cleared x by w y uw uy r);
        feds = λ y uy r. reach_grows (λ z. marked cleared z ≡ true) (λ z. marked left z ≡ true) grow grow.marks (past_fed m cleared x by feeding y uy r);
        origin = same_origin m left Nobody (effect_long (flow_if b e d) long') (λ y u k. let n = not_gone m cleared x by y u in (sym (by.used y n) ∙ u, sym (by.marks y n) ∙ k));
        naming = λ y e. absurd e;
      }
    where
      cleared : MemoryOf size
      cleared = bypassed m x

      left : MemoryOf size
      left = effect (flow_if b e d) cleared

      long' : Long cleared
      long' = bypassed_long long x

      by : Bypasses m cleared x
      by = delete_bypasses m long x o drivers

      grow : Grows cleared left
      grow = effects_grow cleared long' (flow_if b e d ∷ []) (tt, tt)

  -- a spread marks what chains reach
  spread_carries : (o : Order) → (perform o m Spread).verdict ≡ granted → Carries m (spread m).memory Nobody
  spread_carries o h = grows_carries m left Nobody grow born (λ y e. absurd e)
    where
      left : MemoryOf size
      left = (spread m).memory

      more : MoreMarks m left
      more = spread_more m

      grow : Grows m left
      grow = more_grows more

      exact : Exact m left
      exact = subst (λ (out : OutcomeOf size). Exact m out.memory) (fitted_done o m (spread m) (ap is_done h)).inner (spread_exact size o m h)

      born : Origin m left Nobody
      born x u k =
          reach_grows (λ z. marked m z ≡ true) (Source m Nobody) grow (λ z v j. inl (v, j))
          (chain_fed ((exact.by_chains x (used_below m x long.bytes_long (sym (kept_in_use more x) ∙ u))).0 k))

-- ---- what the tests of a deletion say

-- every driver is a task
driver_tasks : {size : Size} (o : Order) (m : MemoryOf size) → sound_of size o m.bytes ≡ true → (y : ℕ) → object m y ≡ true → task m (driver_of m y) ≡ true
unfolding object task is_object is_task
driver_tasks {size} o m ok y h = eq-eqb _ _ (object_facts size o m.bytes ok y (eqb-true _ _ h)).driven

-- row 16: all that a marked x feeds is marked
feeds_marked : {size : Size} (m : MemoryOf size) → Long m → (x : ℕ) → not (feeds_unmarked m x) ≡ true → marked m x ≡ true → (q : ℕ) → fed_by m x q ≡ true → marked m q ≡ true
unfolding feeds_unmarked fed_by
feeds_marked {size} m long x h k q f = ⊎_elim (λ e. e) (λ e. absurd (true≢false (sym (and_i k (some e)) ∙ not-true _ h))) (either (marked m q))
  where
    some : marked m q ≡ false → any_b (numbers_of size) (λ y. fed_by m x y && not (marked m y)) ≡ true
    some e = any_i (numbers_of size) (λ y. fed_by m x y && not (marked m y)) q (used_below m q long.bytes_long (simp and-eq-true_iff at f).0.0) (and_i f (ap not e))

-- ---- every call

-- the tasks that a call of that role names
abbrev pub Names : Role → ℕ → Type 0
Names starting y = ⊥
Names (marking e) y = y ≡ e
Names other y = ⊥

-- a spread that is done is granted
spread_granted : {size : Size} (o : Order) (m : MemoryOf size) → is_done (perform o m Spread).verdict ≡ true → (perform o m Spread).verdict ≡ granted
unfolding spread
spread_granted {size} o m h = ap (λ (out : OutcomeOf size). out.verdict) (fitted_done o m (spread m) h).inner

module _ {size : Size} (o : Order) (m : MemoryOf size) where
  -- an event that is done leaves what its effects leave
  event_carries : (e : Event) (E : ℕ → Type 0) → refusals e.tests ≡ true → (Happened o m e → Long m → Carries m (effects e.effects m) E)
      → is_done (fitted o m (outcome m e)).verdict ≡ true → Carries m (fitted o m (outcome m e)).memory E
  event_carries e E r f h = let d = event_done o m e r h in rw d.leaves (f d (fit_long m d.lengths))

  -- every call that is done, and is no start
  pub call_carries : (c : Call) → NoStart (role c) → is_done (perform o m c).verdict ≡ true → Carries m (perform o m c).memory (Names (role c))
  unfolding read write execute create create_root move delete call_task invoke pass post find mark fed step effects effect in_use marked
  call_carries Start n h = absurd n
  call_carries (Read e d x) n h = event_carries (read o m e d x) Nobody refl (λ t l. quiet_carries m l (read o m e d x).effects (tt, (tt, (tt, (tt, tt)))) (λ x u k. (u, k))) h
  call_carries (Write e d x) n h = event_carries (write o m e d x) Nobody refl (λ t l. quiet_carries m l (write o m e d x).effects (tt, (tt, (tt, tt))) (λ x u k. (u, k))) h
  call_carries (Execute c i n l r) w h =
      event_carries (execute o m c i n l r) Nobody refl
      (λ t g.
      let a = simp and-eq-true_iff at t.tests.0 in
      execute_carries m g n l r (marked m i) i (ltb-true n (numbers_of size) a.1) (not-true (in_use m n) t.tests.1.0)) h
  call_carries (Create c d n k l) w h =
      event_carries (create o m c d n k l) Nobody refl
      (λ t g.
      let a = simp and-eq-true_iff at t.tests.0 in
      created_carries m g c d n (within k) l a.0.0.1 (ltb-true n (numbers_of size) a.0.1) (not-true (in_use m n) t.tests.1.0)) h
  call_carries (CreateRoot c d n l) w h =
      event_carries (create_root o m c d n l) Nobody refl
      (λ t g.
      let a = simp and-eq-true_iff at t.tests.0 in
      created_carries m g c d n root l a.0.1 (ltb-true n (numbers_of size) a.1) (not-true (in_use m n) t.tests.1.0)) h
  call_carries (Move e d x f t) n h = event_carries (move o m e d x f t) Nobody refl (λ p l. move_carries m l x t (marked m d) e d) h
  call_carries (Delete e d x k) n h =
      event_carries (delete o m e d x k) Nobody refl
      (λ t l.
      let a = simp and-eq-true_iff at t.tests.0 in
      delete_carries m l x (marked m d) e d a.0.1 (driver_tasks o m t.sound_bytes) (feeds_marked m l x t.tests.1.1.1.1.1.1.0)) h
  call_carries (CallTask a b) n h = event_carries (call_task o m a b) Nobody refl (λ t l. quiet_carries m l (call_task o m a b).effects (tt, (tt, tt)) (λ x u k. (u, k))) h
  call_carries (Invoke a b) n h = event_carries (invoke o m a b) Nobody refl (λ t l. quiet_carries m l (invoke o m a b).effects (tt, (tt, tt)) (λ x u k. (u, k))) h
  call_carries (Pass z x y) n h = event_carries (pass o m z x y) Nobody refl (λ t l. quiet_carries m l (pass o m z x y).effects (tt, tt) (λ x u k. (u, k))) h
  call_carries (Post x z y) n h = event_carries (post o m x z y) Nobody refl (λ t l. quiet_carries m l (post o m x z y).effects (tt, tt) (λ x u k. (u, k))) h
  call_carries (Find x z y) n h = event_carries (find o m x z y) Nobody refl (λ t l. quiet_carries m l (find o m x z y).effects (tt, tt) (λ x u k. (u, k))) h
  call_carries (Mark e) n h = event_carries (mark o m e) (λ y. y ≡ e) refl (λ t l. mark_carries m l e t.tests.0) h
  call_carries (Step x) n h =
      event_carries (step o m x) Nobody refl
      (λ t l.
      let p = simp and-eq-true_iff at t.tests.1.0 in
      let a = any_at (numbers_of size) (λ y. marked m y && has_flow m y x) p.1 in
      let f = simp and-eq-true_iff at a.2 in
      step_carries m l x a.0 t.tests.0 (marked_used o m t.sound_bytes a.0 f.0) f.0 f.1) h
  call_carries Spread n h =
      let f = fitted_done o m (spread m) h in
      rw f.inner (spread_carries m (fit_long m f.lengths) o (spread_granted o m h))
