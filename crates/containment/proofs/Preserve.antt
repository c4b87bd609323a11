-- Each effect keeps the limits, where it is allowed.
-- Assumes nothing.
use Rattle.std.specs.Prelude.{◌≡◌, Bool, not, cond, ◌&&◌, ◌||◌, ◌⊎◌, ℕ, ◌<◌}
use Rattle.std.proofs.Math.Path.{refl}
use Rattle.std.proofs.Common.{sym, ap, ◌∙◌, true≢false, arith}
use Rattle.std.proofs.Math.Bool.{true, false, and-eq-true_iff}
use Rattle.std.proofs.Math.Logic.{inl, inr, ⊎_elim}
use mathlib.Core.List.Memᴰ
use mathlib.Core.List.{List, [], ◌∷◌, Memᴰ}
use Rattle.std.proofs.Math.Dec.{eqb}
use borrow.Author.Tests.{eqb-true, eqb-false, eq-eqb, ne_eqb, not-true}
use Rattle.bits.specs.AllLaws.{or_cases, or_l, or_r, and_i, not_so}
use Rattle.rows.specs.Rows.{add_cell}
use Rattle.rows.proofs.RowLaws.{length_add}
use Rattle.rows.specs.Size.{Size, row_size_of, numbers_of}
use Rattle.levels.specs.declared.Order.{Order}
use Rattle.levels.specs.Order.{at_or_below}
use Rattle.levels.specs.OrderLaws.{IsOrder}
use Rattle.records.specs.Records as records
use Rattle.records.specs.Records.{field, Place}
use Rattle.model.specs.State.{MemoryOf, in_use, task, object, level_of, driver_of, marked, has_flow}
use Rattle.model.proofs.StateLaws.{task_used, object_used, object_task, outside_mark, used_apart, used_below}
use Rattle.model.specs.Effects.{Effect, flow, flow_if, read_access, write_access, make_task, make_object, move_to, bridge, clear, mark_outside, mark_thing, object_of, feeder, fed_by, with_words, effect, effects}
use Rattle.model.proofs.MarkLaws.{where_words, where_field, where_kept}
use Rattle.model.proofs.EffectLaws.{Long, fit_long, long_fits, effect_long, effect_bytes, effect_words, byte_after_law, in_use_after, object_after, level_after, driver_after, marks_after, marked_after_law, outside_marks, outside_marked, thing_marked}
use Rattle.containment.specs.Lists.{StandingOf}
use Rattle.containment.specs.Claims.{Covered}
use Rattle.containment.proofs.Tables.{Table, flows, reads, writes, row, has, has_added, has_bridged, has_clear}
use Rattle.containment.proofs.Invariant.{standing, Ends, Bounded, MayFlow, May, may_join, Limits, joins, covered_below, ends_trans}
use Rattle.containment.proofs.Reach.{Feeds, feeds_by}
use Rattle.containment.proofs.Follows.{Same, Follows, same_task, covered_follows}
use Rattle.containment.proofs.Changes.{words_limits, one_follows, one_limits, marks_follow, marks_limits}

abbrev pub after : {size : Size} → StandingOf size → Effect → StandingOf size
after s e = standing s.order (effect e s.memory) s.outside

-- a free number may become an object of the task d, at or below it and marked like it
pub record MayMake {size : Size} (s : StandingOf size) (n l d : ℕ) (b : Bool) : Type 0 where
  pub below : n < numbers_of size
  pub free : in_use s.memory n ≡ false
  pub driver : task s.memory d ≡ true
  pub above : at_or_below s.order l (level_of s.memory d) ≡ true
  pub mark : b ≡ marked s.memory d

module _ {size : Size} where
  -- what the limits ask of an effect; marking from outside names one more task, and stands apart
  abbrev pub Allowed : StandingOf size → Effect → Type 0
  Allowed s (flow x y) = May s flows x y
  Allowed s (flow_if b x y) = b ≡ true → May s flows x y
  Allowed s (read_access z x) = May s reads z x
  Allowed s (write_access z x) = May s writes z x
  Allowed s (make_task n l r) = (n < numbers_of size) × (in_use s.memory n ≡ false)
  Allowed s (make_object n l d p b) = MayMake s n l d b
  Allowed s (move_to x c) = object s.memory x ≡ true
  Allowed s (bridge x) = in_use s.memory x ≡ true
  Allowed s (clear x) = object s.memory x ≡ true
  Allowed s (mark_outside e) = ⊥
  Allowed s (mark_thing x) = Covered s (level_of s.memory x)

  abbrev pub AllAllowed : StandingOf size → List Effect → Type 0
  AllAllowed s [] = Unit {0}
  AllAllowed s (e ∷ es) = Allowed s e × AllAllowed (after s e) es

  -- a record that is no object and has no mark
  pub bounded_none : (s : StandingOf size) (x : ℕ) → object s.memory x ≡ false → marked s.memory x ≡ false → Bounded s x
  bounded_none s x no_object no_mark =
      record {
        driver_task = λ h. absurd (true≢false (sym h ∙ no_object));
        driver_above = λ h. absurd (true≢false (sym h ∙ no_object));
        driven_marked = λ h. absurd (true≢false (sym h ∙ no_object));
        mark_covered = λ h. absurd (true≢false (sym h ∙ no_mark));
      }

module _ {size : Size} (s : StandingOf size) (ok : IsOrder s.order) (k : Limits s) where
  abbrev o : Order
  o = s.order

  abbrev m : MemoryOf size
  m = s.memory

  long : Long m
  long = fit_long m k.fits

  below : (x : ℕ) → in_use m x ≡ true → x < numbers_of size
  below x = used_below m x long.bytes_long

  -- ---- a flow or an access is recorded

  record_keeps : (t : Table) (x y : ℕ) → May s t x y → Limits (standing o (with_words m (add_cell (row_size_of size) m.words (row size t x) y)) s.outside)
  record_keeps t x y a =
      let u = may_join s t x y a in
      words_limits s _ k (length_add (row_size_of size) m.words (row size t x) y)
      (λ i v w lv lw h. ⊎_elim (λ e. inl e) (λ (e : (i ≡ t) × (v ≡ x) × (w ≡ y)). inr (rw (e.0, e.1, e.2) a))
      (has_added m long v w lv lw x y (below x u.0) (below y u.1) i t h))

  -- ---- what feeds x, and its driver, goes on to what x feeds: through x, so within the limits

  bridge_keeps : (x : ℕ) → in_use m x ≡ true → Limits (after s (bridge x))
  unfolding effect feeder fed_by has_flow
  bridge_keeps x a =
      words_limits s _ k (effect_words (bridge x) m)
      (λ t u v lu lv h. ⊎_elim (λ e. inl e) (λ (e : (t ≡ flows) × (feeder m x u ≡ true) × (fed_by m x v ≡ true)). inr (rw e.0 (through u v lu lv e.1 e.2)))
      (has_bridged m long u v lu lv x t h))
    where
      into : (u : ℕ) → u < numbers_of size → Feeds m u x → Ends s u x
      into u lu (inl f) = (k.recorded flows u x lu (below x a) f).2
      into u lu (inr d) = inl (rw (sym d.1) ((k.bounded x (below x a)).driver_above d.0))

      through : (u v : ℕ) → u < numbers_of size → v < numbers_of size → feeder m x u ≡ true → fed_by m x v ≡ true → MayFlow s u v
      through u v lu lv p q =
          let d = simp and-eq-true_iff at p in
          let e = simp and-eq-true_iff at q in
          (d.0.0, e.0.0, ends_trans s ok u x v (into u lu (feeds_by m u x (has flows m u x) (λ f. f) d.1)) (k.recorded flows x v (below x a) lv e.1).2)

  -- ---- a free number becomes a task or an object

  module _ (e : Effect) (n : ℕ) (free : in_use m n ≡ false) (off : (x f : ℕ) → f < 8 → (x ≡ n → ⊥) → field (effect e m).bytes x f ≡ field m.bytes x f) where
    used_off : (x : ℕ) → in_use m x ≡ true → x ≡ n → ⊥
    used_off x u d = used_apart m x n u free d

    free_task : task m n ≡ false
    free_task = not_so (task m n) (λ h. true≢false (sym (task_used m n h) ∙ free))

    made_follows : (effect e m).words ≡ m.words → Follows o m (effect e m) s.outside s.outside
    made_follows words =
        one_follows o m (effect e m) s.outside n k free_task off (λ h g. true≢false (sym h ∙ free))
        (λ t x y a b h.
        let g : has t m x y ≡ true = rw words at h in
        let j = joins k t x y a b g in
        (g, used_off x j.0, used_off y j.1))

    made_keeps : Follows o m (effect e m) s.outside s.outside → Bounded (after s e) n → Limits (after s e)
    made_keeps f here = one_limits o m (effect e m) s.outside n k free_task off f (long_fits (effect_long e long)) here

  module _ (n l r : ℕ) (a : n < numbers_of size) (free : in_use m n ≡ false) where
    task_off : (x f : ℕ) → f < 8 → (x ≡ n → ⊥) → field (effect (make_task n l r) m).bytes x f ≡ field m.bytes x f
    task_off x f lf h = byte_after_law (λ b. b) x f lf (make_task n l r) m long a tt ∙ rw (ne_eqb x n h)

    task_follows : Follows o m (effect (make_task n l r) m) s.outside s.outside
    unfolding effect
    task_follows = made_follows (make_task n l r) n free task_off refl

    task_keeps : Limits (after s (make_task n l r))
    task_keeps =
        made_keeps (make_task n l r) n free task_off task_follows
        (bounded_none (after s (make_task n l r)) n
        (object_after n (make_task n l r) m long a ∙ rw (eq-eqb n n refl))
        (marked_after_law n (make_task n l r) m long (a, tt) ∙ rw (eq-eqb n n refl)))

  module _ (n l d : ℕ) (p : Place) (b : Bool) (a : MayMake s n l d b) where
    abbrev making : Effect
    making = make_object n l d p b

    object_off : (x f : ℕ) → f < 8 → (x ≡ n → ⊥) → field (effect making m).bytes x f ≡ field m.bytes x f
    object_off x f lf h = byte_after_law (λ b. b) x f lf making m long a.below tt ∙ rw (ne_eqb x n h)

    pub object_follows : Follows o m (effect making m) s.outside s.outside
    unfolding effect
    object_follows = made_follows making n a.free object_off refl

    object_keeps : Limits (after s making)
    object_keeps =
        made_keeps making n a.free object_off object_follows
        (record {
          driver_task = λ h. rw driver (same_task same ∙ a.driver);
          driver_above = λ h. rw (driver, level, same.level) a.above;
          driven_marked = λ h g. mark ∙ a.mark ∙ sym driver_mark ∙ (rw driver at g);
          mark_covered = λ h.
              rw level (covered_follows object_follows l
              (covered_below s ok l _ a.above ((k.bounded d (below d (task_used m d a.driver))).mark_covered (sym a.mark ∙ sym mark ∙ h))));
        })
      where
        same : Same m (effect making m) d
        same = object_follows.tasks d a.driver

        level : level_of (effect making m) n ≡ l
        level = level_after n making m long a.below ∙ rw (eq-eqb n n refl)

        driver : driver_of (effect making m) n ≡ d
        driver = driver_after n making m long a.below ∙ rw (eq-eqb n n refl)

        mark : marked (effect making m) n ≡ b
        mark = marked_after_law n making m long (a.below, tt) ∙ rw (eq-eqb n n refl)

        driver_mark : marked (effect making m) d ≡ marked m d
        driver_mark = marked_after_law d making m long (a.below, tt) ∙ rw (ne_eqb d n (used_off making n a.free object_off d (task_used m d a.driver)))

  -- ---- an object is cleared, or moved

  clear_off : (x : ℕ) → x < numbers_of size → (y f : ℕ) → f < 8 → (y ≡ x → ⊥) → field (effect (clear x) m).bytes y f ≡ field m.bytes y f
  clear_off x a y f lf h = byte_after_law (λ b. b) y f lf (clear x) m long a tt ∙ rw (ne_eqb y x h)

  module _ (x : ℕ) (h : object m x ≡ true) where
    object_below : x < numbers_of size
    object_below = below x (object_used m x h)

    pub clear_follows : Follows o m (effect (clear x) m) s.outside s.outside
    clear_follows =
        one_follows o m (effect (clear x) m) s.outside x k (object_task m x h) (clear_off x object_below)
        (λ g i. true≢false (sym i ∙ in_use_after x (clear x) m long object_below ∙ rw (eq-eqb x x refl)))
        (λ t u v lu lv g. cut (has t m u v) u v (sym (has_clear m long u v lu lv x object_below t) ∙ g))
      where
        cut : (b : Bool) (u v : ℕ) → (b && not (eqb u x) && not (eqb v x)) ≡ true → (b ≡ true) × (u ≡ x → ⊥) × (v ≡ x → ⊥)
        cut b u v g =
            let d = simp and-eq-true_iff at g in
            (d.0.0, eqb-false u x (not-true (eqb u x) d.0.1), eqb-false v x (not-true (eqb v x) d.1))

    clear_keeps : Limits (after s (clear x))
    clear_keeps =
        one_limits o m (effect (clear x) m) s.outside x k (object_task m x h) (clear_off x object_below) clear_follows (long_fits (effect_long (clear x) long))
        (bounded_none (after s (clear x)) x
        (object_after x (clear x) m long object_below ∙ rw (eq-eqb x x refl))
        (marked_after_law x (clear x) m long (object_below, tt) ∙ rw (eq-eqb x x refl)))

    module _ (c : ℕ) where
      move_kept : (y f : ℕ) → f < 4 → field (effect (move_to x c) m).bytes y f ≡ field m.bytes y f
      move_kept y f lf = byte_after_law (λ b. b) y f (omega arith) (move_to x c) m long object_below tt ∙ rw (ne_eqb f 4 (omega arith))

      move_marked : (y : ℕ) → marked (effect (move_to x c) m) y ≡ marked m y
      move_marked y = marked_after_law y (move_to x c) m long (object_below, tt)

      pub move_follows : Follows o m (effect (move_to x c) m) s.outside s.outside
      unfolding effect
      move_follows = marks_follow o m (effect (move_to x c) m) s.outside s.outside k refl move_kept (λ y l g. move_marked y ∙ g) (λ t g. g)

      move_keeps : Limits (after s (move_to x c))
      unfolding effect
      move_keeps =
          marks_limits o m (effect (move_to x c) m) s.outside s.outside k refl move_kept (λ y l g. move_marked y ∙ g) (λ t g. g) (effect_bytes (move_to x c) m)
          (λ y l g. (k.bounded y l).mark_covered (sym (move_marked y) ∙ g))
          (λ y l h g. move_marked y ∙ (k.bounded y l).driven_marked h (sym (move_marked (driver_of m y)) ∙ g))
          (λ t g. ((k.named t g).0, marks_after t (move_to x c) m long (object_below, tt) ∙ (k.named t g).1))

  -- ---- a thing is marked and, for a task, its objects

  module _ (x : ℕ) where
    -- y is x, or one of its objects
    abbrev Own : ℕ → Type 0
    Own y = (y ≡ x) ⊎ ((task m x ≡ true) × (object m y ≡ true) × (driver_of m y ≡ x))

    abbrev own : ℕ → Bool
    own y = eqb y x || (task m x && object_of m x y)

    is_own : (y : ℕ) → own y ≡ true → Own y
    unfolding object_of
    is_own y h =
        ⊎_elim (λ e. inl (eqb-true y x e))
        (λ (g : (task m x && (object m y && eqb (driver_of m y) x)) ≡ true). let t = simp and-eq-true_iff at g in inr (t.0, t.1.0, eqb-true (driver_of m y) x t.1.1))
        (or_cases (eqb y x) _ h)

    own_is : (y : ℕ) → Own y → own y ≡ true
    unfolding object_of
    own_is y (inl e) = or_l (eqb y x) _ (eq-eqb y x e)
    own_is y (inr t) = or_r (eqb y x) _ (and_i t.0 (and_i t.1 (eq-eqb (driver_of m y) x t.2)))

    -- the objects of what is x's own are x's own, and at or below x
    own_driven : (y : ℕ) → y < numbers_of size → object m y ≡ true → Own (driver_of m y) → Own y
    own_driven y l h (inl d) = inr (ap (task m) (sym d) ∙ (k.bounded y l).driver_task h, h, d)
    own_driven y l h (inr t) = absurd (true≢false (sym ((k.bounded y l).driver_task h) ∙ object_task m (driver_of m y) t.1))

    own_covered : (us : List ℕ) → Covered (standing o m us) (level_of m x) → (y : ℕ) → y < numbers_of size → Own y → Covered (standing o m us) (level_of m y)
    own_covered us c y l (inl e) = rw e c
    own_covered us c y l (inr t) = covered_below (standing o m us) ok _ _ ((k.bounded y l).driver_above t.1) (rw t.2 c)

    marking_keeps : (e : Effect) (us : List ℕ) → ((y : ℕ) → y < numbers_of size → marked (effect e m) y ≡ (marked m y || own y))
        → (effect e m).words ≡ m.words
        → ((y f : ℕ) → f < 4 → field (effect e m).bytes y f ≡ field m.bytes y f)
        → ((t : ℕ) → Memᴰ t s.outside → Memᴰ t us)
        → Covered (standing o m us) (level_of m x)
        → ((t : ℕ) → Memᴰ t us → (task m t ≡ true) × (records.marks (effect e m).bytes t ≡ 3))
        → Limits (standing o (effect e m) us)
    marking_keeps e us marks words kept more covered named =
        marks_limits o m (effect e m) s.outside us k words kept (λ y l h. marks y l ∙ or_l (marked m y) (own y) h) more (effect_bytes e m)
        (λ y l h. ⊎_elim
        (λ g. let c = (k.bounded y l).mark_covered g in (c.0, more c.0 c.1, c.2, c.3))
        (λ g. own_covered us covered y l (is_own y g))
        (or_cases (marked m y) (own y) (sym (marks y l) ∙ h)))
        (λ y l h g.
        let d = driver_of m y in
        marks y l ∙ ⊎_elim
        (λ p. or_l (marked m y) (own y) ((k.bounded y l).driven_marked h p))
        (λ p. or_r (marked m y) (own y) (own_is y (own_driven y l h (is_own d p))))
        (or_cases (marked m d) (own d) (sym (marks d (below d (task_used m d ((k.bounded y l).driver_task h)))) ∙ g)))
        named

  thing_keeps : (x : ℕ) → Covered s (level_of m x) → Limits (after s (mark_thing x))
  unfolding effect
  thing_keeps x c =
      marking_keeps x (mark_thing x) s.outside (λ y l. thing_marked y m long l x) (where_words _ m)
      (λ y f lf. where_field _ m y f (omega arith) (omega arith)) (λ t h. h) c
      (λ t h. let j = k.named t h in (j.0, where_kept _ m t (outside_mark m t j.1) ∙ j.1))

  -- e is named, so it covers itself
  pub outside_keeps : (e : ℕ) → task m e ≡ true → at_or_below o (level_of m e) (level_of m e) ≡ true → Limits (standing o (effect (mark_outside e) m) (e ∷ s.outside))
  unfolding effect
  outside_keeps e t self =
      marking_keeps e (mark_outside e) (e ∷ s.outside) (λ y l. outside_marked y m long l e (below e u) ∙ rw t) (where_words _ _)
      (λ y f lf. byte_after_law (λ b. b) y f (omega arith) (mark_outside e) m long (below e u) (omega arith)) (λ t h. Memᴰ.tail h)
      (e, Memᴰ.head refl, t, self) (λ y h. ⊎_elim (first y) (earlier y) (Memᴰ.cases_cons h))
    where
      u : in_use m e ≡ true
      u = task_used m e t

      marks : (y : ℕ) → task m y ≡ true → records.marks (effect (mark_outside e) m).bytes y ≡ cond (eqb y e) 3 (cond (object_of m e y && not (marked m y)) 1 (records.marks m.bytes y))
      marks y h = outside_marks y m long (below y (task_used m y h)) e (below e u)

      first : (y : ℕ) → y ≡ e → (task m y ≡ true) × (records.marks (effect (mark_outside e) m).bytes y ≡ 3)
      first y d = let h = ap (task m) d ∙ t in (h, marks y h ∙ rw (eq-eqb y e d))

      still : (a b : Bool) → ◌≡◌ {A = ℕ} (cond a 3 (cond (b && false) 1 3)) 3
      still true b = refl
      still false true = refl
      still false false = refl

      earlier : (y : ℕ) → Memᴰ y s.outside → (task m y ≡ true) × (records.marks (effect (mark_outside e) m).bytes y ≡ 3)
      earlier y h =
          let j = k.named y h in
          (j.0, marks y j.0 ∙ rw (outside_mark m y j.1, j.1) (still (eqb y e) (object_of m e y)))

  -- ---- each effect, and a list of them

  pub effect_keeps : (e : Effect) → Allowed s e → Limits (after s e)
  unfolding effect
  effect_keeps (flow x y) a = record_keeps flows x y a
  effect_keeps (flow_if true x y) a = record_keeps flows x y (a refl)
  effect_keeps (flow_if false x y) a = k
  effect_keeps (read_access z x) a = record_keeps reads z x a
  effect_keeps (write_access z x) a = record_keeps writes z x a
  effect_keeps (make_task n l r) a = task_keeps n l r a.0 a.1
  effect_keeps (make_object n l d p b) a = object_keeps n l d p b a
  effect_keeps (move_to x c) a = move_keeps x a c
  effect_keeps (bridge x) a = bridge_keeps x a
  effect_keeps (clear x) a = clear_keeps x a
  effect_keeps (mark_outside e) a = absurd a
  effect_keeps (mark_thing x) a = thing_keeps x a

pub effects_keep : {size : Size} (s : StandingOf size) → IsOrder s.order → Limits s → (es : List Effect) → AllAllowed s es → Limits (standing s.order (effects es s.memory) s.outside)
unfolding effects
effects_keep s ok k [] a = k
effects_keep s ok k (e ∷ es) a = effects_keep (after s e) ok (effect_keeps s ok k e a.0) es a.1
