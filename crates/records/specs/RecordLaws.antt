-- What sound bytes give at each number, and what a store does to each field.
-- Assumes nothing.
use Rattle.std.specs.Prelude.{◌≡◌, ◌⊎◌, Bool, true, false, not, cond, ◌||◌, List, length, ℕ, ◌+◌, ◌*◌, ◌<◌, ◌≤◌, ltb, eqb}
use Rattle.std.proofs.Common.{sym, ap, ◌∙◌, inl, inr, ⊎_elim, lt_of_not-le, arith, length-set, get_or-set_same, get_or-set_other, eqb-true, eq-eqb, ne_eqb, ltb-true, ltb-false, lt-ltb}
use Rattle.std.proofs.lemmas.Bool.{eqb-false, not-true}
use Rattle.std.proofs.Math.Bool.{and-eq-true_iff}
use Rattle.std.proofs.Math.ListN.{get_or-eq_default}
use Rattle.bits.specs.AllLaws.{all_at, all_i, all_fails, and_i, either, or_cases, or_l, or_r, or_false}
use Rattle.rows.specs.Size.{Size, numbers_of}
use Rattle.levels.specs.declared.Order.{Order}
use Rattle.records.specs.Records.{record_size, field, set_field, set_record, kind, level, read_level, driver, container, marks, first_spare, last_spare, is_task, is_object, root, container_byte, spare_byte, is_root, in_another, free_record, task_record, object_record_of, sound_record_of, core_record, sound_of, lent_bytes}

-- ---- a number that is one of two or three

pub one_of_two : (m a b : ℕ) → (eqb m a || eqb m b) ≡ true → (m ≡ a) ⊎ (m ≡ b)
one_of_two m a b e = ⊎_elim (λ h. inl (eqb-true m a h)) (λ h. inr (eqb-true m b h)) (or_cases (eqb m a) (eqb m b) e)

pub two_of : (m a b : ℕ) → (m ≡ a) ⊎ (m ≡ b) → (eqb m a || eqb m b) ≡ true
two_of m a b (inl h) = or_l (eqb m a) (eqb m b) (eq-eqb m a h)
two_of m a b (inr h) = or_r (eqb m a) (eqb m b) (eq-eqb m b h)

pub one_of_three : (m a b c : ℕ) → (eqb m a || eqb m b || eqb m c) ≡ true → ((m ≡ a) ⊎ (m ≡ b)) ⊎ (m ≡ c)
one_of_three m a b c e = ⊎_elim (λ h. inl (one_of_two m a b h)) (λ h. inr (eqb-true m c h)) (or_cases (eqb m a || eqb m b) (eqb m c) e)

pub three_of : (m a b c : ℕ) → ((m ≡ a) ⊎ (m ≡ b)) ⊎ (m ≡ c) → (eqb m a || eqb m b || eqb m c) ≡ true
three_of m a b c (inl h) = or_l (eqb m a || eqb m b) (eqb m c) (two_of m a b h)
three_of m a b c (inr h) = or_r (eqb m a || eqb m b) (eqb m c) (eq-eqb m c h)

-- ---- a record past the end is all zeros
pub field_past : (size : Size) (bs : List ℕ) (x f : ℕ) → length bs ≡ lent_bytes size → numbers_of size ≤ x → field bs x f ≡ 0
unfolding field
field_past size bs x f e l = get_or-eq_default bs 0 (omega arith)

-- ---- the kind says which test a record has to pass

module _ (o : Order) (bs : List ℕ) (x : ℕ) where
  not_free : (kind bs x ≡ 0 → ⊥) → free_record bs x ≡ false
  unfolding free_record
  not_free n = all_fails record_size (λ f. eqb (field bs x f) 0) 0 (omega arith) (ne_eqb _ _ n)

  not_task : (kind bs x ≡ 1 → ⊥) → task_record o bs x ≡ false
  unfolding task_record is_task
  not_task n = simp (ne_eqb (kind bs x) 1 n)

module _ (size : Size) (o : Order) (bs : List ℕ) (x : ℕ) where
  not_object : (kind bs x ≡ 2 → ⊥) → object_record_of size o bs x ≡ false
  unfolding object_record_of is_object
  not_object n = simp (ne_eqb (kind bs x) 2 n)

  pub sound_task : kind bs x ≡ 1 → sound_record_of size o bs x ≡ task_record o bs x
  unfolding sound_record_of
  sound_task e = simp (not_free o bs x (omega arith), not_object (omega arith)) (or_false (task_record o bs x))

  pub sound_object : kind bs x ≡ 2 → sound_record_of size o bs x ≡ object_record_of size o bs x
  unfolding sound_record_of
  sound_object e = simp (not_free o bs x (omega arith), not_task o bs x (omega arith))

  pub sound_else : (kind bs x ≡ 1 → ⊥) → (kind bs x ≡ 2 → ⊥) → sound_record_of size o bs x ≡ free_record bs x
  unfolding sound_record_of
  sound_else t n = simp (not_task o bs x t, not_object n) (ap (λ (b : Bool). b || false) (or_false (free_record bs x)) ∙ or_false (free_record bs x))

-- ---- what the records that pass say, and what it takes to pass

pub record TaskFacts (o : Order) (bs : List ℕ) (x : ℕ) : Type 0 where
  pub level_in : level bs x < o.count
  pub read_in : read_level bs x < o.count
  pub no_driver : driver bs x ≡ 0
  pub no_container : container bs x ≡ 0
  pub marking : ((marks bs x ≡ 0) ⊎ (marks bs x ≡ 1)) ⊎ (marks bs x ≡ 3)
  pub spare_first : first_spare bs x ≡ 0
  pub spare_last : last_spare bs x ≡ 0

-- a root, or within another object
abbrev pub Placed : Size → List ℕ → ℕ → Type 0
Placed size bs x =
    ((container bs x ≡ container_byte root size) × (first_spare bs x ≡ spare_byte root size))
    ⊎ ((first_spare bs x ≡ 0) × (kind bs (container bs x) ≡ 2) × (container bs x ≡ x → ⊥))

pub record ObjectFacts (size : Size) (o : Order) (bs : List ℕ) (x : ℕ) : Type 0 where
  pub level_in : level bs x < o.count
  pub no_read : read_level bs x ≡ 0
  pub driven : kind bs (driver bs x) ≡ 1
  pub placing : Placed size bs x
  pub marking : (marks bs x ≡ 0) ⊎ (marks bs x ≡ 1)
  pub spare_last : last_spare bs x ≡ 0

module _ (bs : List ℕ) (x : ℕ) where
  pub free_facts : free_record bs x ≡ true → (f : ℕ) → f < record_size → field bs x f ≡ 0
  unfolding free_record
  free_facts h f l = eqb-true _ _ (all_at record_size (λ f. eqb (field bs x f) 0) h f l)

module _ (o : Order) (bs : List ℕ) (x : ℕ) where
  task_facts_of : task_record o bs x ≡ true → TaskFacts o bs x
  unfolding task_record
  task_facts_of h =
      let p = simp and-eq-true_iff at h in
      record {
        level_in = ltb-true _ _ p.0.0.0.0.0.0.1;
        read_in = ltb-true _ _ p.0.0.0.0.0.1;
        no_driver = eqb-true _ _ p.0.0.0.0.1;
        no_container = eqb-true _ _ p.0.0.0.1;
        marking = one_of_three _ 0 1 3 p.0.0.1;
        spare_first = eqb-true _ _ p.0.1;
        spare_last = eqb-true _ _ p.1;
      }

module _ (size : Size) (bs : List ℕ) (x : ℕ) where
  placed_facts : (is_root size bs x || in_another bs x) ≡ true → Placed size bs x
  unfolding is_object
  placed_facts h =
      ⊎_elim
      (λ e. let p = simp and-eq-true_iff at e in inl (eqb-true _ _ p.0, eqb-true _ _ p.1))
      (λ e. let p = simp and-eq-true_iff at e in inr (eqb-true _ _ p.0.0, eqb-true _ _ p.0.1, eqb-false _ _ (not-true _ p.1)))
      (or_cases (is_root size bs x) (in_another bs x) h)

  placed_passes : Placed size bs x → (is_root size bs x || in_another bs x) ≡ true
  unfolding is_object
  placed_passes (inl p) = or_l (is_root size bs x) (in_another bs x) (and_i (eq-eqb _ _ p.0) (eq-eqb _ _ p.1))
  placed_passes (inr p) =
      or_r (is_root size bs x) (in_another bs x)
      (and_i (and_i (eq-eqb _ _ p.0) (eq-eqb _ _ p.1)) (ap not (ne_eqb (container bs x) x p.2)))

module _ (size : Size) (o : Order) (bs : List ℕ) (x : ℕ) where
  pub free_passes : ((f : ℕ) → f < record_size → field bs x f ≡ 0) → sound_record_of size o bs x ≡ true
  unfolding sound_record_of free_record
  free_passes h =
      or_l (free_record bs x || task_record o bs x) (object_record_of size o bs x)
      (or_l (free_record bs x) (task_record o bs x) (all_i record_size (λ f. eqb (field bs x f) 0) (λ f l. eq-eqb _ _ (h f l))))

  pub task_passes : kind bs x ≡ 1 → TaskFacts o bs x → sound_record_of size o bs x ≡ true
  unfolding task_record is_task
  task_passes e t =
      sound_task size o bs x e
      ∙ simp and-eq-true_iff (
        ((((((eq-eqb _ _ e, lt-ltb _ _ t.level_in), lt-ltb _ _ t.read_in), eq-eqb _ _ t.no_driver), eq-eqb _ _ t.no_container), three_of _ 0 1 3 t.marking), eq-eqb _ _ t.spare_first),
        eq-eqb _ _ t.spare_last,
      )

  object_facts_of : object_record_of size o bs x ≡ true → ObjectFacts size o bs x
  unfolding object_record_of is_task is_object
  object_facts_of h =
      let p = simp and-eq-true_iff at h in
      record {
        level_in = ltb-true _ _ p.0.0.0.0.0.1;
        no_read = eqb-true _ _ p.0.0.0.0.1;
        driven = eqb-true _ _ p.0.0.0.1;
        placing = placed_facts size bs x p.0.0.1;
        marking = one_of_two _ 0 1 p.0.1;
        spare_last = eqb-true _ _ p.1;
      }

  pub object_passes : kind bs x ≡ 2 → ObjectFacts size o bs x → sound_record_of size o bs x ≡ true
  unfolding object_record_of is_task is_object
  object_passes e t =
      sound_object size o bs x e
      ∙ simp and-eq-true_iff (
        (((((eq-eqb _ _ e, lt-ltb _ _ t.level_in), eq-eqb _ _ t.no_read), eq-eqb _ _ t.driven), placed_passes size bs x t.placing), two_of _ 0 1 t.marking),
        eq-eqb _ _ t.spare_last,
      )

-- ---- a sound record, by its kind

module _ (size : Size) (o : Order) (bs : List ℕ) (x : ℕ) (h : sound_record_of size o bs x ≡ true) where
  pub free_at : (kind bs x ≡ 1 → ⊥) → (kind bs x ≡ 2 → ⊥) → (f : ℕ) → f < record_size → field bs x f ≡ 0
  free_at t n = free_facts bs x (sym (sound_else size o bs x t n) ∙ h)

  pub task_at_law : kind bs x ≡ 1 → TaskFacts o bs x
  task_at_law e = task_facts_of o bs x (sym (sound_task size o bs x e) ∙ h)

  pub object_at_law : kind bs x ≡ 2 → ObjectFacts size o bs x
  object_at_law e = object_facts_of size o bs x (sym (sound_object size o bs x e) ∙ h)

  pub kind_at : ((kind bs x ≡ 0) ⊎ (kind bs x ≡ 1)) ⊎ (kind bs x ≡ 2)
  kind_at =
      ⊎_elim
      (λ t. inl (inr (eqb-true _ _ t)))
      (λ t. ⊎_elim
      (λ n. inr (eqb-true _ _ n))
      (λ n. inl (inl (free_at (eqb-false _ _ t) (eqb-false _ _ n) 0 (omega arith))))
      (either (eqb (kind bs x) 2)))
      (either (eqb (kind bs x) 1))

-- ---- sound bytes

module _ (size : Size) (o : Order) (bs : List ℕ) where
  pub sound_i : length bs ≡ lent_bytes size → core_record o bs ≡ true → ((x : ℕ) → x < numbers_of size → sound_record_of size o bs x ≡ true) → sound_of size o bs ≡ true
  unfolding sound_of
  sound_i long core each = and_i (and_i (eq-eqb _ _ long) core) (all_i (numbers_of size) (λ x. sound_record_of size o bs x) each)

module _ (size : Size) (o : Order) (bs : List ℕ) (ok : sound_of size o bs ≡ true) where
  pub long : length bs ≡ lent_bytes size
  unfolding sound_of
  long = eqb-true _ _ (simp and-eq-true_iff at ok).0.0

  pub core_at : core_record o bs ≡ true
  unfolding sound_of
  core_at = (simp and-eq-true_iff at ok).0.1

  pub record_at_law : (x : ℕ) → x < numbers_of size → sound_record_of size o bs x ≡ true
  unfolding sound_of
  record_at_law x l = all_at (numbers_of size) (λ x. sound_record_of size o bs x) (simp and-eq-true_iff at ok).1 x l

  -- number 0 is a task at the top level
  pub core_task : kind bs 0 ≡ 1
  unfolding core_record is_task
  core_task = eqb-true _ _ (simp and-eq-true_iff at core_at).0

  pub core_top : level bs 0 ≡ o.top
  unfolding core_record
  core_top = eqb-true _ _ (simp and-eq-true_iff at core_at).1

  -- a number in use is one of the numbers
  pub in_use_law : (x : ℕ) → (kind bs x ≡ 0 → ⊥) → x < numbers_of size
  in_use_law x n = lt_of_not-le (λ (h : numbers_of size ≤ x). n (field_past size bs x 0 long h))

  pub task_facts : (x : ℕ) → kind bs x ≡ 1 → TaskFacts o bs x
  task_facts x e = task_at_law size o bs x (record_at_law x (in_use_law x (omega arith))) e

  pub object_facts : (x : ℕ) → kind bs x ≡ 2 → ObjectFacts size o bs x
  object_facts x e = object_at_law size o bs x (record_at_law x (in_use_law x (omega arith))) e

  -- a free number has eight zeros, and so has a number past the end
  pub free_fields : (x : ℕ) → kind bs x ≡ 0 → (f : ℕ) → f < record_size → field bs x f ≡ 0
  free_fields x e f l =
      ⊎_elim
      (λ b. free_at size o bs x (record_at_law x (ltb-true _ _ b)) (omega arith) (omega arith) f l)
      (λ p. field_past size bs x f long (ltb-false _ _ p))
      (either (ltb x (numbers_of size)))

  -- free, a task or an object
  pub kinds : (x : ℕ) → ((kind bs x ≡ 0) ⊎ (kind bs x ≡ 1)) ⊎ (kind bs x ≡ 2)
  kinds x =
      ⊎_elim (λ b. kind_at size o bs x (record_at_law x (ltb-true _ _ b))) (λ p. inl (inl (field_past size bs x 0 long (ltb-false _ _ p)))) (either (ltb x (numbers_of size)))

  -- every level and read level is in the order, those of free numbers and of numbers past the end too
  some_level : 0 < o.count
  some_level = let h = (task_facts 0 core_task).level_in in omega arith

  pub level_below : (x : ℕ) → level bs x < o.count
  level_below x =
      ⊎_elim (⊎_elim (λ z. rw (free_fields x z 1 (omega arith)) some_level) (λ t. (task_facts x t).level_in)) (λ t. (object_facts x t).level_in) (kinds x)

  pub read_below : (x : ℕ) → read_level bs x < o.count
  read_below x =
      ⊎_elim (⊎_elim (λ z. rw (free_fields x z 2 (omega arith)) some_level) (λ t. (task_facts x t).read_in)) (λ t. rw (object_facts x t).no_read some_level) (kinds x)

-- ---- stores

pub field_same : (bs : List ℕ) (x f v : ℕ) → record_size * x + f < length bs → field (set_field bs x f v) x f ≡ v
unfolding field set_field
field_same bs x f v h = get_or-set_same bs (record_size * x + f) v 0 h

-- another record, or another field
pub field_else : (bs : List ℕ) (x f v x' f' : ℕ) → f < record_size → f' < record_size → (x' ≡ x → ⊥) ⊎ (f' ≡ f → ⊥) → field (set_field bs x f v) x' f' ≡ field bs x' f'
unfolding field set_field
field_else bs x f v x' f' l l' n = get_or-set_other bs (record_size * x + f) (record_size * x' + f') v 0 (λ e. ⊎_elim (λ m. m (omega arith)) (λ m. m (omega arith)) n)

pub length_field : (bs : List ℕ) (x f v : ℕ) → length (set_field bs x f v) ≡ length bs
unfolding set_field
length_field bs x f v = length-set bs _ _

-- ---- the whole record

-- the record of x has these fields, and zero in the last byte
pub record Fields (bs : List ℕ) (x k l r d c m s : ℕ) : Type 0 where
  pub kind_is : kind bs x ≡ k
  pub level_is : level bs x ≡ l
  pub read_is : read_level bs x ≡ r
  pub driver_is : driver bs x ≡ d
  pub container_is : container bs x ≡ c
  pub marks_are : marks bs x ≡ m
  pub first_is : first_spare bs x ≡ s
  pub last_is : last_spare bs x ≡ 0

module _ (bs : List ℕ) (x k l r d c m s : ℕ) where
  pub length_record : length (set_record bs x k l r d c m s) ≡ length bs
  unfolding set_record
  length_record = simp length_field

  -- another record
  pub record_else : (x' f : ℕ) → (x' ≡ x → ⊥) → f < record_size → field (set_record bs x k l r d c m s) x' f ≡ field bs x' f
  unfolding set_record
  record_else x' f n h = simp step
    where
      step : (b : List ℕ) (g v : ℕ) → ltb g record_size ≡ true → field (set_field b x g v) x' f ≡ field b x' f
      step b g v e = field_else b x g v x' f (ltb-true g record_size e) h (inl n)

  pub record_same : (size : Size) → length bs ≡ lent_bytes size → x < numbers_of size → Fields (set_record bs x k l r d c m s) x k l r d c m s
  unfolding set_record
  record_same size e h =
      record {
        kind_is = simp (put, length_field, e);
        level_is = simp (put, length_field, e);
        read_is = simp (put, length_field, e);
        driver_is = simp (put, length_field, e);
        container_is = simp (put, length_field, e);
        marks_are = simp (put, length_field, e);
        first_is = simp (put, length_field, e);
        last_is = simp (put, length_field, e);
      }
    where
      put : (b : List ℕ) (g v f : ℕ) → length b ≡ lent_bytes size → ltb g record_size ≡ true → ltb f record_size ≡ true → field (set_field b x g v) x f ≡ cond (eqb f g) v (field b x f)
      put b g v f w p q = ⊎_elim
          (λ (t : eqb f g ≡ true). rw (t, eqb-true f g t) (field_same b x g v (omega (arith, ltb-true))))
          (λ (t : eqb f g ≡ false). rw t (field_else b x g v x f (ltb-true _ _ p) (ltb-true _ _ q) (inr (eqb-false f g t))))
          (either (eqb f g))
