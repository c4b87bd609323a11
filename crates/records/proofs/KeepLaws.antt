-- What keeps the bytes sound: a change at one number, where that number stays what the others need.
-- Assumes nothing.
use Rattle.std.proofs.Common.{◌≡◌, ◌⊎◌, refl, sym, ap, ◌∙◌, inl, inr, ⊎_elim, true, false, List, ℕ, ◌+◌, ◌*◌, ◌<◌, ◌≤◌, ltb, eqb, length, replicate, arith, eqb-true, eq-eqb, ne_eqb, ltb-true, ltb-false}
use Rattle.std.proofs.lemmas.Bool.{false≢true, eqb-false}
use Rattle.std.proofs.lemmas.List.{length-replicate, get_or-replicate}
use Rattle.std.proofs.Math.ListN.{get_or-eq_default}
use Rattle.bits.specs.All.{all_b}
use Rattle.bits.specs.AllLaws.{and_i, and_l, either}
use Rattle.rows.proofs.RowLaws.{some_number}
use Rattle.rows.specs.Size.{Size, small, large, numbers_of}
use Rattle.levels.specs.declared.Order.{Order}
use Rattle.records.specs.Records.{record_size, field, set_field, set_record, kind, level, driver, container, marks, first_spare, is_task, is_object, Place, root, within, container_byte, spare_byte, is_root, lies_within, free_record, sound_record_of, core_record, sound_of, lent_bytes}
use Rattle.records.specs.RecordLaws.{TaskFacts, ObjectFacts, Placed, Fields, field_past, free_at, task_at_law, object_at_law, kind_at, sound_else, free_passes, task_passes, object_passes, sound_i, long, core_at, record_at_law, core_task, in_use_law, task_facts, object_facts, kinds, field_same, field_else, length_field, length_record, record_else, record_same}

-- ---- what a record's soundness sees: its own fields, and the kinds of its driver and its container

-- its container and marks aside, the record of x is in bs' as it was in bs
module _ (size : Size) (o : Order) (bs bs' : List ℕ) (x : ℕ)
    (same : (g : ℕ) → ltb g record_size ≡ true → eqb g 4 ≡ false → eqb g 5 ≡ false → field bs' x g ≡ field bs x g) where
  task_anew : kind bs x ≡ 1 → TaskFacts o bs x → container bs' x ≡ 0 → ((marks bs' x ≡ 0) ⊎ (marks bs' x ≡ 1)) ⊎ (marks bs' x ≡ 3) → sound_record_of size o bs' x ≡ true
  task_anew e t c m =
      task_passes size o bs' x (simp same e) record {
        level_in = simp same t.level_in;
        read_in = simp same t.read_in;
        no_driver = simp same t.no_driver;
        no_container = c;
        marking = m;
        spare_first = simp same t.spare_first;
        spare_last = simp same t.spare_last;
      }

  object_anew : kind bs x ≡ 2 → ObjectFacts size o bs x → kind bs' (driver bs x) ≡ 1
      → Placed size bs' x → (marks bs' x ≡ 0) ⊎ (marks bs' x ≡ 1)
      → sound_record_of size o bs' x ≡ true
  object_anew e t d p m =
      object_passes size o bs' x (simp same e) record {
        level_in = simp same t.level_in;
        no_read = simp same t.no_read;
        driven = simp same d;
        placing = p;
        marking = m;
        spare_last = simp same t.spare_last;
      }

-- where a container stays an object, what is placed stays so
placed_sees : (size : Size) (bs bs' : List ℕ) (x : ℕ) → container bs' x ≡ container bs x → first_spare bs' x ≡ first_spare bs x
    → (kind bs (container bs x) ≡ 2 → kind bs' (container bs x) ≡ 2) → Placed size bs x → Placed size bs' x
placed_sees size bs bs' x c f object h = rw (c, f) (⊎_elim inl (λ q. inr (q.0, object q.1, q.2)) h)

record_sees : (size : Size) (o : Order) (bs bs' : List ℕ) (x : ℕ)
    → ((f : ℕ) → f < record_size → field bs' x f ≡ field bs x f)
    → (kind bs (driver bs x) ≡ 1 → kind bs' (driver bs x) ≡ 1)
    → (kind bs x ≡ 2 → kind bs (container bs x) ≡ 2 → kind bs' (container bs x) ≡ 2)
    → sound_record_of size o bs x ≡ true
    → sound_record_of size o bs' x ≡ true
record_sees size o bs bs' x same task object h = go (kind_at size o bs x h)
  where
    at : (f : ℕ) → ltb f record_size ≡ true → field bs' x f ≡ field bs x f
    at f l = same f (ltb-true f record_size l)

    go : ((kind bs x ≡ 0) ⊎ (kind bs x ≡ 1)) ⊎ (kind bs x ≡ 2) → sound_record_of size o bs' x ≡ true
    go (inl (inl e)) = free_passes size o bs' x (λ f l. same f l ∙ free_at size o bs x h (omega arith) (omega arith) f l)
    go (inl (inr e)) = let t = task_at_law size o bs x h e in task_anew size o bs bs' x (λ g l p q. at g l) e t (simp at t.no_container) (simp at t.marking)
    go (inr e) =
        let t = object_at_law size o bs x h e in
        object_anew size o bs bs' x (λ g l p q. at g l) e t (task t.driven) (placed_sees size bs bs' x (same 4 (omega arith)) (same 6 (omega arith)) (object e) t.placing) (simp at t.marking)

-- ---- a change at y alone: what was a task stays one, and so does an object that is a container
module _ (size : Size) (o : Order) (bs bs' : List ℕ) (y : ℕ)
    (else : (x f : ℕ) → (x ≡ y → ⊥) → f < record_size → field bs' x f ≡ field bs x f)
    (task : kind bs y ≡ 1 → kind bs' y ≡ 1)
    (object : (x : ℕ) → kind bs x ≡ 2 → container bs x ≡ y → kind bs y ≡ 2 → kind bs' y ≡ 2) where
  kind_stays : (z v : ℕ) → (z ≡ y → kind bs y ≡ v → kind bs' y ≡ v) → kind bs z ≡ v → kind bs' z ≡ v
  kind_stays z v h e =
      ⊎_elim
      (λ t. let q = eqb-true z y t in rw q (h q (rw q at e)))
      (λ t. else z 0 (eqb-false z y t) (omega arith) ∙ e)
      (either (eqb z y))

  other_kept : (x : ℕ) → (x ≡ y → ⊥) → sound_record_of size o bs x ≡ true → sound_record_of size o bs' x ≡ true
  other_kept x n =
      record_sees size o bs bs' x (λ f l. else x f n l) (kind_stays (driver bs x) 1 (λ q. task)) (λ k. kind_stays (container bs x) 2 (object x k))

  each_kept : ((x : ℕ) → x < numbers_of size → (x ≡ y → ⊥) → sound_record_of size o bs x ≡ true) → sound_record_of size o bs' y ≡ true → (x : ℕ) → x < numbers_of size → sound_record_of size o bs' x ≡ true
  each_kept each here x l =
      ⊎_elim
      (λ t. rw (eqb-true x y t) here)
      (λ t. other_kept x (eqb-false x y t) (each x l (eqb-false x y t)))
      (either (eqb x y))

-- eight zeros make a free number
zeros_pass : (size : Size) (o : Order) (bs : List ℕ) (x : ℕ) → Fields bs x 0 0 0 0 0 0 0 → sound_record_of size o bs x ≡ true
unfolding free_record all_b
zeros_pass size o bs x w =
    sound_else size o bs x (omega (arith, w.kind_is)) (omega (arith, w.kind_is))
    ∙ simp (w.kind_is, w.level_is, w.read_is, w.driver_is, w.container_is, w.marks_are, w.first_is, w.last_is)

-- an unmarked task
plain_task : (size : Size) (o : Order) (bs : List ℕ) (x l r : ℕ) → Fields bs x 1 l r 0 0 0 0 → l < o.count → r < o.count → sound_record_of size o bs x ≡ true
plain_task size o bs x l r w hl hr =
    task_passes size o bs x w.kind_is record {
      level_in = rw w.level_is hl;
      read_in = rw w.read_is hr;
      no_driver = w.driver_is;
      no_container = w.container_is;
      marking = inl (inl w.marks_are);
      spare_first = w.first_is;
      spare_last = w.last_is;
    }

core_kept : (o : Order) (bs bs' : List ℕ) → kind bs' 0 ≡ kind bs 0 → level bs' 0 ≡ level bs 0 → core_record o bs ≡ true → core_record o bs' ≡ true
unfolding core_record is_task
core_kept o bs bs' k l h = rw (k, l) h

-- a root, or within an object
abbrev pub PlaceFits : List ℕ → Place → Type 0
PlaceFits bs root = Unit {0}
PlaceFits bs (within c) = is_object bs c ≡ true

-- v at field f of y, and else the fields of y and all kinds as they were
record Stored (bs bs' : List ℕ) (y f v : ℕ) : Type 0 where
  there : field bs' y f ≡ v
  rest : (g : ℕ) → ltb g record_size ≡ true → eqb g f ≡ false → field bs' y g ≡ field bs y g
  kind_of : (z : ℕ) → kind bs' z ≡ kind bs z

module _ (size : Size) (o : Order) (bs : List ℕ) (ok : sound_of size o bs ≡ true) where
  -- ---- the record of a number that is no task

  module _ (bs' : List ℕ) (y : ℕ) (len : length bs' ≡ length bs) (else : (x f : ℕ) → (x ≡ y → ⊥) → f < record_size → field bs' x f ≡ field bs x f)
      (no_task : kind bs y ≡ 1 → ⊥) (object : (x : ℕ) → kind bs x ≡ 2 → container bs x ≡ y → kind bs y ≡ 2 → kind bs' y ≡ 2) where
    record_kept : sound_record_of size o bs' y ≡ true → sound_of size o bs' ≡ true
    record_kept here =
        let core : 0 ≡ y → ⊥ = λ e. no_task (ap (λ (z : ℕ). kind bs z) (sym e) ∙ core_task size o bs ok) in
        sound_i size o _ (len ∙ long size o bs ok)
        (core_kept o bs _ (else 0 0 core (omega arith)) (else 0 1 core (omega arith)) (core_at size o bs ok))
        (each_kept size o bs _ y else (λ e. absurd (no_task e)) object (λ x lx n. record_at_law size o bs ok x lx) here)

  -- ---- a new task
  pub task_made : (n l r : ℕ) → n < numbers_of size → kind bs n ≡ 0 → l < o.count → r < o.count → sound_of size o (set_record bs n 1 l r 0 0 0 0) ≡ true
  task_made n l r ln e hl hr =
      record_kept _ n (length_record bs n 1 l r 0 0 0 0) (record_else bs n 1 l r 0 0 0 0) (omega arith) (λ x k q e2. absurd (omega arith))
      (plain_task size o _ n l r (record_same bs n 1 l r 0 0 0 0 size (long size o bs ok) ln) hl hr)

  -- ---- a new object
  pub object_made : (n l d m : ℕ) (p : Place) → n < numbers_of size → kind bs n ≡ 0 → l < o.count → kind bs d ≡ 1 → PlaceFits bs p → (m ≡ 0) ⊎ (m ≡ 1)
      → sound_of size o (set_record bs n 2 l 0 d (container_byte p size) m (spare_byte p size)) ≡ true
  unfolding is_object
  object_made n l d m p ln e hl hd hp hm =
      record_kept _ n (length_record bs n 2 l 0 d _ m _) (record_else bs n 2 l 0 d _ m _) (omega arith) (λ x k q e2. absurd (omega arith))
      (object_passes size o _ n w.kind_is record {
        level_in = rw w.level_is hl;
        no_read = w.read_is;
        driven = rw w.driver_is (stays d 1 hd (omega arith));
        placing = placing p hp refl;
        marking = rw w.marks_are hm;
        spare_last = w.last_is;
      })
    where
      after : List ℕ
      after = set_record bs n 2 l 0 d (container_byte p size) m (spare_byte p size)

      w : Fields after n 2 l 0 d (container_byte p size) m (spare_byte p size)
      w = record_same bs n 2 l 0 d _ m _ size (long size o bs ok) ln

      differs : (z v : ℕ) → kind bs z ≡ v → 0 < v → z ≡ n → ⊥
      differs z v h p q = let h2 = rw q at h in omega arith

      stays : (z v : ℕ) → kind bs z ≡ v → 0 < v → kind after z ≡ v
      stays z v h p = record_else bs n 2 l 0 d _ m _ z 0 (differs z v h p) (omega arith) ∙ h

      placing : (q : Place) → PlaceFits bs q → q ≡ p → Placed size after n
      placing root h f = inl (w.container_is ∙ ap (λ (q : Place). container_byte q size) (sym f), w.first_is ∙ ap (λ (q : Place). spare_byte q size) (sym f))
      placing (within c) h f =
          let there : container after n ≡ c = w.container_is ∙ ap (λ (q : Place). container_byte q size) (sym f) in
          let k = eqb-true _ 2 h in
          inr (w.first_is ∙ ap (λ (q : Place). spare_byte q size) (sym f), rw there (stays c 2 k (omega arith)), rw there (differs c 2 k (omega arith)))

  -- ---- places

  -- the container byte of a root is no object's number
  pub root_byte : (z : Size) → z ≡ size → kind bs (container_byte root z) ≡ 2 → ⊥
  root_byte small q h = omega (arith, field_past size bs (container_byte root small) 0 (long size o bs ok) (rw (← q) (omega arith)))
  root_byte large q h = omega (arith, core_task size o bs ok)

  -- so an object lies in the object that its container byte names, and in no other
  pub lies_in_law : (x k : ℕ) → kind bs k ≡ 2 → lies_within size bs x k ≡ eqb (container bs x) k
  unfolding lies_within
  lies_in_law x k h = ⊎_elim (λ r. rw r (sym (ne_eqb _ _ (λ q. not_root r q)))) (λ r. rw r) (either (is_root size bs x))
    where
      not_root : is_root size bs x ≡ true → container bs x ≡ k → ⊥
      not_root r q = root_byte size refl (ap (λ (y : ℕ). kind bs y) (sym (eqb-true _ _ (and_l _ _ r)) ∙ q) ∙ h)

  -- ---- an object cleared that is no object's container
  pub object_cleared : (y : ℕ) → kind bs y ≡ 2 → ((x : ℕ) → kind bs x ≡ 2 → lies_within size bs x y ≡ true → ⊥) → sound_of size o (set_record bs y 0 0 0 0 0 0 0) ≡ true
  object_cleared y e empty =
      let ly = in_use_law size o bs ok y (omega arith) in
      let w = record_same bs y 0 0 0 0 0 0 0 size (long size o bs ok) ly in
      record_kept _ y (length_record bs y 0 0 0 0 0 0 0) (record_else bs y 0 0 0 0 0 0 0) (omega arith) (λ x k q e2. absurd (empty x k (lies_in_law x y e ∙ eq-eqb _ _ q)))
      (zeros_pass size o _ y w)

  -- ---- one field behind kind and level

  module _ (y f v : ℕ) (ly : y < numbers_of size) (late : 2 ≤ f) (lf : f < record_size) where
    stored : Stored bs (set_field bs y f v) y f v
    stored =
        record {
          there = field_same bs y f v (omega (arith, long size o bs ok));
          rest = λ g l n. field_else bs y f v y g lf (ltb-true g record_size l) (inr (eqb-false g f n));
          kind_of = λ z. field_else bs y f v z 0 lf (omega arith) (inr (omega arith));
        }

    field_kept : sound_record_of size o (set_field bs y f v) y ≡ true → sound_of size o (set_field bs y f v) ≡ true
    field_kept here =
        sound_i size o _ (length_field bs y f v ∙ long size o bs ok)
        (core_kept o bs _ (stored.kind_of 0) (field_else bs y f v 0 1 lf (omega arith) (inr (omega arith))) (core_at size o bs ok))
        (each_kept size o bs _ y (λ x g n l. field_else bs y f v x g lf l (inl n)) (λ e. stored.kind_of y ∙ e) (λ x k q e. stored.kind_of y ∙ e) (λ x lx n. record_at_law size o bs ok x lx) here)

  -- ---- an object put from one container into another
  pub object_moved : (x f c : ℕ) → kind bs x ≡ 2 → lies_within size bs x f ≡ true → kind bs c ≡ 2 → (c ≡ x → ⊥) → sound_of size o (set_field bs x 4 c) ≡ true
  unfolding lies_within
  object_moved x f c e lies hc n =
      field_kept x 4 c lx (omega arith) (omega arith)
      (object_anew size o bs _ x (λ g l p q. s.rest g l p) e t (s.kind_of (driver bs x) ∙ t.driven) (placing t.placing) (simp s.rest t.marking))
    where
      lx : x < numbers_of size
      lx = in_use_law size o bs ok x (omega arith)

      s : Stored bs (set_field bs x 4 c) x 4 c
      s = stored x 4 c lx (omega arith) (omega arith)

      t : ObjectFacts size o bs x
      t = object_facts size o bs ok x e

      no_root : is_root size bs x ≡ true → ⊥
      no_root r = false≢true (rw r at lies)

      placing : Placed size bs x → Placed size (set_field bs x 4 c) x
      placing (inl p) = absurd (no_root (and_i (eq-eqb _ _ p.0) (eq-eqb _ _ p.1)))
      placing (inr p) = inr (simp s.rest p.0, rw s.there (s.kind_of c ∙ hc), rw s.there n)

  -- ---- a mark on a number in use: 1 on any, 3 on a task
  pub mark_kept : (x v : ℕ) → (kind bs x ≡ 0 → ⊥) → (v ≡ 1) ⊎ ((v ≡ 3) × (kind bs x ≡ 1)) → sound_of size o (set_field bs x 5 v) ≡ true
  mark_kept x v used hv = field_kept x 5 v lx (omega arith) (omega arith) (go (kinds size o bs ok x))
    where
      lx : x < numbers_of size
      lx = in_use_law size o bs ok x used

      s : Stored bs (set_field bs x 5 v) x 5 v
      s = stored x 5 v lx (omega arith) (omega arith)

      go : ((kind bs x ≡ 0) ⊎ (kind bs x ≡ 1)) ⊎ (kind bs x ≡ 2) → sound_record_of size o (set_field bs x 5 v) x ≡ true
      go (inl (inl e)) = absurd (used e)
      go (inl (inr e)) =
          let t = task_facts size o bs ok x e in
          task_anew size o bs _ x (λ g l p q. s.rest g l q) e t (simp s.rest t.no_container) (rw s.there (⊎_elim (λ q. inl (inr q)) (λ q. inr q.0) hv))
      go (inr e) =
          let t = object_facts size o bs ok x e in
          object_anew size o bs _ x (λ g l p q. s.rest g l q) e t (s.kind_of (driver bs x) ∙ t.driven) (placed_sees size bs _ x (simp s.rest) (simp s.rest) (λ k. s.kind_of _ ∙ k) t.placing) (rw s.there (⊎_elim (λ q. inr q) (λ q. absurd (omega arith)) hv))

-- ---- the start: the core alone, at the top
pub field_zero : (n x f : ℕ) → field (replicate n 0) x f ≡ 0
unfolding field
field_zero n x f =
    ⊎_elim
    (λ t. get_or-replicate n (record_size * x + f) 0 0 (ltb-true _ _ t))
    (λ t. get_or-eq_default (replicate n 0) 0 (omega (arith, length-replicate {A = ℕ} n 0, ltb-false (record_size * x + f) n t)))
    (either (ltb (record_size * x + f) n))

pub sound_start : (size : Size) (o : Order) (n : ℕ) → n ≡ lent_bytes size → o.top < o.count → sound_of size o (set_record (replicate n 0) 0 1 o.top o.top 0 0 0 0) ≡ true
unfolding core_record is_task
sound_start size o n e l =
    let w = record_same (replicate n 0) 0 1 o.top o.top 0 0 0 0 size (length-replicate n 0 ∙ e) (some_number size) in
    sound_i size o _ (length_record (replicate n 0) 0 1 o.top o.top 0 0 0 0 ∙ length-replicate n 0 ∙ e)
    (and_i (eq-eqb _ _ w.kind_is) (eq-eqb _ _ w.level_is))
    (each_kept size o (replicate n 0) _ 0 (record_else (replicate n 0) 0 1 o.top o.top 0 0 0 0) (λ k. w.kind_is) (λ x k. absurd (omega (arith, field_zero n x 0)))
    (λ x lx d. free_passes size o _ x (λ f lf. field_zero n x f))
    (plain_task size o _ 0 o.top o.top w l l))
