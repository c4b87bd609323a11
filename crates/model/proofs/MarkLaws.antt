-- What marking changes: the mark of each number that passes and was not marked, and nothing else.
-- Assumes nothing.
use Rattle.std.specs.Prelude.{◌≡◌, ◌⊎◌, Bool, true, cond, ◌&&◌, ◌||◌, List, ℕ, ◌+◌, ◌*◌, ◌<◌, eqb, ltb, length}
use Rattle.std.proofs.Math.Path.{refl, ap}
use Rattle.std.proofs.Common.{sym, ◌∙◌, inl, inr, arith, eqb-true, ltb-true, ltb-false}
use Rattle.std.proofs.Math.Logic.{⊎_elim}
use Rattle.std.proofs.Math.Bool.{false, not, true≢false}
use Rattle.std.proofs.Math.Seq.{set_out}
use Rattle.std.proofs.lemmas.Bool.{eqb-false}
use Rattle.bits.specs.AllLaws.{either}
use Rattle.bits.specs.LoopLaws.{up_keeps, up_from}
use Rattle.rows.specs.Size.{Size, numbers_of}
use Rattle.records.specs.Records.{field, set_field, is_task, is_object, lent_bytes}
use Rattle.records.specs.RecordLaws.{field_same, field_else, length_field}
use Rattle.model.specs.State.{MemoryOf, task, object, in_use, marked, level_of, read_level_of, driver_of, has_flow, has_read, has_write}
use Rattle.model.specs.Effects.{mark_one, mark_where}

-- after the store of a mark, past the end too
stored : (bs : List ℕ) (y x : ℕ) → (field (set_field bs y 5 1) x 5 ≡ 1) ⊎ (field (set_field bs y 5 1) x 5 ≡ field bs x 5)
unfolding field set_field
stored bs y x = go (either (eqb x y)) (either (ltb (8 * y + 5) (length bs)))
  where
    go : (eqb x y ≡ true) ⊎ (eqb x y ≡ false) → (ltb (8 * y + 5) (length bs) ≡ true) ⊎ (ltb (8 * y + 5) (length bs) ≡ false)
        → (field (set_field bs y 5 1) x 5 ≡ 1) ⊎ (field (set_field bs y 5 1) x 5 ≡ field bs x 5)
    go (inl e) (inl l) = let f = eqb-true x y e in inl (rw f (field_same bs y 5 1 (ltb-true _ _ l)))
    go (inl e) (inr l) = inr (rw (set_out bs (8 * y + 5) 1 (ltb-false _ _ l)))
    go (inr e) l = inr (field_else bs y 5 1 x 5 (omega arith) (omega arith) (inl (eqb-false x y e)))

-- ---- n is m with more marks: nothing changes but marks, and a mark that was there stays as it was

pub record MoreMarks {size : Size} (m n : MemoryOf size) : Type 0 where
  pub words_kept : n.words ≡ m.words
  pub length_kept : length n.bytes ≡ length m.bytes
  pub bytes_kept : (x f : ℕ) → f < 8 → (f ≡ 5 → ⊥) → field n.bytes x f ≡ field m.bytes x f
  pub marks_kept : (x : ℕ) → marked m x ≡ true → field n.bytes x 5 ≡ field m.bytes x 5

module _ {size : Size} {m n : MemoryOf size} (g : MoreMarks m n) where
  pub kept_marked : (x : ℕ) → marked m x ≡ true → marked n x ≡ true
  unfolding marked
  kept_marked x e = rw (g.marks_kept x e) e

  -- what reads no marks sees no change
  pub kept_in_use : (x : ℕ) → in_use n x ≡ in_use m x
  unfolding in_use
  kept_in_use x = rw (g.bytes_kept x 0 (omega arith) (omega arith))

  pub kept_task : (x : ℕ) → task n x ≡ task m x
  unfolding task is_task
  kept_task x = rw (g.bytes_kept x 0 (omega arith) (omega arith))

  pub kept_object : (x : ℕ) → object n x ≡ object m x
  unfolding object is_object
  kept_object x = rw (g.bytes_kept x 0 (omega arith) (omega arith))

  pub kept_level : (x : ℕ) → level_of n x ≡ level_of m x
  kept_level x = g.bytes_kept x 1 (omega arith) (omega arith)

  pub kept_read_level : (x : ℕ) → read_level_of n x ≡ read_level_of m x
  kept_read_level x = g.bytes_kept x 2 (omega arith) (omega arith)

  pub kept_driver : (x : ℕ) → driver_of n x ≡ driver_of m x
  kept_driver x = g.bytes_kept x 3 (omega arith) (omega arith)

  pub kept_flow : (x y : ℕ) → has_flow n x y ≡ has_flow m x y
  unfolding has_flow
  kept_flow x y = rw g.words_kept

  pub kept_read : (x y : ℕ) → has_read n x y ≡ has_read m x y
  unfolding has_read
  kept_read x y = rw g.words_kept

  pub kept_write : (x y : ℕ) → has_write n x y ≡ has_write m x y
  unfolding has_write
  kept_write x y = rw g.words_kept

  pub more_then : {v : MemoryOf size} → MoreMarks n v → MoreMarks m v
  more_then h =
      record {
        words_kept = h.words_kept ∙ g.words_kept;
        length_kept = h.length_kept ∙ g.length_kept;
        bytes_kept = λ x f l e. h.bytes_kept x f l e ∙ g.bytes_kept x f l e;
        marks_kept = λ x e. h.marks_kept x (kept_marked x e) ∙ g.marks_kept x e;
      }

pub more_none : {size : Size} (m : MemoryOf size) → MoreMarks m m
more_none m = record { words_kept = refl; length_kept = refl; bytes_kept = λ x f l h. refl; marks_kept = λ x e. refl }

-- ---- one number

-- a property of the memory that the store of a mark keeps, marking keeps
one_keeps : {size : Size} (P : MemoryOf size → Type 0) (x : ℕ) (m : MemoryOf size) → P m → (marked m x ≡ false → P (record { bytes = set_field m.bytes x 5 1; words = m.words })) → P (mark_one x m)
unfolding mark_one
one_keeps P x m p h = ⊎_elim (λ e. rw e p) (λ e. rw e (h e)) (either (marked m x))

-- marked already, or not: a mark is there
one_new : {size : Size} (x : ℕ) (m : MemoryOf size) → x < numbers_of size → length m.bytes ≡ lent_bytes size → (marked m x ≡ false) ⊎ (field m.bytes x 5 ≡ 1) → field (mark_one x m).bytes x 5 ≡ 1
unfolding mark_one marked
one_new x m l e (inl n) = rw n (field_same m.bytes x 5 1 (omega arith))
one_new x m l e (inr h) = rw h h

-- ---- each number that passes

module _ {size : Size} (p : ℕ → Bool) (m : MemoryOf size) where
  -- the loop's step
  at_each : ℕ → MemoryOf size → MemoryOf size
  at_each x v = cond (p x) (mark_one x v) v

  each_keeps : (P : MemoryOf size → Type 0) (x : ℕ) (v : MemoryOf size) → P v → (p x ≡ true → marked v x ≡ false → P (record { bytes = set_field v.bytes x 5 1; words = v.words })) → P (at_each x v)
  unfolding at_each
  each_keeps P x v q h = ⊎_elim (λ e. rw e (one_keeps P x v q (h e))) (λ e. rw e q) (either (p x))

  -- what each store of a mark keeps
  pub where_keeps : (P : MemoryOf size → Type 0)
      → ((x : ℕ) (v : MemoryOf size) → x < numbers_of size → p x ≡ true → marked v x ≡ false → P v → P (record { bytes = set_field v.bytes x 5 1; words = v.words }))
      → P m → P (mark_where p m)
  unfolding mark_where at_each
  where_keeps P h q = up_keeps at_each P (numbers_of size) (λ x v l r. each_keeps P x v r (λ e n. h x v l e n r)) m q

  -- where all that pass are marked already, nothing changes
  pub where_rest : ((x : ℕ) → x < numbers_of size → p x ≡ true → marked m x ≡ true) → mark_where p m ≡ m
  where_rest h = where_keeps (λ v. v ≡ m) (λ x v l e n q. absurd (true≢false (sym (h x l e) ∙ ap (λ (u : MemoryOf size). marked u x) (sym q) ∙ n))) refl

  pub where_words : (mark_where p m).words ≡ m.words
  where_words = where_keeps (λ v. v.words ≡ m.words) (λ x v l e n q. q) refl

  pub where_length : length (mark_where p m).bytes ≡ length m.bytes
  where_length = where_keeps (λ v. length v.bytes ≡ length m.bytes) (λ x v l e n q. length_field v.bytes x 5 1 ∙ q) refl

  pub where_field : (x f : ℕ) → f < 8 → (f ≡ 5 → ⊥) → field (mark_where p m).bytes x f ≡ field m.bytes x f
  where_field x f l n =
      where_keeps (λ v. field v.bytes x f ≡ field m.bytes x f) (λ y v b e k q. field_else v.bytes y 5 1 x f (omega arith) l (inr n) ∙ q) refl

  -- a mark that was there stays as it was
  pub where_kept : (x : ℕ) → marked m x ≡ true → field (mark_where p m).bytes x 5 ≡ field m.bytes x 5
  unfolding marked
  where_kept x h = where_keeps (λ v. field v.bytes x 5 ≡ field m.bytes x 5) (λ y v b e n q. field_else v.bytes y 5 1 x 5 (omega arith) (omega arith) (inl (other y v n q)) ∙ q) refl
    where
      other : (y : ℕ) (v : MemoryOf size) → marked v y ≡ false → field v.bytes x 5 ≡ field m.bytes x 5 → x ≡ y → ⊥
      other y v n q e = true≢false (sym h ∙ ap (λ (k : ℕ). not (eqb k 0)) (sym q) ∙ ap (λ (k : ℕ). not (eqb (field v.bytes k 5) 0)) e ∙ n)

  pub where_not : (x : ℕ) → p x ≡ false → field (mark_where p m).bytes x 5 ≡ field m.bytes x 5
  where_not x h =
      where_keeps (λ v. field v.bytes x 5 ≡ field m.bytes x 5)
      (λ y v b e n q. field_else v.bytes y 5 1 x 5 (omega arith) (omega arith) (inl (λ d. true≢false (sym e ∙ ap p (sym d) ∙ h))) ∙ q) refl

  pub where_new : (x : ℕ) → x < numbers_of size → length m.bytes ≡ lent_bytes size → marked m x ≡ false → p x ≡ true → field (mark_where p m).bytes x 5 ≡ 1
  unfolding mark_where at_each marked
  where_new x l len n h =
      up_from at_each Before (λ v. field v.bytes x 5 ≡ 1) (numbers_of size)
      (λ y v k q. each_keeps (λ v. field v.bytes x 5 ≡ 1) y v q (λ e u. ⊎_elim (λ s. s) (λ s. s ∙ q) (stored v.bytes y x)))
      (λ y v k q. each_keeps Before y v q (λ e u. (after y v q.0 (stored v.bytes y x), length_field v.bytes y 5 1 ∙ q.1)))
      x l (λ v q. rw h (one_new x v l q.1 q.0)) m (inl n, len)
    where
      Before : MemoryOf size → Type 0
      Before v = ((marked v x ≡ false) ⊎ (field v.bytes x 5 ≡ 1)) × (length v.bytes ≡ lent_bytes size)

      after : (y : ℕ) (v : MemoryOf size) → (marked v x ≡ false) ⊎ (field v.bytes x 5 ≡ 1)
          → (field (set_field v.bytes y 5 1) x 5 ≡ 1) ⊎ (field (set_field v.bytes y 5 1) x 5 ≡ field v.bytes x 5)
          → (marked {size = size} (record { bytes = set_field v.bytes y 5 1; words = v.words }) x ≡ false) ⊎ (field (set_field v.bytes y 5 1) x 5 ≡ 1)
      after y v r (inl s) = inr s
      after y v (inl r) (inr s) = inl (ap (λ (k : ℕ). not (eqb k 0)) s ∙ r)
      after y v (inr r) (inr s) = inr (s ∙ r)

  -- the mark as a number: 3 stays 3
  pub where_marks : (x : ℕ) → x < numbers_of size → length m.bytes ≡ lent_bytes size
      → field (mark_where p m).bytes x 5 ≡ cond (p x && not (marked m x)) 1 (field m.bytes x 5)
  where_marks x l len = go (either (marked m x)) (either (p x))
    where
      go : (marked m x ≡ true) ⊎ (marked m x ≡ false) → (p x ≡ true) ⊎ (p x ≡ false) → field (mark_where p m).bytes x 5 ≡ cond (p x && not (marked m x)) 1 (field m.bytes x 5)
      go k (inr q) = where_not x q ∙ rw q
      go (inl h) (inl q) = where_kept x h ∙ rw (q, h)
      go (inr n) (inl q) = where_new x l len n q ∙ rw (q, n)

  pub marked_where : (x : ℕ) → x < numbers_of size → length m.bytes ≡ lent_bytes size → marked (mark_where p m) x ≡ (marked m x || p x)
  unfolding marked
  marked_where x l len = go (either (marked m x)) (either (p x))
    where
      same : field (mark_where p m).bytes x 5 ≡ field m.bytes x 5 → marked (mark_where p m) x ≡ marked m x
      same e = ap (λ (k : ℕ). not (eqb k 0)) e

      go : (marked m x ≡ true) ⊎ (marked m x ≡ false) → (p x ≡ true) ⊎ (p x ≡ false) → marked (mark_where p m) x ≡ (marked m x || p x)
      go (inl h) q = same (where_kept x h) ∙ rw h
      go (inr n) (inl q) = rw (where_new x l len n q, n, q)
      go (inr n) (inr q) = same (where_not x q) ∙ rw (n, q)

  pub where_more : MoreMarks m (mark_where p m)
  where_more = record { words_kept = where_words; length_kept = where_length; bytes_kept = where_field; marks_kept = where_kept }
