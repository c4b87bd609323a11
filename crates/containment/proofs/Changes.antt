-- The three kinds of change that keep the limits: of words, of the record of one number that is no task, and of marks.
-- Assumes nothing.
use Rattle.std.specs.Prelude.{◌≡◌, refl, true, false, ◌⊎◌, ℕ, ◌<◌, eqb, length}
use Rattle.std.proofs.Common.{sym, ap, ◌∙◌, true≢false, inl, inr, ⊎_elim, arith, eqb-true}
use mathlib.Core.List.{List, Memᴰ}
use Rattle.std.proofs.lemmas.Bool.{eqb-false}
use Rattle.bits.specs.AllLaws.{either}
use Rattle.rows.specs.Size.{Size, numbers_of}
use Rattle.levels.specs.declared.Order.{Order}
use Rattle.records.specs.Records as records
use Rattle.records.specs.Records.{field}
use Rattle.model.specs.State.{MemoryOf, lengths_fit, in_use, task, object, level_of, driver_of, marked}
use Rattle.model.proofs.StateLaws.{task_used, used_below}
use Rattle.model.specs.Effects.{with_words}
use Rattle.model.proofs.EffectLaws.{fit_long}
use Rattle.containment.specs.Lists.{StandingOf}
use Rattle.containment.specs.Claims.{Covered}
use Rattle.containment.proofs.Tables.{Table, flows, reads, writes, has}
use Rattle.containment.proofs.Invariant.{standing, Bounded, May, Limits, joins}
use Rattle.containment.proofs.Follows.{Same, Follows, same_task, same_use, covered_same, covered_follows, bounded_follows, limits_follow}

-- ---- lengths and numbers

fits_same : {size : Size} (m n : MemoryOf size) → length n.bytes ≡ length m.bytes → length n.words ≡ length m.words → lengths_fit m ≡ true → lengths_fit n ≡ true
unfolding lengths_fit
fits_same m n b w h = rw (b, w) h

-- two numbers are equal or not
pub equal_or_not : (x p : ℕ) → (x ≡ p) ⊎ (x ≡ p → ⊥)
equal_or_not x p = ⊎_elim (λ e. inl (eqb-true x p e)) (λ e. inr (eqb-false x p e)) (either (eqb x p))

-- ---- words

pub words_limits : {size : Size} (s : StandingOf size) (ws : List ℕ) → Limits s → length ws ≡ length s.memory.words
    → ((t : Table) (x y : ℕ) → x < numbers_of size → y < numbers_of size → has t (with_words s.memory ws) x y ≡ true → (has t s.memory x y ≡ true) ⊎ May s t x y)
    → Limits (standing s.order (with_words s.memory ws) s.outside)
unfolding task object in_use marked
words_limits s ws k l each =
    record {
      fits = fits_same s.memory (with_words s.memory ws) refl l k.fits;
      bounded = λ x a.
          let b = k.bounded x a in
          record { driver_task = b.driver_task; driver_above = b.driver_above; driven_marked = b.driven_marked; mark_covered = b.mark_covered };
      named = k.named;
      recorded = λ t x y a b h. still t x y (⊎_elim (k.recorded t x y a b) (λ g. g) (each t x y a b h));
    }
  where
    still : (t : Table) (x y : ℕ) → May s t x y → May (standing s.order (with_words s.memory ws) s.outside) t x y
    still flows x y j = j
    still reads z x j = record { reader = j.reader; source = j.source; path = j.path; honest = j.honest }
    still writes z x j = j

-- ---- the record of one number p that is no task, and is free before or after

module _ {size : Size} (o : Order) (m n : MemoryOf size) (ts : List ℕ) (p : ℕ) (k : Limits (standing o m ts)) (no_task : task m p ≡ false)
    (off : (x f : ℕ) → f < 8 → (x ≡ p → ⊥) → field n.bytes x f ≡ field m.bytes x f) where
  off_same : (x : ℕ) → (x ≡ p → ⊥) → Same m n x
  off_same x h = record { kind = off x 0 (omega arith) h; level = off x 1 (omega arith) h; read_level_law = off x 2 (omega arith) h; driver = off x 3 (omega arith) h }

  off_task : (x : ℕ) → task m x ≡ true → x ≡ p → ⊥
  off_task x h e = true≢false (sym h ∙ ap (task m) e ∙ no_task)

  task_same : (x : ℕ) → task m x ≡ true → Same m n x
  task_same x h = off_same x (off_task x h)

  off_marked : (x : ℕ) → (x ≡ p → ⊥) → marked n x ≡ marked m x
  unfolding marked
  off_marked x h = rw (off x 5 (omega arith) h)

  task_marked : (x : ℕ) → task m x ≡ true → marked n x ≡ marked m x
  task_marked x h = off_marked x (off_task x h)

  pub one_follows : (in_use m p ≡ true → in_use n p ≡ true → ⊥)
      → ((t : Table) (x y : ℕ) → x < numbers_of size → y < numbers_of size → has t n x y ≡ true → (has t m x y ≡ true) × (x ≡ p → ⊥) × (y ≡ p → ⊥)) → Follows o m n ts ts
  one_follows apart old =
      record {
        tasks = task_same;
        marks = λ x h g. task_marked x h ∙ g;
        things = λ x h g. ⊎_elim (λ (e : x ≡ p). absurd (apart (rw e at h) (rw e at g))) (off_same x) (equal_or_not x p);
        named = λ t h. h;
        recorded = λ t x y a b h.
            let f = old t x y a b h in
            let j = joins k t x y a b f.0 in
            (f.0, (same_use (off_same x f.1) ∙ j.0, same_use (off_same y f.2) ∙ j.1));
      }

  pub one_limits : Follows o m n ts ts → lengths_fit n ≡ true → Bounded (standing o n ts) p → Limits (standing o n ts)
  one_limits f fits here = limits_follow f k fits (λ x l. ⊎_elim (λ (e : x ≡ p). rw e here) (other x l) (equal_or_not x p)) named
    where
      other : (x : ℕ) → x < numbers_of size → (x ≡ p → ⊥) → Bounded (standing o n ts) x
      other x l d =
          let b = k.bounded x l in
          bounded_follows f x (off_same x d) b
          (λ h g. off_marked x d ∙ b.driven_marked h (sym (task_marked _ (b.driver_task h)) ∙ g))
          (λ h. covered_follows f _ (b.mark_covered (sym (off_marked x d) ∙ h)))

      named : (t : ℕ) → Memᴰ t ts → (task n t ≡ true) × (records.marks n.bytes t ≡ 3)
      named t h =
          let j = k.named t h in
          (same_task (task_same t j.0) ∙ j.0, off t 5 (omega arith) (off_task t j.0) ∙ j.1)

-- ---- marks, and what the limits do not read

module _ {size : Size} (o : Order) (m n : MemoryOf size) (ts us : List ℕ) (k : Limits (standing o m ts)) (words : n.words ≡ m.words)
    (kept : (x f : ℕ) → f < 4 → field n.bytes x f ≡ field m.bytes x f)
    (grow : (x : ℕ) → x < numbers_of size → marked m x ≡ true → marked n x ≡ true)
    (more : (t : ℕ) → Memᴰ t ts → Memᴰ t us) where
  kept_same : (x : ℕ) → Same m n x
  kept_same x = record { kind = kept x 0 (omega arith); level = kept x 1 (omega arith); read_level_law = kept x 2 (omega arith); driver = kept x 3 (omega arith) }

  pub marks_follow : Follows o m n ts us
  marks_follow =
      record {
        tasks = λ x h. kept_same x;
        marks = λ x h. grow x (used_below m x (fit_long m k.fits).bytes_long (task_used m x h));
        things = λ x h g. kept_same x;
        named = more;
        recorded = λ t x y a b h.
            let g : has t m x y ≡ true = rw words at h in
            let j = joins k t x y a b g in
            (g, (same_use (kept_same x) ∙ j.0, same_use (kept_same y) ∙ j.1));
      }

  -- what is marked is covered, and with a driver its objects are marked
  pub marks_limits : length n.bytes ≡ length m.bytes
      → ((x : ℕ) → x < numbers_of size → marked n x ≡ true → Covered (standing o m us) (level_of m x))
      → ((x : ℕ) → x < numbers_of size → object m x ≡ true → marked n (driver_of m x) ≡ true → marked n x ≡ true)
      → ((t : ℕ) → Memᴰ t us → (task m t ≡ true) × (records.marks n.bytes t ≡ 3))
      → Limits (standing o n us)
  marks_limits len covers closed named =
      limits_follow marks_follow k (fits_same m n len (ap length words) k.fits)
      (λ x l. bounded_follows marks_follow x (kept_same x) (k.bounded x l) (closed x l) (λ h. covered_same o us (λ y t. kept_same y) _ (covers x l h)))
      (λ t h. (same_task (kept_same t) ∙ (named t h).0, (named t h).1))
