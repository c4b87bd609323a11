-- What the kind and the marks of a number tell.
-- Assumes nothing.
use Rattle.std.specs.Prelude.{◌≡◌, true, false, ℕ, ◌≤◌, ◌<◌, length}
use Rattle.std.proofs.Common.{sym, ap, ◌∙◌, true≢false, eqb-true}
use Rattle.std.proofs.Math.Bool.{false≢true}
use Rattle.std.proofs.Math.Nat.{lt_of_not-le}
use Rattle.rows.specs.Size.{Size, numbers_of}
use Rattle.records.specs.Records.{kind, marks, is_task, is_object, lent_bytes}
use Rattle.records.specs.RecordLaws.{field_past}
use Rattle.model.specs.State.{MemoryOf, in_use, task, object, marked}

module _ {size : Size} (m : MemoryOf size) (x : ℕ) where
  pub task_used : task m x ≡ true → in_use m x ≡ true
  unfolding task is_task in_use
  task_used h = rw (eqb-true (kind m.bytes x) 1 h)

  pub object_used : object m x ≡ true → in_use m x ≡ true
  unfolding object is_object in_use
  object_used h = rw (eqb-true (kind m.bytes x) 2 h)

  pub object_task : object m x ≡ true → task m x ≡ false
  unfolding object is_object task is_task
  object_task h = rw (eqb-true (kind m.bytes x) 2 h)

  -- what is in use is not what is free
  pub used_apart : (n : ℕ) → in_use m x ≡ true → in_use m n ≡ false → x ≡ n → ⊥
  used_apart n u free e = true≢false (sym u ∙ ap (in_use m) e ∙ free)

  -- what is marked from outside is marked
  pub outside_mark : marks m.bytes x ≡ 3 → marked m x ≡ true
  unfolding marked
  outside_mark h = rw h

  -- what is in use, or marked, is one of the numbers
  module _ (long : length m.bytes ≡ lent_bytes size) where
    pub used_below : in_use m x ≡ true → x < numbers_of size
    unfolding in_use
    used_below u = lt_of_not-le (λ (l : numbers_of size ≤ x). false≢true (rw (field_past size m.bytes x 0 long l) at u))

    pub marked_below : marked m x ≡ true → x < numbers_of size
    unfolding marked
    marked_below u = lt_of_not-le (λ (l : numbers_of size ≤ x). false≢true (rw (field_past size m.bytes x 5 long l) at u))
