-- Mark and step in the order of the code: the verdict first, then the thing's mark, then those of its objects.
-- Assumes nothing.
use Rattle.std.specs.Prelude.{◌≡◌, refl, Bool, true, false, not, cond, ◌&&◌, ◌||◌, List, ℕ, ◌<◌, eqb}
use Rattle.std.proofs.Common.{sym, ap, ◌∙◌, inr, arith}
use Rattle.bits.specs.AllLaws.{or_false}
use Rattle.levels.specs.declared.Order.{Order}
use Rattle.rows.specs.Size.{numbers}
use Rattle.records.specs.Records.{BytesLent, set_field, is_object}
use Rattle.records.specs.RecordLaws.{field_else, length_field}
use Rattle.model.specs.State.{Memory, memory, in_use, task, object, marked}
use Rattle.model.specs.Verdicts.{granted, row_number, row_still, is_done}
use Rattle.model.specs.Effects.{effects, mark_one, mark_where, object_of, effect, mark_outside, mark_thing}
use Rattle.model.specs.Events.{Event, outcome, verdict_of, first_failing, unless, step, fed}
use Rattle.model.proofs.MarkLaws.{MoreMarks, kept_task, where_more}
use Rattle.model.proofs.SpreadLaws.{Sized}
use Rattle.marking.specs.MarksLaws.{where_ext, where_then, one_where, kept_object_of}

-- a store to the marks changes no kind and no driver
object_else : (bs ws : List ℕ) (x v d y : ℕ) → object_of (memory (set_field bs x 5 v) ws) d y ≡ object_of (memory bs ws) d y
unfolding object_of object is_object
object_else bs ws x v d y = rw (field_else bs x 5 v y 0 (omega arith) (omega arith) (inr (omega arith)), field_else bs x 5 v y 3 (omega arith) (omega arith) (inr (omega arith)))

pub outside_is : (bs ws : List ℕ) (x : ℕ) → BytesLent bs → mark_where (object_of (memory (set_field bs x 5 3) ws) x) (memory (set_field bs x 5 3) ws) ≡ effect (mark_outside x) (memory bs ws)
unfolding effect
outside_is bs ws x h = where_ext _ _ _ (length_field bs x 5 3 ∙ h) (λ y b. object_else bs ws x 3 x y)

-- a thing is marked; whether it is a task is asked then
module _ (m : Memory) (x : ℕ) (h : Sized m) (l : x < numbers) {n : Memory} (is : n ≡ mark_one x m) where
  marked_one : n ≡ mark_where (λ y. eqb y x) m
  marked_one = is ∙ one_where x m l

  more : MoreMarks m n
  more = rw marked_one (where_more _ m)

  pub thing_alone : task n x ≡ false → n ≡ effect (mark_thing x) m
  unfolding effect
  thing_alone e = marked_one ∙ where_ext _ _ m h (λ y b. sym (rw (sym (kept_task more x) ∙ e) (or_false (eqb y x))))

  pub thing_drives : task n x ≡ true → mark_where (object_of n x) n ≡ effect (mark_thing x) m
  unfolding effect
  thing_drives e =
      ap (mark_where (object_of n x)) marked_one
      ∙ where_then m _ _ _ h (λ y b. rw (sym (kept_task more x) ∙ e) (ap (λ (q : Bool). eqb y x || q) (sym (kept_object_of more x y))))

-- ---- an outcome, from its verdict

module _ (m : Memory) (e : Event) {v : ℕ} (is : v ≡ verdict_of e) where
  pub made : {n : Memory} → v ≡ granted → n ≡ effects e.effects m → record { verdict = v; rounds = 0; memory = n } ≡ outcome m e
  unfolding outcome
  made {n} z f =
      let d : verdict_of e ≡ 0 = sym is ∙ z in
      let g : n ≡ cond (is_done (verdict_of e)) (effects e.effects m) m = f ∙ sym (rw d) in
      λ i. record { verdict = is i; rounds = 0; memory = g i }

  pub refused : is_done v ≡ false → record { verdict = v; rounds = 0; memory = m } ≡ outcome m e
  unfolding outcome
  refused n =
      let d : is_done (verdict_of e) ≡ false = rw is at n in
      let g : m ≡ cond (is_done (verdict_of e)) (effects e.effects m) m = sym (rw d) in
      λ i. record { verdict = is i; rounds = 0; memory = g i }

-- a step is granted or refused
pub step_refused : (o : Order) (m : Memory) (x : ℕ) {v : ℕ} → v ≡ verdict_of (step o m x) → (v ≡ granted → ⊥) → is_done v ≡ false
unfolding verdict_of first_failing unless step
step_refused o m x {v} is n = rw is (go (in_use m x) (not (marked m x) && fed o m x) (λ z. n (is ∙ z)))
  where
    go : (a b : Bool) → (unless a row_number (unless b row_still granted) ≡ granted → ⊥) → is_done (unless a row_number (unless b row_still granted)) ≡ false
    go true true h = absurd (h refl)
    go true false h = refl
    go false b h = refl
