-- Marks by stores of a byte: what a store over marks of 0 or 1 does, and a loop of such stores until none is left.
-- Assumes nothing.
use Rattle.std.specs.Prelude.{◌≡◌, refl, ◌⊎◌, Bool, true, false, ◌&&◌, ◌||◌, List, ℕ, ◌+◌, ◌*◌, ◌≤◌, ◌<◌, eqb, leb, get_or, set}
use Rattle.std.proofs.Common.{sym, ap, ◌∙◌, inl, inr, ⊎_elim, true≢false, arith, eqb-true, eq-eqb, ne_eqb}
use Rattle.std.proofs.Math.Bool.{or_assoc}
use Rattle.std.proofs.Math.Seq.{set-get_or}
use borrow.Author.Tests.{eqb-false, leb-true, le-leb, lt-leb}
use Rattle.bits.specs.All.{one}
use Rattle.bits.specs.AllLaws.{either, both_ways, and-true, and-false, or_false}
use Rattle.levels.specs.declared.Order.{Order}
use Rattle.rows.specs.Size.{present, numbers}
use Rattle.records.specs.Records.{BytesLent, field, set_field, kind, marks, sound}
use Rattle.records.specs.RecordLaws.{object_facts, field_same, field_else, length_field}
use Rattle.model.specs.State.{Memory, memory, task, marked}
use Rattle.model.specs.Effects.{mark_one, mark_where, object_of, effect, mark_thing}
use Rattle.model.proofs.MarkLaws.{kept_task, more_none}
use Rattle.model.proofs.SpreadLaws.{Sized}
use Rattle.marking.specs.MarksLaws.{Marks, no_mark, marks_same, marks_none, marks_then, marks_where}
use Rattle.marking.specs.EffectLaws as effects

-- ---- objects whose marks a store of 1 may overwrite

-- the marks of each object are 0 or 1
abbrev pub Plain : List ℕ → Type 0
Plain bs = (x : ℕ) → kind bs x ≡ 2 → (marks bs x ≡ 0) ⊎ (marks bs x ≡ 1)

pub sound_plain : (o : Order) (bs : List ℕ) → sound o bs ≡ true → Plain bs
sound_plain o bs s x k = (object_facts present o bs s x k).marking

-- a store to the marks leaves them plain where it puts 1 or meets no object
module _ (bs ws : List ℕ) (x : ℕ) (h : BytesLent bs) where
  pub plain_put : (v : ℕ) → x < numbers → (kind bs x ≡ 2 → v ≡ 1) → Plain bs → Plain (set_field bs x 5 v)
  plain_put v l e p y k = ⊎_elim (λ q. inr (here (eqb-true y x q))) (λ q. rw (field_else bs x 5 v y 5 (omega arith) (omega arith) (inl (eqb-false y x q))) (p y kept)) (either (eqb y x))
    where
      kept : kind bs y ≡ 2
      kept = sym (field_else bs x 5 v y 0 (omega arith) (omega arith) (inr (omega arith))) ∙ k

      here : y ≡ x → field (set_field bs x 5 v) y 5 ≡ 1
      here q = rw q (field_same bs x 5 v (omega arith) ∙ e (ap (λ (z : ℕ). kind bs z) (sym q) ∙ kept))

-- ---- a store of a mark

module _ (bs ws : List ℕ) (x : ℕ) where
  pub marks_store : BytesLent bs → x < numbers → get_or bs (8 * x + 5) 0 ≡ 0 → Marks (memory bs ws) (λ y. eqb y x) (memory (set bs (8 * x + 5) 1) ws)
  unfolding set_field field marked
  marks_store h l e =
      record {
        more =
            record {
              words_kept = refl;
              length_kept = length_field bs x 5 1;
              bytes_kept = λ y f b n. field_else bs x 5 1 y f (omega arith) b (inr n);
              marks_kept = λ y d. else y (λ q. true≢false (sym d ∙ ap (marked (memory bs ws)) q ∙ rw e));
            };
        new = λ y b d. ⊎_elim (λ q. rw (eqb-true y x q, eq-eqb x x refl) (field_same bs x 5 1 (omega arith))) (λ q. rw q (else y (eqb-false y x q) ∙ no_mark (memory bs ws) y d)) (either (eqb y x));
      }
    where
      else : (y : ℕ) → (y ≡ x → ⊥) → field (set_field bs x 5 1) y 5 ≡ field bs y 5
      else y n = field_else bs x 5 1 y 5 (omega arith) (omega arith) (inl n)

  -- a store that is left out, since the mark is there
  pub marks_there : (get_or bs (8 * x + 5) 0 ≡ 0 → ⊥) → Marks (memory bs ws) (λ y. eqb y x) (memory bs ws)
  unfolding field
  marks_there e =
      record {
        more = more_none _;
        new = λ y l d. let z : get_or bs (8 * y + 5) 0 ≡ 0 = no_mark (memory bs ws) y d in z ∙ sym (rw (ne_eqb y x (λ q. e (ap (λ (k : ℕ). get_or bs (8 * k + 5) 0) (sym q) ∙ z))));
      }

  -- a store over marks of 0 or 1
  pub marks_over : BytesLent bs → x < numbers → (field bs x 5 ≡ 0) ⊎ (field bs x 5 ≡ 1) → Marks (memory bs ws) (λ y. eqb y x) (memory (set bs (8 * x + 5) 1) ws)
  unfolding field
  marks_over h l (inl e) = marks_store h l e
  marks_over h l (inr e) =
      let s : set bs (8 * x + 5) 1 ≡ bs = ap (set bs (8 * x + 5)) (sym e) ∙ set-get_or bs (8 * x + 5) 0 in
      rw s (marks_there (λ z. omega arith))

-- an unmarked thing is marked by a store; whether it is a task may be asked before
module _ (bs ws : List ℕ) (x : ℕ) (h : BytesLent bs) (l : x < numbers) (z : field bs x 5 ≡ 0) where
  pub stored : Marks (memory bs ws) (λ y. eqb y x) (memory (set_field bs x 5 1) ws)
  unfolding set_field field
  stored = marks_store bs ws x h l z

  is_marked : memory (set_field bs x 5 1) ws ≡ mark_one x (memory bs ws)
  unfolding mark_one marked
  is_marked = rw z

  pub thing_alone : task (memory bs ws) x ≡ false → memory (set_field bs x 5 1) ws ≡ effect (mark_thing x) (memory bs ws)
  thing_alone e = effects.thing_alone (memory bs ws) x h l is_marked (kept_task stored.more x ∙ e)

  pub thing_drives : task (memory bs ws) x ≡ true → mark_where (object_of (memory (set_field bs x 5 1) ws) x) (memory (set_field bs x 5 1) ws) ≡ effect (mark_thing x) (memory bs ws)
  thing_drives e = effects.thing_drives (memory bs ws) x h l is_marked (kept_task stored.more x ∙ e)

-- ---- a loop that marks: n is m with the marks of some of all, and the rest is left

pub record Left (m n : Memory) (all rest : ℕ → Bool) : Type 0 where
  pub done : ℕ → Bool
  pub marks : Marks m done n
  pub parts : (x : ℕ) → x < numbers → (done x || rest x) ≡ all x

pub left_all : (m : Memory) (all : ℕ → Bool) → Left m m all all
left_all m all = record { done = λ x. false; marks = marks_none m; parts = λ x l. refl }

pub left_from : {m n : Memory} {all rest rest' : ℕ → Bool} → Left m n all rest → ((x : ℕ) → x < numbers → rest' x ≡ rest x) → Left m n all rest'
left_from g e = record { done = g.done; marks = g.marks; parts = λ x l. ap (λ (b : Bool). g.done x || b) (e x l) ∙ g.parts x l }

pub left_less : {m n v : Memory} {all rest rest' q : ℕ → Bool} → Left m n all rest → Marks n q v → ((x : ℕ) → x < numbers → rest x ≡ (q x || rest' x)) → Left m v all rest'
left_less {rest' = rest'} {q = q} g f e =
    record {
      done = λ x. g.done x || q x;
      marks = marks_then g.marks f;
      parts = λ x l. or_assoc (g.done x) (q x) (rest' x) ∙ ap (λ (b : Bool). g.done x || b) (sym (e x l)) ∙ g.parts x l;
    }

pub left_none : {m n : Memory} {all rest : ℕ → Bool} → Sized m → Left m n all rest → ((x : ℕ) → x < numbers → rest x ≡ false) → n ≡ mark_where all m
left_none {m} {all = all} h g e =
    marks_same h g.marks (marks_where all m h) (λ x l d. sym (or_false (g.done x)) ∙ ap (λ (b : Bool). g.done x || b) (sym (e x l)) ∙ g.parts x l)

-- marks of 0 or 1 stay so
pub left_plain : {m n : Memory} {all rest : ℕ → Bool} → Left m n all rest → (x : ℕ) → x < numbers → (field m.bytes x 5 ≡ 0) ⊎ (field m.bytes x 5 ≡ 1) → (field n.bytes x 5 ≡ 0) ⊎ (field n.bytes x 5 ≡ 1)
unfolding marked
left_plain {m} {n} g x l (inr e) = inr (g.marks.more.marks_kept x (rw e) ∙ e)
left_plain {m} {n} g x l (inl e) = go (g.done x) (g.marks.new x l (rw e))
  where
    go : (b : Bool) → field n.bytes x 5 ≡ one b → (field n.bytes x 5 ≡ 0) ⊎ (field n.bytes x 5 ≡ 1)
    go true f = inr f
    go false f = inl f

-- a loop over the numbers: those from x on that pass are x, if it does, and those after it
pub from_here : (p : ℕ → Bool) (x y : ℕ) → (leb x y && p y) ≡ ((p x && eqb y x) || (leb (x + 1) y && p y))
from_here p x y = ⊎_elim here past (either (eqb y x))
  where
    here : eqb y x ≡ true → (leb x y && p y) ≡ ((p x && eqb y x) || (leb (x + 1) y && p y))
    here e =
        let d : y ≡ x = eqb-true y x e in
        let a : leb x x ≡ true = le-leb x x (omega arith) in
        let b : leb (x + 1) x ≡ false = lt-leb (x + 1) x (omega arith) in
        rw (d, a, b, eq-eqb x x refl) (sym (or_false _ ∙ and-true (p x)))

    past : eqb y x ≡ false → (leb x y && p y) ≡ ((p x && eqb y x) || (leb (x + 1) y && p y))
    past e =
        let n : y ≡ x → ⊥ = eqb-false y x e in
        rw (e, and-false (p x))
        (ap (λ (b : Bool). b && p y)
        (both_ways (leb x y) (leb (x + 1) y)
        (λ l. let h : x ≤ y = leb-true x y l in le-leb (x + 1) y (omega arith))
        (λ l. let h : x + 1 ≤ y = leb-true (x + 1) y l in le-leb x y (omega arith))))
