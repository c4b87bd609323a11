-- A memory with just these numbers marked besides: what it is known by, and that this settles it.
-- Assumes nothing.
use Rattle.std.specs.Prelude.{◌≡◌, refl, ◌⊎◌, Bool, true, false, cond, ◌||◌, Some, ℕ, zero, suc, ◌+◌, ◌*◌, ◌/◌, ◌%◌, ◌≤◌, ◌<◌, eqb, get_or, length}
use Rattle.std.proofs.Common.{sym, ap, ◌∙◌, inl, inr, ⊎_elim, true≢false, add-one, arith, ext_get_or, eqb-true, eq-eqb, ne_eqb, eq-or-lt_of_le}
use Rattle.std.proofs.Math.Nat.{le_of_suc-le-suc}
use Rattle.std.proofs.lemmas.Bool.{eqb-false}
use borrow.Author.Tests.{not-false}
use Rattle.bits.specs.All.{one, up_to}
use Rattle.bits.specs.AllLaws.{either}
use Rattle.bits.specs.LoopLaws.{up_keeps}
use Rattle.rows.specs.Size.{numbers}
use Rattle.records.specs.Records.{field}
use Rattle.sets.specs.Numbers.{Takes}
use Rattle.model.specs.State.{Memory, marked}
use Rattle.model.specs.Effects.{mark_one, mark_where, object_of}
use Rattle.model.proofs.MarkLaws.{MoreMarks, kept_object, kept_driver, more_then, more_none, where_more, where_rest, where_length, where_new, where_not}
use Rattle.model.proofs.SpreadLaws.{Sized}

-- n is m with a mark for each unmarked number that passes
pub record Marks (m : Memory) (q : ℕ → Bool) (n : Memory) : Type 0 where
  pub more : MoreMarks m n
  pub new : (x : ℕ) → x < numbers → marked m x ≡ false → field n.bytes x 5 ≡ one (q x)

-- ---- what is marked in it

pub no_mark : (m : Memory) (x : ℕ) → marked m x ≡ false → field m.bytes x 5 ≡ 0
unfolding marked
no_mark m x e = eqb-true _ 0 (not-false _ e)

of_one : (m : Memory) (x : ℕ) (b : Bool) → field m.bytes x 5 ≡ one b → marked m x ≡ b
unfolding marked
of_one m x true e = rw e
of_one m x false e = rw e

-- ---- it is settled

bytes_same : {m n v : Memory} {q r : ℕ → Bool} → Sized m → Marks m q n → Marks m r v → ((x : ℕ) → x < numbers → marked m x ≡ false → q x ≡ r x) → n.bytes ≡ v.bytes
unfolding field
bytes_same {m} {n} {v} {q} {r} h g f e = ext_get_or 0 n.bytes v.bytes (g.more.length_kept ∙ sym f.more.length_kept) at
  where
    marks : (x : ℕ) → x < numbers → (marked m x ≡ true) ⊎ (marked m x ≡ false) → field n.bytes x 5 ≡ field v.bytes x 5
    marks x l (inl b) = g.more.marks_kept x b ∙ sym (f.more.marks_kept x b)
    marks x l (inr b) = g.new x l b ∙ ap one (e x l b) ∙ sym (f.new x l b)

    byte : (x f' : ℕ) → x < numbers → f' < 8 → (eqb f' 5 ≡ true) ⊎ (eqb f' 5 ≡ false) → field n.bytes x f' ≡ field v.bytes x f'
    byte x f' l b (inl d) = rw (eqb-true f' 5 d) (marks x l (either (marked m x)))
    byte x f' l b (inr d) = g.more.bytes_kept x f' b (eqb-false f' 5 d) ∙ sym (f.more.bytes_kept x f' b (eqb-false f' 5 d))

    at : (i : ℕ) → i < length n.bytes → get_or n.bytes i 0 ≡ get_or v.bytes i 0
    at i l =
        let d : i ≡ 8 * (i / 8) + i % 8 = omega arith in
        rw d (byte (i / 8) (i % 8) (omega (arith, g.more.length_kept)) (omega arith) (either (eqb (i % 8) 5)))

pub marks_same : {m n v : Memory} {q r : ℕ → Bool} → Sized m → Marks m q n → Marks m r v → ((x : ℕ) → x < numbers → marked m x ≡ false → q x ≡ r x) → n ≡ v
marks_same {m} {n} {v} h g f e =
    let b = bytes_same h g f e in
    let w = g.more.words_kept ∙ sym f.more.words_kept in
    λ i. record { bytes = b i; words = w i }

-- ---- how one comes by it

pub marks_ext : {m n : Memory} {q r : ℕ → Bool} → Marks m q n → ((x : ℕ) → x < numbers → marked m x ≡ false → q x ≡ r x) → Marks m r n
marks_ext g e = record { more = g.more; new = λ x l d. g.new x l d ∙ ap one (e x l d) }

pub marks_none : (m : Memory) → Marks m (λ x. false) m
marks_none m = record { more = more_none m; new = λ x l e. no_mark m x e }

pub marks_then : {m n v : Memory} {q r : ℕ → Bool} → Marks m q n → Marks n r v → Marks m (λ x. q x || r x) v
marks_then {m} {n} {v} {q} {r} g f = record { more = more_then g.more f.more; new = λ x l e. go x l e (either (q x)) }
  where
    go : (x : ℕ) → x < numbers → marked m x ≡ false → (q x ≡ true) ⊎ (q x ≡ false) → field v.bytes x 5 ≡ one (q x || r x)
    go x l e (inl b) = f.more.marks_kept x (of_one n x true (g.new x l e ∙ ap one b)) ∙ g.new x l e ∙ rw b
    go x l e (inr b) = f.new x l (of_one n x false (g.new x l e ∙ ap one b)) ∙ sym (rw b)

pub marks_where : (p : ℕ → Bool) (m : Memory) → Sized m → Marks m p (mark_where p m)
marks_where p m h = record { more = where_more p m; new = λ x l e. go x l e (either (p x)) }
  where
    go : (x : ℕ) → x < numbers → marked m x ≡ false → (p x ≡ true) ⊎ (p x ≡ false) → field (mark_where p m).bytes x 5 ≡ one (p x)
    go x l e (inl b) = where_new p m x l h e b ∙ sym (rw b)
    go x l e (inr b) = where_not p m x b ∙ no_mark m x e ∙ sym (rw b)

-- ---- equal tests mark the same, and of two tests the one after the other marks what either does

pub where_ext : (p q : ℕ → Bool) (m : Memory) → Sized m → ((x : ℕ) → x < numbers → p x ≡ q x) → mark_where p m ≡ mark_where q m
where_ext p q m h e = marks_same h (marks_where p m h) (marks_where q m h) (λ x l d. e x l)

pub where_then : (m : Memory) (p q r : ℕ → Bool) → Sized m → ((x : ℕ) → x < numbers → r x ≡ (p x || q x)) → mark_where q (mark_where p m) ≡ mark_where r m
where_then m p q r h e =
    marks_same h (marks_then (marks_where p m h) (marks_where q _ (where_length p m ∙ h))) (marks_where r m h) (λ x l d. sym (e x l))

-- ---- the mark of one number

-- a loop of which one turn does something is that turn
up_once : {A : Type 0} (f : ℕ → A → A) (x : ℕ) → ((k : ℕ) (s : A) → (k ≡ x → ⊥) → f k s ≡ s) → (n : ℕ) → x < n → (s : A) → up_to f n s ≡ f x s
unfolding up_to
up_once f x h zero l s = absurd (omega arith)
up_once f x h (suc n) l s =
    ⊎_elim
    (λ (e : x ≡ n). rw (up_keeps f (λ v. v ≡ s) n (λ k v b q. h k v (omega arith) ∙ q) s refl, e) refl)
    (λ (b : x < n). h n _ (omega arith) ∙ up_once f x h n b s)
    (eq-or-lt_of_le (le_of_suc-le-suc l))

pub one_where : (x : ℕ) (m : Memory) → x < numbers → mark_one x m ≡ mark_where (λ y. eqb y x) m
unfolding mark_where
one_where x m l =
    let step : ℕ → Memory → Memory = λ y v. cond (eqb y x) (mark_one y v) v in
    sym (up_once step x (λ k v n. rw (ne_eqb k x n)) numbers l m ∙ rw (eq-eqb x x refl))

-- ---- what reads no marks

pub kept_object_of : {m n : Memory} → MoreMarks m n → (d x : ℕ) → object_of n d x ≡ object_of m d x
unfolding object_of
kept_object_of g d x = rw (kept_object g x, kept_driver g x)

-- ---- loops that mark

-- the number that a walk through a set has come to, and then those that are left
pub walk_next : (m : Memory) (p q : ℕ → Bool) (x : ℕ) {n : Memory} → Sized m → Takes p (Some x) q → n ≡ mark_one x m → mark_where q n ≡ mark_where p m
walk_next m p q x h k is =
    ap (mark_where q) (is ∙ one_where x m (omega (arith, k.0))) ∙ where_then m (λ y. eqb y x) q p h (λ y l. k.1 y)

pub walk_end : (m : Memory) (p : ℕ → Bool) → ((y : ℕ) → p y ≡ false) → mark_where p m ≡ m
walk_end m p e = where_rest p m (λ x l q. absurd (true≢false (sym q ∙ e x)))

-- with those below k marked that pass
abbrev pub marked_below : ℕ → (ℕ → Bool) → Memory → Memory
marked_below k p m = up_to (λ x v. cond (p x) (mark_one x v) v) k m

below_more : (p : ℕ → Bool) (m : Memory) (k : ℕ) → k ≤ numbers → MoreMarks m (marked_below k p m)
below_more p m k l = up_keeps _ (MoreMarks m) k (λ x v b g. go x v g (omega arith) (p x)) m (more_none m)
  where
    go : (x : ℕ) (v : Memory) → MoreMarks m v → x < numbers → (b : Bool) → MoreMarks m (cond b (mark_one x v) v)
    go x v g b true = more_then g (rw (one_where x v b) (where_more _ v))
    go x v g b false = g

-- whether x is an object of d is asked when those below it are marked
pub objects_next : (m : Memory) (d x : ℕ) {v : Memory} {asked : Bool} → x < numbers → v ≡ marked_below x (object_of m d) m → asked ≡ object_of v d x
    → cond asked (mark_one x v) v ≡ marked_below (x + 1) (object_of m d) m
unfolding up_to
objects_next m d x {v} {asked} l is a =
    let o : asked ≡ object_of m d x = a ∙ ap (λ (u : Memory). object_of u d x) is ∙ kept_object_of (below_more (object_of m d) m x (omega arith)) d x in
    rw (o, is, add-one)
