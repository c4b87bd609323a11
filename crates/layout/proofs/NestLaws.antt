-- Counting brackets past the eighth level: it reads what the grammar reads.
-- Assumes nothing.
use Rattle.std.specs.Prelude.{◌≡◌, refl, Bool, true, false, cond, Result, Ok, Err, List, [], ◌∷◌, ℕ, zero, suc, ◌+◌, ◌-◌, ◌≤◌, ◌<◌, eqb, length, drop}
use Rattle.std.proofs.Common.{ap, ◌∙◌, arith, add-one}
use Rattle.layout.specs.Layout.{Object, Objects, object, line_feed, closing}
use Rattle.layout.specs.Reading.{Reading, found, lost, after, expect, head, object_at, objects_at}
use Rattle.layout.proofs.NumberLaws.{expect_is}
use Rattle.layout.proofs.PlaceLaws.{ends, Leaves, stands, stands_not}
use Rattle.layout.proofs.ReadingLaws.{object_is, objects_more, objects_stop}
use Rattle.layout.specs.Answers.{stands_at, nest_answer}
use Rattle.layout.specs.declared.fields.Found.{Found}
use Rattle.layout.specs.declared.fields.Lost.{Lost}

-- the closing bracket
abbrev pub shut : List ℕ → Reading (Unit {0})
shut t = expect closing (tt {0}) t

-- the rest of k open objects, the innermost first: what it still holds, and its closing bracket
unfoldable pub closes : ℕ → List ℕ → Reading (Unit {0})
closes zero t = found (tt {0}) t
closes (suc k) t = after (objects_at t) λ inner u. after (shut u) λ _ v. closes k v

unfoldable pub close_answer : ℕ → Reading (Unit {0}) → Result (Found Bool) Lost
close_answer n (found a u) = Ok (record { value = true; end = n - length u })
close_answer n (lost u) = Err (record { at = n - length u })

-- ---- where reading goes on without what was read

-- after a closing bracket
shut_then : {A B : Type 0} (a : A) (u : List ℕ) (m : List ℕ → Reading B) → (after (expect closing a u) λ _ v. m v) ≡ (after (shut u) λ _ v. m v)
unfolding after expect
shut_then a [] m = refl
shut_then a (b ∷ u) m = go (eqb b closing)
  where
    go : (y : Bool) → (after (cond y (found a u) (lost (b ∷ u))) λ _ v. m v) ≡ (after (cond y (found (tt {0}) u) (lost (b ∷ u))) λ _ v. m v)
    go true = refl
    go false = refl

-- after what an object holds
inner_then : {B : Type 0} (h : Object) (r : Reading Objects) (m : List ℕ → Reading B) → (after (after {B = Object × Objects} r λ inner w. expect closing (h, inner) w) λ _ x. m x) ≡ (after r λ _ w. after (shut w) λ _ x. m x)
unfolding after
inner_then h (found inner w) m = shut_then {A = Object × Objects} (h, inner) w m
inner_then h (lost w) m = refl

-- after an object
head_then : {B : Type 0} (r : Reading Object) (m : List ℕ → Reading B)
    → (after (after {B = Object × Objects} r λ h v. after (objects_at v) λ inner w. expect closing (h, inner) w) λ _ x. m x) ≡ (after r λ _ v. after (objects_at v) λ _ w. after (shut w) λ _ x. m x)
unfolding after
head_then (found h v) m = inner_then h (objects_at v) m
head_then (lost v) m = refl

object_then : {B : Type 0} (t : List ℕ) (m : List ℕ → Reading B) → (after (object_at t) λ _ x. m x) ≡ (after (head t) λ _ v. after (objects_at v) λ _ w. after (shut w) λ _ x. m x)
object_then t m = rw (object_is t) (head_then (head t) m)

-- after the objects that follow one
next_then : {B : Type 0} (f : Object × Objects) (r : Reading Objects) (m : List ℕ → Reading B) → (after (after r λ next v. found (object f.0 f.1 next) v) λ _ x. m x) ≡ (after r λ _ x. m x)
unfolding after
next_then f (found next v) m = refl
next_then f (lost v) m = refl

line_then : {B : Type 0} (r : Reading (Object × Objects)) (m : List ℕ → Reading B)
    → (after (after r λ f u. after (objects_at u) λ next v. found (object f.0 f.1 next) v) λ _ x. m x) ≡ (after r λ _ u. after (objects_at u) λ _ x. m x)
unfolding after
line_then (found f u) m = next_then f (objects_at u) m
line_then (lost u) m = refl

-- ---- a byte on

pub closes_one : (k : ℕ) (u : List ℕ) → closes (suc k) (closing ∷ u) ≡ closes k u
unfolding closes after
closes_one k u = rw (objects_stop (closing ∷ u) (unfold stands_at in refl), expect_is closing (tt {0}) u)

pub closes_more : (k : ℕ) (u : List ℕ) → closes (suc k) (line_feed ∷ u) ≡ (after (head u) λ _ v. closes (suc (suc k)) v)
unfolding closes
closes_more k u = rw (objects_more u) (line_then (object_at u) (λ x. after (shut x) λ _ v. closes k v) ∙ object_then u (closes (suc k)))

pub closes_lost : (k : ℕ) (t : List ℕ) → stands_at closing t ≡ false → stands_at line_feed t ≡ false → closes (suc k) t ≡ lost t
unfolding closes after
closes_lost k t c l = rw (objects_stop t l, stands_not closing (tt {0}) t c)

-- ---- a whole object

pub nest_is : (n : ℕ) (t : List ℕ) → nest_answer n (object_at t) ≡ close_answer n (after (head t) λ _ u. closes 1 u)
unfolding closes nest_answer close_answer after
nest_is n t = go (object_at t) ∙ ap (close_answer n) (object_then t (λ x. found (tt {0}) x))
  where
    go : (r : Reading (Object × Objects)) → nest_answer n r ≡ close_answer n (after r λ _ x. found (tt {0}) x)
    go (found f u) = refl
    go (lost u) = refl

-- ---- at a place of the text: what counting answers

pub nest_no_head : (n : ℕ) (t : List ℕ) (e : ℕ) → Leaves n (head t) e → Err (record { at = e }) ≡ nest_answer n (object_at t)
unfolding after close_answer
nest_no_head n t e h = rw (nest_is n t, h.is, h.place)

pub nest_begins : (l t : List ℕ) (h : Object) (e : ℕ) → head t ≡ found h (drop e l) → nest_answer (length l) (object_at t) ≡ close_answer (length l) (closes 1 (drop e l))
unfolding after
nest_begins l t h e p = rw (nest_is (length l) t, p)

pub nest_shuts : (l : List ℕ) (k at : ℕ) → 0 < k → stands_at closing (drop at l) ≡ true → closes k (drop at l) ≡ closes (k - 1) (drop (at + 1) l)
nest_shuts l zero at h s = absurd (omega arith)
nest_shuts l (suc k) at h s = let e : suc k - 1 ≡ k = omega arith in rw ((stands l at closing s).1, e) (closes_one k (drop (at + 1) l))

-- another object begins inside
nest_inner : (l : List ℕ) (k at : ℕ) → 0 < k → stands_at line_feed (drop at l) ≡ true → closes k (drop at l) ≡ (after (head (drop (at + 1) l)) λ _ v. closes (k + 1) v)
nest_inner l zero at h s = absurd (omega arith)
nest_inner l (suc k) at h s = rw ((stands l at line_feed s).1, add-one (suc k)) (closes_more k (drop (at + 1) l))

pub nest_opens : (l : List ℕ) (k at : ℕ) (h : Object) (e : ℕ) → 0 < k → stands_at line_feed (drop at l) ≡ true → head (drop (at + 1) l) ≡ found h (drop e l) → closes k (drop at l) ≡ closes (k + 1) (drop e l)
unfolding after
nest_opens l k at h e z s p = nest_inner l k at z s ∙ rw p

pub nest_no_inner : (n : ℕ) (l : List ℕ) (k at e : ℕ) → 0 < k → stands_at line_feed (drop at l) ≡ true → Leaves n (head (drop (at + 1) l)) e → close_answer n (closes k (drop at l)) ≡ Err (record { at = e })
unfolding after close_answer
nest_no_inner n l k at e z s p = ap (close_answer n) (nest_inner l k at z s) ∙ rw (p.is, p.place)

pub nest_lost : (l : List ℕ) (k at : ℕ) → 0 < k → at ≤ length l → stands_at closing (drop at l) ≡ false → stands_at line_feed (drop at l) ≡ false → close_answer (length l) (closes k (drop at l)) ≡ Err (record { at = at })
unfolding close_answer
nest_lost l zero at z w c s = absurd (omega arith)
nest_lost l (suc k) at z w c s = rw (closes_lost k (drop at l) c s, ends l at w)

pub nest_ends : (l : List ℕ) (k at : ℕ) → k ≡ 0 → at ≤ length l → close_answer (length l) (closes k (drop at l)) ≡ Ok (record { value = true; end = at })
unfolding closes close_answer
nest_ends l k at z w = rw (z, ends l at w)
