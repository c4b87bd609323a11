-- What the answers to objects, forms and what follows them tell of a reading, and the answers that a reading comes to.
-- Assumes nothing.
use Rattle.std.specs.Prelude.{◌≡◌, refl, Bool, true, false, ◌||◌, Result, Ok, Err, List, [], ◌∷◌, ℕ, ◌+◌, ◌-◌, ◌≤◌, ◌<◌, max, ltb, eqb, length, get_or, drop}
use Rattle.std.proofs.Common.{ap, ◌∙◌, arith, drop-drop, lt-ltb, le-ltb, ltb-true, ltb-false}
use Rattle.layout.specs.Layout.{Object, Task, Objects, none, object, depth_of, Form, root, task, form_depth, most_deep, line_feed, closing, inner_text, object_text, form_text}
use Rattle.layout.specs.Reading.{Reading, found, lost, after, head, task_at, object_at, objects_at, form_at}
use Rattle.layout.specs.Answers.{stands_at, answer, nest_answer, object_answer, objects_answer, form_answer}
use Rattle.layout.proofs.PlaceLaws.{ends, Tail, tail_then, tail_cons, tail_head, tail_task, rest_in, Goes, goes, Leaves, stands, stands_expected, stands_not, task_got}
use Rattle.layout.proofs.ReadingLaws.{object_sound, objects_sound, object_less, objects_less, object_is, objects_more, objects_stop, form_read, form_less}
use Rattle.layout.specs.declared.fields.Found.{Found}
use Rattle.layout.specs.declared.fields.Lost.{Lost}

-- ---- what is left after objects and forms

tail_inner : (fs : Objects) (u : List ℕ) → Tail (inner_text fs u) u
unfolding inner_text
tail_inner none u = (0, refl)
tail_inner (object h inner next) u = tail_then (tail_cons line_feed _) (tail_then (tail_head h _) (tail_then (tail_inner inner _) (tail_then (tail_cons closing _) (tail_inner next u))))

tail_object : (h : Object) (inner : Objects) (u : List ℕ) → Tail (object_text h inner u) u
unfolding object_text
tail_object h inner u = tail_then (tail_head h _) (tail_then (tail_inner inner (closing ∷ u)) (tail_cons closing u))

tail_form : (f : Form) (u : List ℕ) → Tail (form_text f u) u
unfolding form_text
tail_form (root h inner) u = tail_object h inner u
tail_form (task a) u = tail_task a u

-- what was read goes on further on
pub record Past {A : Type 0} (l : List ℕ) (at : ℕ) (r : Reading A) (a : A) (e : ℕ) : Type 0 where
  pub goes_on : Goes l at r a e
  pub fewer : length (drop e l) < length (drop at l)

past : {A : Type 0} (l u : List ℕ) (at e : ℕ) (r : Reading A) (a : A) → Tail (drop at l) u → length u < length (drop at l) → r ≡ found a u → length l - length u ≡ e → Past l at r a e
past l u at e r a t s p x = record { goes_on = goes l (drop at l) u at e r a a refl t (omega arith) p refl x; fewer = rw (← x, ← rest_in l (drop at l) u at refl t) s }

-- ---- what an answer tells

pub objects_got : (level : ℕ) (l : List ℕ) (at : ℕ) (f : Found Bool) → objects_answer level (length l) (objects_at (drop at l)) ≡ Ok f
    → (fs : Objects) × Goes l at (objects_at (drop at l)) fs f.end × (ltb most_deep (level + depth_of fs) ≡ f.value)
unfolding objects_answer
objects_got level l at f h = go (objects_at (drop at l)) refl h
  where
    go : (r : Reading Objects) → objects_at (drop at l) ≡ r → objects_answer level (length l) r ≡ Ok f → (fs : Objects) × Goes l at (objects_at (drop at l)) fs f.end × (ltb most_deep (level + depth_of fs) ≡ f.value)
    go (found fs u) p q = (fs, goes l (inner_text fs u) u at f.end (objects_at (drop at l)) fs fs (objects_sound _ (drop at l) fs u p).text (tail_inner fs u) (rw (← (objects_sound _ (drop at l) fs u p).text) (objects_less _ (drop at l) fs u p)) p refl (cc), cc)
    go (lost u) p q = absurd (cc)

pub objects_lost : (level n : ℕ) (r : Reading Objects) (x : Lost) → objects_answer level n r ≡ Err x → Leaves n r x.at
unfolding objects_answer
objects_lost level n (found a u) x q = absurd (cc)
objects_lost level n (lost u) x q = record { rest = u; is = refl; place = cc }

pub object_got : (level : ℕ) (l : List ℕ) (at : ℕ) (f : Found Bool) → object_answer level (length l) (object_at (drop at l)) ≡ Ok f
    → (o : Object × Objects) × Past l at (object_at (drop at l)) o f.end × (ltb most_deep (level + depth_of o.1) ≡ f.value)
unfolding object_answer
object_got level l at f h = go (object_at (drop at l)) refl h
  where
    go : (r : Reading (Object × Objects)) → object_at (drop at l) ≡ r → object_answer level (length l) r ≡ Ok f → (o : Object × Objects) × Past l at (object_at (drop at l)) o f.end × (ltb most_deep (level + depth_of o.1) ≡ f.value)
    go (found o u) p q = (o, past l u at f.end (object_at (drop at l)) o (rw (object_sound _ (drop at l) o u p).text (tail_object o.0 o.1 u)) (object_less _ (drop at l) o u p) p (cc), cc)
    go (lost u) p q = absurd (cc)

pub object_lost : (level n : ℕ) (r : Reading (Object × Objects)) (x : Lost) → object_answer level n r ≡ Err x → Leaves n r x.at
unfolding object_answer
object_lost level n (found a u) x q = absurd (cc)
object_lost level n (lost u) x q = record { rest = u; is = refl; place = cc }

pub form_got : (l : List ℕ) (at : ℕ) (f : Found Bool) → form_answer (length l) (form_at (drop at l)) ≡ Ok f → (o : Form) × Past l at (form_at (drop at l)) o f.end × (ltb most_deep (form_depth o) ≡ f.value)
unfolding form_answer
form_got l at f h = go (form_at (drop at l)) refl h
  where
    go : (r : Reading Form) → form_at (drop at l) ≡ r → form_answer (length l) r ≡ Ok f → (o : Form) × Past l at (form_at (drop at l)) o f.end × (ltb most_deep (form_depth o) ≡ f.value)
    go (found o u) p q = (o, past l u at f.end (form_at (drop at l)) o (rw (form_read (drop at l) o u p).1 (tail_form o u)) (form_less (drop at l) o u p) p (cc), cc)
    go (lost u) p q = absurd (cc)

pub form_lost : (n : ℕ) (r : Reading Form) (x : Lost) → form_answer n r ≡ Err x → Leaves n r x.at
unfolding form_answer
form_lost n (found a u) x q = absurd (cc)
form_lost n (lost u) x q = record { rest = u; is = refl; place = cc }

-- ---- what an object's reading comes to

pub object_past : (level n : ℕ) (r : Reading (Object × Objects)) → most_deep < level → nest_answer n r ≡ object_answer level n r
unfolding nest_answer object_answer
object_past level n (found f u) h = rw (lt-ltb most_deep (level + depth_of f.1) (omega arith))
object_past level n (lost u) h = refl

pub object_no_head : (level n : ℕ) (t : List ℕ) (e : ℕ) → Leaves n (head t) e → Err (record { at = e }) ≡ object_answer level n (object_at t)
unfolding after object_answer
object_no_head level n t e h = rw (object_is t, h.is, h.place)

pub object_no_inner : (level n : ℕ) (t : List ℕ) (h : Object) (u : List ℕ) (e : ℕ) → head t ≡ found h u → Leaves n (objects_at u) e → Err (record { at = e }) ≡ object_answer level n (object_at t)
unfolding after object_answer
object_no_inner level n t h u e p q = rw (object_is t, p, q.is, q.place)

pub object_unclosed : (level : ℕ) (l t : List ℕ) (h : Object) (u : List ℕ) (fs : Objects) (e : ℕ) → head t ≡ found h u → objects_at u ≡ found fs (drop e l) → stands_at closing (drop e l) ≡ false → e ≤ length l
    → Err (record { at = e }) ≡ object_answer level (length l) (object_at t)
unfolding after object_answer
object_unclosed level l t h u fs e p q s w = rw (object_is t, p, q, stands_not {A = Object × Objects} closing (h, fs) (drop e l) s, ends l e w)

pub object_closed : (level : ℕ) (l t : List ℕ) (h : Object) (u : List ℕ) (fs : Objects) (e : ℕ) → head t ≡ found h u → objects_at u ≡ found fs (drop e l) → stands_at closing (drop e l) ≡ true
    → Ok (record { value = ltb most_deep (level + depth_of fs); end = e + 1 }) ≡ object_answer level (length l) (object_at t)
unfolding after object_answer
object_closed level l t h u fs e p q s =
    rw (object_is t, p, q, stands_expected {A = Object × Objects} l e closing (h, fs) s, ends l (e + 1) (omega (arith, (stands l e closing s).0)))

-- ---- objects side by side

-- the answer to those that are left, where a ninth level was met or not
unfoldable pub rest : Bool → ℕ → ℕ → Reading Objects → Result (Found Bool) Lost
rest met level n (found fs u) = Ok (record { value = met || ltb most_deep (level + depth_of fs); end = n - length u })
rest met level n (lost u) = Err (record { at = n - length u })

pub rest_all : (level n : ℕ) (r : Reading Objects) → objects_answer level n r ≡ rest false level n r
unfolding objects_answer rest
rest_all level n (found fs u) = refl
rest_all level n (lost u) = refl

pub or_assoc : (a b c : Bool) → ((a || b) || c) ≡ (a || (b || c))
or_assoc true b c = refl
or_assoc false b c = refl

pub or_none : (a : Bool) → (a || false) ≡ a
or_none true = refl
or_none false = refl

-- the deeper of two goes past the eighth level if one of them does
pub either_past : (a b : ℕ) → ltb most_deep (max a b) ≡ (ltb most_deep a || ltb most_deep b)
either_past a b = go (ltb most_deep a) (ltb most_deep b) refl refl
  where
    go : (y z : Bool) → ltb most_deep a ≡ y → ltb most_deep b ≡ z → ltb most_deep (max a b) ≡ (y || z)
    go true z p q = lt-ltb most_deep (max a b) (omega (arith, ltb-true most_deep a p))
    go false true p q = lt-ltb most_deep (max a b) (omega (arith, ltb-true most_deep b q))
    go false false p q = le-ltb most_deep (max a b) (omega (arith, ltb-false most_deep a p, ltb-false most_deep b q))

deeper : (level a b : ℕ) → ltb most_deep (level + max (a + 1) b) ≡ (ltb most_deep (level + 1 + a) || ltb most_deep (level + b))
deeper level a b = let e : level + max (a + 1) b ≡ max (level + 1 + a) (level + b) = omega arith in rw e (either_past (level + 1 + a) (level + b))

rest_joins : (met : Bool) (level n : ℕ) (f : Object × Objects) (r : Reading Objects)
    → rest met level n (after r λ next v. found (object f.0 f.1 next) v) ≡ rest (met || ltb most_deep (level + 1 + depth_of f.1)) level n r
unfolding rest after depth_of
rest_joins met level n f (found fs u) = rw (deeper level (depth_of f.1) (depth_of fs), or_assoc met (ltb most_deep (level + 1 + depth_of f.1)) (ltb most_deep (level + depth_of fs)))
rest_joins met level n f (lost u) = refl

pub rest_more : (met : Bool) (level n : ℕ) (l : List ℕ) (at : ℕ) (f : Object × Objects) (e : ℕ) → stands_at line_feed (drop at l) ≡ true → object_at (drop (at + 1) l) ≡ found f (drop e l)
    → rest met level n (objects_at (drop at l)) ≡ rest (met || ltb most_deep (level + 1 + depth_of f.1)) level n (objects_at (drop e l))
unfolding after
rest_more met level n l at f e s p = rw ((stands l at line_feed s).1, objects_more (drop (at + 1) l), p) (rest_joins met level n f (objects_at (drop e l)))

pub rest_none : (met : Bool) (level n : ℕ) (l : List ℕ) (at e : ℕ) → stands_at line_feed (drop at l) ≡ true → Leaves n (object_at (drop (at + 1) l)) e → Err (record { at = e }) ≡ rest met level n (objects_at (drop at l))
unfolding after rest
rest_none met level n l at e s p = rw ((stands l at line_feed s).1, objects_more (drop (at + 1) l), p.is, p.place)

pub rest_ends : (met : Bool) (level : ℕ) (l : List ℕ) (at : ℕ) → level ≤ most_deep → stands_at line_feed (drop at l) ≡ false → at ≤ length l → Ok (record { value = met; end = at }) ≡ rest met level (length l) (objects_at (drop at l))
unfolding rest depth_of
rest_ends met level l at h s w = rw (objects_stop (drop at l) s, ends l at w, le-ltb most_deep (level + 0) (omega arith), or_none met)

-- ---- a form

second : (t : List ℕ) → eqb (get_or t 1 0) 116 ≡ stands_at 116 (drop 1 t)
unfolding stands_at
second [] = refl
second (b ∷ []) = refl
second (b ∷ c ∷ t) = refl

second_at : (l : List ℕ) (at : ℕ) → eqb (get_or (drop at l) 1 0) 116 ≡ stands_at 116 (drop (at + 1) l)
second_at l at = second (drop at l) ∙ ap (stands_at 116) (drop-drop 1 at l)

root_answer : (n : ℕ) (r : Reading (Object × Objects)) → object_answer 1 n r ≡ form_answer n (after r λ f u. found (root f.0 f.1) u)
unfolding object_answer form_answer after form_depth
root_answer n (found f u) = let e : 1 + depth_of f.1 ≡ depth_of f.1 + 1 = omega arith in rw e
root_answer n (lost u) = refl

pub form_object : (n : ℕ) (l : List ℕ) (at : ℕ) → stands_at 116 (drop (at + 1) l) ≡ false → object_answer 1 n (object_at (drop at l)) ≡ form_answer n (form_at (drop at l))
unfolding form_at
form_object n l at s = rw (second_at l at, s) (root_answer n (object_at (drop at l)))

pub form_task : (l : List ℕ) (at : ℕ) (f : Found Task) → stands_at 116 (drop (at + 1) l) ≡ true → answer (length l) (task_at (drop at l)) ≡ Ok f → Ok (record { value = false; end = f.end }) ≡ form_answer (length l) (form_at (drop at l))
unfolding form_at form_answer form_depth after
form_task l at f s h =
    let g = (task_got l at f h).0 in
    rw (second_at l at, s, g.is, ends l f.end g.within)

pub form_no_task : (l : List ℕ) (at e : ℕ) → stands_at 116 (drop (at + 1) l) ≡ true → Leaves (length l) (task_at (drop at l)) e → Err (record { at = e }) ≡ form_answer (length l) (form_at (drop at l))
unfolding form_at form_answer after
form_no_task l at e s h = rw (second_at l at, s, h.is, h.place)
