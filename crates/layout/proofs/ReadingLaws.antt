-- One reading: a text is the text of one layout at most, and the reader finds it.
-- Assumes nothing.
use Rattle.std.specs.Prelude.{◌≡◌, Bool, true, false, cond, List, [], ◌∷◌, ℕ, zero, suc, ◌≤◌, ◌<◌, eqb, length, get_or}
use Rattle.std.proofs.Math.Path.{refl}
use Rattle.std.proofs.Common.{sym, ap, ◌∙◌, arith, eqb-true}
use Rattle.layout.specs.Layout.{Object, ObjectFits, head_text, Task, task_text, Objects, none, object, ObjectsFit, inner_text, object_text, Form, FormFits, form_text, root, task, Layout, Fits, written, line_feed, closing, field_text, task_word, object_word}
use Rattle.layout.specs.Reading.{Reading, found, lost, after, expect, is_digit, head, task_at, object_by, objects_by, object_at, objects_at, form_at, layout_by, read_layout}
use Rattle.layout.proofs.NumberLaws.{found_inj, lost_found, after_found, expect_found, expect_is, starts, head_written, head_read, task_written, task_read, head_longer, task_longer}
use Rattle.layout.specs.Answers.{stands_at}

-- ---- readings that go on alike

pub after_same : {A B : Type 0} (r : Reading A) (f g : A → List ℕ → Reading B) → ((a : A) (u : List ℕ) → r ≡ found a u → f a u ≡ g a u) → after r f ≡ after r g
unfolding after
after_same (found a u) f g e = e a u refl
after_same (lost u) f g e = refl

-- ---- what is read is the text

pub record IsObject (t : List ℕ) (f : Object × Objects) (u : List ℕ) : Type 0 where
  pub head_fits : ObjectFits f.0
  pub inner_fit : ObjectsFit f.1
  pub text : t ≡ object_text f.0 f.1 u

pub record AreObjects (t : List ℕ) (fs : Objects) (u : List ℕ) : Type 0 where
  pub fit : ObjectsFit fs
  pub text : t ≡ inner_text fs u
  pub ends : stands_at line_feed u ≡ false

object_joins : (h : Object) (inner : Objects) (f : Object × Objects) (t u v w : List ℕ) → ObjectFits h × (t ≡ head_text h u) → AreObjects u inner v
    → (◌≡◌ {A = Object × Objects} (h, inner) f) × (v ≡ closing ∷ w) → IsObject t f w
unfolding object_text
object_joins h inner f t u v w H I e = rw (← e.0) (record { head_fits = H.0; inner_fit = I.fit; text = H.1 ∙ ap (head_text h) (I.text ∙ ap (inner_text inner) e.1) })

objects_join : (f : Object × Objects) (next fs : Objects) (b : ℕ) (t u v w : List ℕ) → b ≡ line_feed → IsObject t f u → AreObjects u next v → (object f.0 f.1 next ≡ fs) × (v ≡ w) → AreObjects (b ∷ t) fs w
unfolding object_text inner_text ObjectsFit
objects_join f next fs b t u v w p F N e = rw (← e.0, ← e.1) (record { fit = (F.head_fits, F.inner_fit, N.fit); text = rw (p, F.text, N.text); ends = N.ends })

end_sound : (t : List ℕ) (fs : Objects) (u : List ℕ) → stands_at line_feed t ≡ false → (none ≡ fs) × (t ≡ u) → AreObjects t fs u
unfolding inner_text ObjectsFit
end_sound t fs u o e = rw (← e.0, ← e.1) (record { fit = tt; text = refl; ends = o })

line_sound : (k b : ℕ) (t : List ℕ) (fs : Objects) (u : List ℕ) (y : Bool) → eqb b line_feed ≡ y
    → cond y (after (object_by k t) λ f v. after (objects_by k v) λ next w. found (object f.0 f.1 next) w) (found none (b ∷ t)) ≡ found fs u
    → ((f : Object × Objects) (v : List ℕ) → object_by k t ≡ found f v → IsObject t f v)
    → ((v : List ℕ) (gs : Objects) (w : List ℕ) → objects_by k v ≡ found gs w → AreObjects v gs w)
    → AreObjects (b ∷ t) fs u
unfolding stands_at
line_sound k b t fs u true p e one all =
    let f = after_found (object_by k t) _ fs u e in
    let n = after_found (objects_by k f.1) _ fs u f.3 in
    objects_join f.0 n.0 fs b t f.1 n.1 u (eqb-true b line_feed p) (one f.0 f.1 f.2) (all f.1 n.0 n.1 n.2) (found_inj _ fs n.1 u n.3)
line_sound k b t fs u false p e one all = end_sound (b ∷ t) fs u p (found_inj none fs (b ∷ t) u e)

mutual
  unfolding object_by stands_at

  pub object_sound : (k : ℕ) (t : List ℕ) (f : Object × Objects) (u : List ℕ) → object_by k t ≡ found f u → IsObject t f u
  object_sound zero t f u e = lost_found f t u e
  object_sound (suc k) t f u e =
      let h = after_found (head t) _ f u e in
      let i = after_found (objects_by k h.1) _ f u h.3 in
      object_joins h.0 i.0 f t h.1 i.1 u (head_read t h.0 h.1 h.2) (objects_sound k h.1 i.0 i.1 i.2) (expect_found closing _ f i.1 u i.3)

  pub objects_sound : (k : ℕ) (t : List ℕ) (fs : Objects) (u : List ℕ) → objects_by k t ≡ found fs u → AreObjects t fs u
  objects_sound zero t fs u e = lost_found fs t u e
  objects_sound (suc k) [] fs u e = end_sound [] fs u refl (found_inj none fs [] u e)
  objects_sound (suc k) (b ∷ t) fs u e = line_sound k b t fs u (eqb b line_feed) refl e (λ f v q. object_sound k t f v q) (λ v gs w q. objects_sound k v gs w q)

-- ---- reading goes on

inner_longer : (fs : Objects) (rest : List ℕ) → length rest ≤ length (inner_text fs rest)
unfolding inner_text
inner_longer none rest = omega arith
inner_longer (object h inner next) rest =
    omega (arith, head_longer h (inner_text inner (closing ∷ inner_text next rest)), inner_longer inner (closing ∷ inner_text next rest), inner_longer next rest)

object_longer : (h : Object) (inner : Objects) (rest : List ℕ) → length rest < length (object_text h inner rest)
unfolding object_text
object_longer h inner rest = omega (arith, head_longer h (inner_text inner (closing ∷ rest)), inner_longer inner (closing ∷ rest))

form_longer : (f : Form) (rest : List ℕ) → length rest < length (form_text f rest)
unfolding form_text
form_longer (root h inner) rest = object_longer h inner rest
form_longer (task a) rest = task_longer a rest

pub head_less : (t : List ℕ) (h : Object) (u : List ℕ) → head t ≡ found h u → length u < length t
head_less t h u e = rw (head_read t h u e).1 (head_longer h u)

pub object_less : (k : ℕ) (t : List ℕ) (f : Object × Objects) (u : List ℕ) → object_by k t ≡ found f u → length u < length t
object_less k t f u e = rw (object_sound k t f u e).text (object_longer f.0 f.1 u)

pub objects_less : (k : ℕ) (t : List ℕ) (fs : Objects) (u : List ℕ) → objects_by k t ≡ found fs u → length u ≤ length t
objects_less k t fs u e = rw (objects_sound k t fs u e).text (inner_longer fs u)

-- ---- any bound above the unread length serves

mutual
  unfolding object_by

  object_same : (j k : ℕ) (t : List ℕ) → length t < j → length t < k → object_by j t ≡ object_by k t
  object_same zero k t l m = absurd (omega arith)
  object_same (suc j) zero t l m = absurd (omega arith)
  object_same (suc j) (suc k) t l m =
      after_same (head t) _ _ λ h u e. ap (λ (r : Reading Objects). after r λ inner v. expect closing (h, inner) v) (objects_same j k u (omega (arith, head_less t h u e)) (omega (arith, head_less t h u e)))

  objects_same : (j k : ℕ) (t : List ℕ) → length t < j → length t < k → objects_by j t ≡ objects_by k t
  objects_same zero k t l m = absurd (omega arith)
  objects_same (suc j) zero t l m = absurd (omega arith)
  objects_same (suc j) (suc k) [] l m = refl
  objects_same (suc j) (suc k) (b ∷ t) l m =
      ap (λ (r : Reading Objects). cond (eqb b line_feed) r (found none (b ∷ t)))
      (ap (λ (r : Reading (Object × Objects)). after r λ f u. after (objects_by j u) λ next v. found (object f.0 f.1 next) v) (object_same j k t (omega arith) (omega arith))
      ∙ after_same (object_by k t) _ _ λ f u e. ap (λ (r : Reading Objects). after r λ next v. found (object f.0 f.1 next) v) (objects_same j k u (omega (arith, object_less k t f u e)) (omega (arith, object_less k t f u e))))

pub objects_enough : (k : ℕ) (t : List ℕ) → length t < k → objects_by k t ≡ objects_at t
objects_enough k t l = objects_same k (suc (length t)) t l (omega arith)

-- ---- the two readers, each by the other

pub object_is : (t : List ℕ) → object_at t ≡ after (head t) λ h u. after (objects_at u) λ inner v. expect closing (h, inner) v
unfolding object_by
object_is t = after_same (head t) _ _ λ h u e. ap (λ (r : Reading Objects). after r λ inner v. expect closing (h, inner) v) (objects_enough (length t) u (head_less t h u e))

pub objects_more : (t : List ℕ) → objects_at (line_feed ∷ t) ≡ after (object_at t) λ f u. after (objects_at u) λ next v. found (object f.0 f.1 next) v
unfolding object_by
objects_more t = after_same (object_at t) _ _ λ f u e. ap (λ (r : Reading Objects). after r λ next v. found (object f.0 f.1 next) v) (objects_enough (suc (length t)) u (omega (arith, object_less (suc (length t)) t f u e)))

stops : (k : ℕ) (u : List ℕ) → stands_at line_feed u ≡ false → length u < k → objects_by k u ≡ found none u
unfolding object_by stands_at
stops zero u e l = absurd (omega arith)
stops (suc k) [] e l = refl
stops (suc k) (b ∷ t) e l = rw e

pub objects_stop : (t : List ℕ) → stands_at line_feed t ≡ false → objects_at t ≡ found none t
objects_stop t e = stops (suc (length t)) t e (omega arith)

-- ---- the text is read

pub inner_starts : (fs : Objects) (u : List ℕ) → starts (inner_text fs (closing ∷ u)) ≡ false
unfolding starts is_digit inner_text
inner_starts none u = refl
inner_starts (object h inner next) u = refl

pub object_written : (h : Object) (inner : Objects) (u : List ℕ) → ObjectFits h → objects_at (inner_text inner (closing ∷ u)) ≡ found inner (closing ∷ u) → object_at (object_text h inner u) ≡ found (h, inner) u
unfolding object_text after
object_written h inner u g e = object_is (head_text h (inner_text inner (closing ∷ u))) ∙ rw (head_written h (inner_text inner (closing ∷ u)) g (inner_starts inner u), e) (expect_is closing (h, inner) u)

pub objects_written : (fs : Objects) (u : List ℕ) → ObjectsFit fs → stands_at line_feed u ≡ false → objects_at (inner_text fs u) ≡ found fs u
unfolding inner_text object_text ObjectsFit stands_at after
objects_written none u g e = objects_stop u e
objects_written (object h inner next) u g e =
    objects_more (object_text h inner (inner_text next u)) ∙ rw (object_written h inner (inner_text next u) g.0 (objects_written inner (closing ∷ inner_text next u) g.1 refl), objects_written next u g.2 e)

-- ---- a form

pub form_written : (f : Form) (u : List ℕ) → FormFits f → form_at (form_text f u) ≡ found f u
unfolding form_at form_text FormFits after
form_written (task a) u g =
    let is : get_or (task_text a u) 1 0 ≡ 116 = unfold task_text field_text task_word in refl in
    rw (is, task_written a u g)
form_written (root h inner) u g =
    let is : get_or (object_text h inner u) 1 0 ≡ 111 = unfold object_text head_text field_text object_word in refl in
    rw (is, object_written h inner u g.0 (objects_written inner (closing ∷ u) g.1 (unfold stands_at in refl)))

form_root : (f : Object × Objects) (i : Form) (t v u : List ℕ) → IsObject t f v → (root f.0 f.1 ≡ i) × (v ≡ u) → FormFits i × (t ≡ form_text i u)
unfolding form_text FormFits
form_root f i t v u s j = rw (← j.0, ← j.1) ((s.head_fits, s.inner_fit), s.text)

form_task : (a : Task) (i : Form) (t v u : List ℕ) → task_at t ≡ found a v → (task a ≡ i) × (v ≡ u) → FormFits i × (t ≡ form_text i u)
unfolding form_text FormFits
form_task a i t v u e j = rw (← j.0, ← j.1) (task_read t a v e)

pub form_read : (t : List ℕ) (i : Form) (u : List ℕ) → form_at t ≡ found i u → FormFits i × (t ≡ form_text i u)
unfolding form_at
form_read t i u e = go (eqb (get_or t 1 0) 116) e
  where
    go : (y : Bool) → cond y (after (task_at t) λ a v. found (task a) v) (after (object_at t) λ f v. found (root f.0 f.1) v) ≡ found i u → FormFits i × (t ≡ form_text i u)
    go true q =
        let a = after_found (task_at t) _ i u q in
        form_task a.0 i t a.1 u a.2 (found_inj (task a.0) i a.1 u a.3)
    go false q =
        let f = after_found (object_at t) _ i u q in
        form_root f.0 i t f.1 u (object_sound (suc (length t)) t f.0 f.1 f.2) (found_inj (root f.0.0 f.0.1) i f.1 u f.3)

pub form_less : (t : List ℕ) (f : Form) (u : List ℕ) → form_at t ≡ found f u → length u < length t
form_less t f u e = rw (form_read t f u e).1 (form_longer f u)

-- ---- a layout

-- a form and its line feed, and the forms after it
layout_joins : (i j : Form) (rest f : Layout) (t u v w x : List ℕ) → FormFits i × (t ≡ form_text i u) → (i ≡ j) × (u ≡ line_feed ∷ v) → Fits rest × (w ≡ []) × (written rest ≡ v) → (j ∷ rest ≡ f) × (w ≡ x)
    → Fits f × (x ≡ []) × (written f ≡ t)
unfolding written Fits
layout_joins i j rest f t u v w x I e R g = rw (← g.0, ← g.1, ← e.0) ((I.0, R.0), R.1, sym (I.1 ∙ rw (e.1, ← R.2)))

pub layout_sound : (k : ℕ) (t : List ℕ) (f : Layout) (u : List ℕ) → layout_by k t ≡ found f u → Fits f × (u ≡ []) × (written f ≡ t)
unfolding layout_by written Fits
layout_sound zero t f u e = lost_found f t u e
layout_sound (suc k) [] f u e = let i = found_inj [] f [] u e in rw (← i.0, ← i.1) (tt, refl, refl)
layout_sound (suc k) (b ∷ t) f u e =
    let i = after_found (form_at (b ∷ t)) _ f u e in
    let j = after_found (expect line_feed i.0 i.1) _ f u i.3 in
    let r = after_found (layout_by k j.1) _ f u j.3 in
    layout_joins i.0 j.0 r.0 f (b ∷ t) i.1 j.1 r.1 u (form_read (b ∷ t) i.0 i.1 i.2) (expect_found line_feed i.0 j.0 i.1 j.1 j.2)
    (layout_sound k j.1 r.0 r.1 r.2) (found_inj (j.0 ∷ r.0) f r.1 u r.3)

layout_same : (j k : ℕ) (t : List ℕ) → length t < j → length t < k → layout_by j t ≡ layout_by k t
unfolding layout_by
layout_same zero k t l m = absurd (omega arith)
layout_same (suc j) zero t l m = absurd (omega arith)
layout_same (suc j) (suc k) [] l m = refl
layout_same (suc j) (suc k) (b ∷ t) l m =
    after_same (form_at (b ∷ t)) _ _ λ f u e. after_same (expect line_feed f u) _ _ λ g v q.
    let n = ap length (expect_found line_feed f g u v q).1 in
    let s = form_less (b ∷ t) f u e in
    ap (λ (r : Reading Layout). after r λ fs w. found (g ∷ fs) w) (layout_same j k v (omega arith) (omega arith))

-- the forms of a text, one by one
pub layout_more : (b : ℕ) (t : List ℕ) → read_layout (b ∷ t) ≡ after (form_at (b ∷ t)) λ f u. after (expect line_feed f u) λ g v. after (read_layout v) λ fs w. found (g ∷ fs) w
unfolding layout_by
layout_more b t =
    after_same (form_at (b ∷ t)) _ _ λ f u e. after_same (expect line_feed f u) _ _ λ g v q.
    let n = ap length (expect_found line_feed f g u v q).1 in
    let s = form_less (b ∷ t) f u e in
    ap (λ (r : Reading Layout). after r λ fs w. found (g ∷ fs) w) (layout_same (suc (length t)) (suc (length v)) v (omega arith) (omega arith))

pub layout_line : (t : List ℕ) (f : Form) (v : List ℕ) → form_at t ≡ found f (line_feed ∷ v) → read_layout t ≡ after (read_layout v) λ fs w. found (f ∷ fs) w
unfolding after
layout_line [] f v e = let n = form_less [] f (line_feed ∷ v) e in absurd (omega arith)
layout_line (b ∷ t) f v e = layout_more b t ∙ rw (e, expect_is line_feed f v)

pub layout_written : (f : Layout) → Fits f → read_layout (written f) ≡ found f []
unfolding written Fits after
layout_written [] g = unfold layout_by in refl
layout_written (i ∷ rest) g = layout_line (form_text i (line_feed ∷ written rest)) i (written rest) (form_written i (line_feed ∷ written rest) g.0) ∙ rw (layout_written rest g.1)
