-- Reading a layout in a text, and what a text settles before any call.
-- Assumes nothing.
use Rattle.std.specs.Prelude.{Bool, cond, ◌&&◌, List, [], ◌∷◌, ℕ, zero, suc, ◌+◌, ◌-◌, ◌*◌, leb, ltb, eqb, length, get_or}
use Rattle.layout.specs.Layout.{Object, Task, Objects, none, object, Form, root, task, Layout, depth, most_deep, most_bytes, line_feed, opening, closing, object_word, driver_word, level_word, task_word, image_word, reads_word}

-- ---- what is read at the head of a text

pub data Reading (A : Type 0) : Type 0 where
  -- what was read, and the text after it
  found : A → List ℕ → Reading A
  -- it cannot be read: what is left of the text from the byte on at which the reader leaves
  lost : List ℕ → Reading A

-- what was read, and then what follows it
unfoldable pub after : {A B : Type 0} → Reading A → (A → List ℕ → Reading B) → Reading B
after (found a t) k = k a t
after (lost t) k = lost t

-- ---- bytes, numbers, words

-- the byte c
unfoldable pub expect : {A : Type 0} → ℕ → A → List ℕ → Reading A
expect c a [] = lost []
expect c a (b ∷ t) = cond (eqb b c) (found a t) (lost (b ∷ t))

unfoldable pub is_digit : ℕ → Bool
is_digit b = leb 48 b && leb b 57

-- at most k more digits of a number that begins with v
unfoldable pub more_digits : ℕ → ℕ → List ℕ → Reading ℕ
more_digits zero v t = found v t
more_digits (suc k) v [] = found v []
more_digits (suc k) v (b ∷ t) = cond (is_digit b) (more_digits k (10 * v + (b - 48)) t) (found v (b ∷ t))

-- at most three digits, and none after a leading zero
unfoldable pub number : List ℕ → Reading ℕ
number [] = lost []
number (b ∷ t) = cond (eqb b 48) (found 0 t) (cond (is_digit b) (more_digits 2 (b - 48) t) (lost (b ∷ t)))

-- a word, and the number after it
unfoldable pub field : List ℕ → List ℕ → Reading ℕ
field [] t = number t
field (c ∷ w) [] = lost []
field (c ∷ w) (b ∷ t) = cond (eqb b c) (field w t) (lost (b ∷ t))

-- ---- forms

-- an object's words, up to what it holds
unfoldable pub head : List ℕ → Reading Object
head t =
    after (field object_word t) λ n u.
    after (field driver_word u) λ d v.
    after (field level_word v) λ l w.
    found (record { number = n; driver = d; level = l }) w

unfoldable pub task_at : List ℕ → Reading Task
task_at t =
    after (field task_word t) λ n u.
    after (field image_word u) λ i v.
    after (field level_word v) λ l w.
    after (field reads_word w) λ r x.
    expect closing (record { number = n; image = i; level = l; reads = r }) x

-- an object with what it holds, and the objects that one holds, each after a line feed; k bounds the steps
unfoldable mutual
  pub object_by : ℕ → List ℕ → Reading (Object × Objects)
  object_by zero t = lost t
  object_by (suc k) t = after (head t) λ h u. after (objects_by k u) λ inner v. expect closing (h, inner) v

  pub objects_by : ℕ → List ℕ → Reading Objects
  objects_by zero t = lost t
  objects_by (suc k) [] = found none []
  objects_by (suc k) (b ∷ t) =
      cond (eqb b line_feed) (after (object_by k t) λ f u. after (objects_by k u) λ next v. found (object f.0 f.1 next) v) (found none (b ∷ t))

-- each step but the last reads a byte, so the text's length and one more are bound enough
abbrev pub object_at : List ℕ → Reading (Object × Objects)
object_at t = object_by (suc (length t)) t

abbrev pub objects_at : List ℕ → Reading Objects
objects_at t = objects_by (suc (length t)) t

-- the second byte tells a task from an object
unfoldable pub form_at : List ℕ → Reading Form
form_at t = cond (eqb (get_or t 1 0) 116) (after (task_at t) λ a u. found (task a) u) (after (object_at t) λ f u. found (root f.0 f.1) u)

-- ---- a whole text

unfoldable pub layout_by : ℕ → List ℕ → Reading Layout
layout_by zero t = lost t
layout_by (suc k) [] = found [] []
layout_by (suc k) (b ∷ t) = after (form_at (b ∷ t)) λ f u. after (expect line_feed f u) λ g v. after (layout_by k v) λ fs w. found (g ∷ fs) w

-- the layout whose text this is
abbrev pub read_layout : List ℕ → Reading Layout
read_layout t = layout_by (suc (length t)) t

-- ---- what a text settles before any call

-- a fault has a place: how many bytes stand before it
pub data Settled : Type 0 where
  -- a layout that is not too deep
  fits : Layout → Settled
  -- 14, "form": outside the grammar, at the byte where the reader leaves; or too long, at the first byte too many
  broken : ℕ → Settled
  -- 15, "deep": a ninth level, at its opening bracket
  deep : ℕ → Settled

-- the brackets that are open after a byte
unfoldable pub opened : ℕ → ℕ → ℕ
opened held b = cond (eqb b opening) (held + 1) (cond (eqb b closing) (held - 1) held)

-- how far it is to the first opening bracket inside eight open ones
unfoldable pub ninth_from : ℕ → List ℕ → ℕ
ninth_from held [] = 0
ninth_from held (b ∷ t) = cond (eqb b opening && leb most_deep held) 0 (1 + ninth_from (opened held b) t)

-- 14 before 15: the whole text is read before depth is tested, and what is found is all of it
unfoldable pub settled_by : List ℕ → Reading Layout → Settled
settled_by t (found f u) = cond (leb (depth f) most_deep) (fits f) (deep (ninth_from 0 t))
settled_by t (lost u) = broken (length t - length u)

unfoldable pub settled : List ℕ → Settled
settled t = cond (ltb most_bytes (length t)) (broken most_bytes) (settled_by t (read_layout t))
