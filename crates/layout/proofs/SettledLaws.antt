-- What a whole text settles: its forms, one by one, and where the first ninth level begins.
-- Assumes nothing.
use Rattle.std.specs.Prelude.{◌≡◌, refl, Bool, true, false, cond, ◌&&◌, ◌||◌, Result, Ok, Err, List, ◌∷◌, ℕ, ◌+◌, ◌-◌, ◌≤◌, ◌<◌, leb, ltb, eqb, length, get_or, drop}
use Rattle.std.proofs.Common.{ap, ◌∙◌, arith, drop_of_length-le, lt-ltb, le-ltb, leb-true, leb-false}
use Rattle.layout.specs.Layout.{Form, form_depth, Layout, depth, most_deep, most_bytes, line_feed, opening, closing}
use Rattle.layout.specs.Reading.{Reading, found, lost, after, expect, form_at, layout_by, read_layout, fits, deep, opened, ninth_from, settled_by, settled}
use Rattle.layout.specs.Answers.{stands_at, text_answer}
use Rattle.layout.proofs.PlaceLaws.{ends, cons_at, Leaves, stands, stands_not}
use Rattle.layout.proofs.ReadingLaws.{layout_more, layout_line}
use Rattle.layout.proofs.AnswerLaws.{or_assoc, or_none, either_past}
use Rattle.layout.specs.declared.Fault.{Fault}
use Rattle.layout.specs.declared.Fault.TheVariants.{Broken, Deep}

-- ---- the forms of a text

-- the answer to those that are left of the text t, where a ninth level was met or not
unfoldable pub lines : List ℕ → Bool → Reading Layout → Result (Unit {0}) Fault
lines t met (found f u) = cond (met || ltb most_deep (depth f)) (Err (Deep (ninth_from 0 t))) (Ok tt)
lines t met (lost u) = Err (Broken (length t - length u))

lines_all : (t : List ℕ) (r : Reading Layout) → lines t false r ≡ text_answer (settled_by t r)
unfolding lines settled_by text_answer
lines_all t (found f u) = go (leb (depth f) most_deep) refl
  where
    go : (y : Bool) → leb (depth f) most_deep ≡ y → cond (ltb most_deep (depth f)) (Err (Deep (ninth_from 0 t))) (Ok tt) ≡ text_answer (cond y (fits f) (deep (ninth_from 0 t)))
    go true e = rw (le-ltb most_deep (depth f) (leb-true (depth f) most_deep e))
    go false e = rw (lt-ltb most_deep (depth f) (leb-false (depth f) most_deep e))
lines_all t (lost u) = refl

pub settled_long : (t : List ℕ) → most_bytes < length t → Err (Broken most_bytes) ≡ text_answer (settled t)
unfolding settled text_answer
settled_long t h = rw (lt-ltb most_bytes (length t) h)

pub settled_lines : (t : List ℕ) → length t ≤ most_bytes → lines t false (read_layout t) ≡ text_answer (settled t)
unfolding settled
settled_lines t h = rw (le-ltb most_bytes (length t) h) (lines_all t (read_layout t))

lines_join : (t : List ℕ) (met : Bool) (f : Form) (r : Reading Layout) → lines t met (after r λ fs w. found (f ∷ fs) w) ≡ lines t (met || ltb most_deep (form_depth f)) r
unfolding lines after depth
lines_join t met f (found fs u) = rw (either_past (form_depth f) (depth fs), or_assoc met (ltb most_deep (form_depth f)) (ltb most_deep (depth fs)))
lines_join t met f (lost u) = refl

pub lines_more : (met : Bool) (l : List ℕ) (at : ℕ) (f : Form) (e : ℕ) → form_at (drop at l) ≡ found f (drop e l) → stands_at line_feed (drop e l) ≡ true
    → lines l met (read_layout (drop at l)) ≡ lines l (met || ltb most_deep (form_depth f)) (read_layout (drop (e + 1) l))
lines_more met l at f e p s =
    ap (lines l met) (layout_line (drop at l) f (drop (e + 1) l) (p ∙ ap (found f) (stands l e line_feed s).1)) ∙ lines_join l met f (read_layout (drop (e + 1) l))

form_next : (l : List ℕ) (at : ℕ) → at < length l → read_layout (drop at l) ≡ (after (form_at (drop at l)) λ f u. after (expect line_feed f u) λ g v. after (read_layout v) λ fs w. found (g ∷ fs) w)
form_next l at h = rw (cons_at l at h) (layout_more (get_or l at 0) (drop (at + 1) l))

pub lines_no_form : (met : Bool) (l : List ℕ) (at e : ℕ) → at < length l → Leaves (length l) (form_at (drop at l)) e → Err (Broken e) ≡ lines l met (read_layout (drop at l))
unfolding lines after
lines_no_form met l at e h p = rw (form_next l at h, p.is, p.place)

pub lines_no_line : (met : Bool) (l : List ℕ) (at : ℕ) (f : Form) (e : ℕ) → at < length l → form_at (drop at l) ≡ found f (drop e l) → stands_at line_feed (drop e l) ≡ false → e ≤ length l
    → Err (Broken e) ≡ lines l met (read_layout (drop at l))
unfolding lines after
lines_no_line met l at f e h p s w = rw (form_next l at h, p, stands_not line_feed f (drop e l) s, ends l e w)

pub lines_end : (met : Bool) (l : List ℕ) (at : ℕ) → length l ≤ at → lines l met (read_layout (drop at l)) ≡ cond met (Err (Deep (ninth_from 0 l))) (Ok tt)
unfolding lines layout_by depth
lines_end met l at h = rw (drop_of_length-le l {i = at} h, or_none met)

-- ---- the first ninth level

pub ninth_here : (l : List ℕ) (at held : ℕ) → at < length l → (eqb (get_or l at 0) opening && leb most_deep held) ≡ true → ninth_from held (drop at l) ≡ 0
unfolding ninth_from
ninth_here l at held h e = rw (cons_at l at h, e)

pub ninth_on : (l : List ℕ) (at held : ℕ) → at < length l → (eqb (get_or l at 0) opening && leb most_deep held) ≡ false → ninth_from held (drop at l) ≡ 1 + ninth_from (opened held (get_or l at 0)) (drop (at + 1) l)
unfolding ninth_from
ninth_on l at held h e = rw (cons_at l at h, e)

pub ninth_past : (l : List ℕ) (at held : ℕ) → length l ≤ at → ninth_from held (drop at l) ≡ 0
unfolding ninth_from
ninth_past l at held h = rw (drop_of_length-le l {i = at} h)

pub opened_within : (held b : ℕ) → held ≤ most_deep → (eqb b opening && leb most_deep held) ≡ false → opened held b ≤ most_deep
unfolding opened
opened_within held b h e = go (eqb b opening) (eqb b closing) e
  where
    go : (y z : Bool) → (y && leb most_deep held) ≡ false → cond y (held + 1) (cond z (held - 1) held) ≤ most_deep
    go true z p = let q = leb-false most_deep held p in omega arith
    go false true p = omega arith
    go false false p = omega arith
