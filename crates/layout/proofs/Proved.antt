-- The claims about a layout's text, proved.
-- Assumes nothing.
use Rattle.std.specs.Prelude.{◌≡◌, refl, Bool, true, false, cond, ◌&&◌, ◌⊎◌, List, [], ◌∷◌, ℕ, ◌+◌, ◌-◌, ◌≤◌, ◌<◌, leb, ltb, eqb, length}
use Rattle.std.proofs.Common.{sym, ◌∙◌, inl, inr, arith, le-leb, le-ltb, leb-true, leb-false, ltb-true, ltb-false}
use Rattle.std.proofs.lemmas.Bool.{lt-leb}
use Rattle.layout.specs.Layout.{Layout, Fits, written, depth, opening, most_deep, most_bytes}
use Rattle.layout.specs.Reading.{Reading, found, lost, read_layout, Settled, fits, broken, deep, opened, ninth_from, settled_by, settled}
use Rattle.layout.proofs.NumberLaws.{found_inj, lost_found}
use Rattle.layout.proofs.ReadingLaws.{layout_sound, layout_written}
use Rattle.layout.specs.Claims.{OneReading, ReadsWhole, OneLayout, SettlesAll, SettlesBroken, SettlesDeep, PlaceWithin}

pub reads_whole : ReadsWhole
reads_whole t f u e = layout_sound _ t f u e

pub one_reading : OneReading
one_reading f t g = (λ e. rw (← e) (layout_written f g), λ e. (reads_whole t f [] e).2)

pub one_layout : OneLayout
one_layout f g p q e = (found_inj f g [] [] (sym (layout_written f p) ∙ rw e (layout_written g q))).0

-- ---- what a text settles

-- what is so of a text that settles so
unfoldable Told : List ℕ → Settled → Type 0
Told t (fits f) = Fits f × (written f ≡ t) × (depth f ≤ most_deep) × (length t ≤ most_bytes)
Told t (broken place) = (most_bytes < length t) ⊎ ((f : Layout) → Fits f → written f ≡ t → ⊥)
Told t (deep place) = (f : Layout) × Fits f × (written f ≡ t) × (most_deep < depth f) × (length t ≤ most_bytes)

by_reading : (t : List ℕ) (r : Reading Layout) → read_layout t ≡ r → length t ≤ most_bytes → Told t (settled_by t r)
unfolding Told settled_by
by_reading t (found f u) e l = go (leb (depth f) most_deep) refl
  where
    go : (y : Bool) → leb (depth f) most_deep ≡ y → Told t (cond y (fits f) (deep (ninth_from 0 t)))
    go true p = let w = reads_whole t f u e in (w.0, w.2, leb-true (depth f) most_deep p, l)
    go false p = let w = reads_whole t f u e in (f, w.0, w.2, leb-false (depth f) most_deep p, l)
by_reading t (lost u) e l = inr (λ f g h. lost_found f u [] (sym e ∙ (one_reading f t g).0 h))

told : (t : List ℕ) → Told t (settled t)
unfolding settled Told
told t = go (ltb most_bytes (length t)) refl
  where
    go : (y : Bool) → ltb most_bytes (length t) ≡ y → Told t (cond y (broken most_bytes) (settled_by t (read_layout t)))
    go true e = inl (ltb-true most_bytes (length t) e)
    go false e = by_reading t (read_layout t) refl (ltb-false most_bytes (length t) e)

settles : (t : List ℕ) (f : Layout) → Fits f → written f ≡ t → length t ≤ most_bytes → settled t ≡ cond (leb (depth f) most_deep) (fits f) (deep (ninth_from 0 t))
unfolding settled settled_by
settles t f g w l = rw (le-ltb most_bytes (length t) l, (one_reading f t g).0 w)

pub settles_all : SettlesAll
unfolding Told
settles_all t f = (λ e. rw e at (told t), λ e. settles t f e.0 e.1 e.3 ∙ rw (le-leb (depth f) most_deep e.2))

pub settles_deep : SettlesDeep
unfolding Told
settles_deep t = (λ e. rw e.1 at (told t), λ e. (ninth_from 0 t, settles t e.0 e.1 e.2 e.4 ∙ rw (lt-leb (depth e.0) most_deep e.3)))

-- a text of no layout is left somewhere
left_somewhere : (t : List ℕ) (r : Reading Layout) → read_layout t ≡ r → ((f : Layout) → Fits f → written f ≡ t → ⊥) → (place : ℕ) × (settled_by t r ≡ broken place)
unfolding settled_by
left_somewhere t (found f u) e none = let w = reads_whole t f u e in absurd (none f w.0 w.2)
left_somewhere t (lost u) e none = (length t - length u, refl)

pub settles_broken : SettlesBroken
unfolding Told settled
settles_broken t = (λ e. rw e.1 at (told t), λ e. go (ltb most_bytes (length t)) refl e)
  where
    go : (y : Bool) → ltb most_bytes (length t) ≡ y → (most_bytes < length t) ⊎ ((f : Layout) → Fits f → written f ≡ t → ⊥)
        → (place : ℕ) × (cond y (broken most_bytes) (settled_by t (read_layout t)) ≡ broken place)
    go true e h = (most_bytes, refl)
    go false e (inl h) = let l = ltb-false most_bytes (length t) e in absurd (omega arith)
    go false e (inr h) = left_somewhere t (read_layout t) refl h

-- ---- places

ninth_within : (held : ℕ) (t : List ℕ) → ninth_from held t ≤ length t
unfolding ninth_from
ninth_within held [] = omega arith
ninth_within held (b ∷ t) = go (eqb b opening && leb most_deep held) (ninth_within (opened held b) t)
  where
    go : (y : Bool) → ninth_from (opened held b) t ≤ length t → cond y 0 (1 + ninth_from (opened held b) t) ≤ length (b ∷ t)
    go true h = omega arith
    go false h = omega arith

-- a place in the text; none of what is no fault
unfoldable InText : List ℕ → Settled → Type 0
InText t (fits f) = Unit {0}
InText t (broken p) = p ≤ length t
InText t (deep p) = p ≤ length t

by_within : (t : List ℕ) (r : Reading Layout) → InText t (settled_by t r)
unfolding InText settled_by
by_within t (found f u) = go (leb (depth f) most_deep)
  where
    go : (y : Bool) → InText t (cond y (fits f) (deep (ninth_from 0 t)))
    go true = tt
    go false = ninth_within 0 t
by_within t (lost u) = omega arith

settled_within : (t : List ℕ) → InText t (settled t)
unfolding settled InText
settled_within t = go (ltb most_bytes (length t)) refl
  where
    go : (y : Bool) → ltb most_bytes (length t) ≡ y → InText t (cond y (broken most_bytes) (settled_by t (read_layout t)))
    go true e = let l = ltb-true most_bytes (length t) e in omega arith
    go false e = by_within t (read_layout t)

pub place_within : PlaceWithin
unfolding InText
place_within t p (inl e) = rw e at (settled_within t)
place_within t p (inr e) = rw e at (settled_within t)
