-- The claims about a layout's text, each a short definition; the proofs stand in Proved.antt.
-- Assumes nothing.
use Rattle.std.specs.Prelude.{◌≡◌, ◌⊎◌, ◌↔◌, List, [], ℕ, ◌≤◌, ◌<◌, length}
use Rattle.layout.specs.Layout.{Layout, Fits, written, depth, most_deep, most_bytes}
use Rattle.layout.specs.Reading.{found, read_layout, fits, broken, deep, settled}

-- one reading, of layouts of every depth whose numbers fit: the reader finds a layout in a text if, and only if, the text is the layout's
abbrev pub OneReading : Type 0
OneReading = (f : Layout) (t : List ℕ) → Fits f → (written f ≡ t) ↔ (read_layout t ≡ found f [])

-- what is read fits, and is the whole text
abbrev pub ReadsWhole : Type 0
ReadsWhole = (t : List ℕ) (f : Layout) (u : List ℕ) → read_layout t ≡ found f u → Fits f × (u ≡ []) × (written f ≡ t)

-- no text is the text of two layouts
abbrev pub OneLayout : Type 0
OneLayout = (f g : Layout) → Fits f → Fits g → written f ≡ written g → f ≡ g

-- what settles as a layout: one that fits, of at most eight levels, and its text is not too long
abbrev pub SettlesAll : Type 0
SettlesAll = (t : List ℕ) (f : Layout) → (settled t ≡ fits f) ↔ (Fits f × (written f ≡ t) × (depth f ≤ most_deep) × (length t ≤ most_bytes))

-- 14, "form": the text is too long, or no layout's, of any depth
abbrev pub SettlesBroken : Type 0
SettlesBroken = (t : List ℕ) → ((place : ℕ) × (settled t ≡ broken place)) ↔ ((most_bytes < length t) ⊎ ((f : Layout) → Fits f → written f ≡ t → ⊥))

-- 15, "deep": the text is a layout's and not too long, and the layout has a ninth level; so a text with a slip of form as well is 14
abbrev pub SettlesDeep : Type 0
SettlesDeep = (t : List ℕ) → ((place : ℕ) × (settled t ≡ deep place)) ↔ ((f : Layout) × Fits f × (written f ≡ t) × (most_deep < depth f) × (length t ≤ most_bytes))

-- the place of a fault lies in the text, or at its end
abbrev pub PlaceWithin : Type 0
PlaceWithin = (t : List ℕ) (place : ℕ) → (settled t ≡ broken place) ⊎ (settled t ≡ deep place) → place ≤ length t
