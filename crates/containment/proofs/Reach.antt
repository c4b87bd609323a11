-- Paths over the things in use of one memory, from any set of things; and when a change of the memory keeps them.
-- Assumes nothing.
use Rattle.std.specs.Prelude.{◌≡◌, refl, Bool, true, ◌||◌, ◌⊎◌, ℕ, ◌<◌}
use Rattle.std.proofs.Common.{◌∙◌, inl, inr, ⊎_elim}
use Rattle.std.proofs.Math.Bool.{and-eq-true_iff}
use borrow.Author.Tests.{eqb-true, eq-eqb}
use Rattle.bits.specs.AllLaws.{or_cases, or_l, or_r, and_i}
use Rattle.rows.specs.Size.{Size, numbers_of}
use Rattle.model.specs.State.{MemoryOf, in_use, object, driver_of, marked, has_flow}
use Rattle.model.proofs.StateLaws.{object_used, used_below}
use Rattle.model.specs.Effects.{object_of}
use Rattle.model.proofs.EffectLaws.{Long}
use Rattle.containment.specs.Chains.{Chain, first, by_flow_law, by_driver_law}

-- ---- one step

-- x has a flow to y, or drives it
abbrev pub Feeds : {size : Size} → MemoryOf size → ℕ → ℕ → Type 0
Feeds m x y = (has_flow m x y ≡ true) ⊎ ((object m y ≡ true) × (driver_of m y ≡ x))

module _ {size : Size} (m : MemoryOf size) (x y : ℕ) where
  -- an object of its driver
  pub own_object : object_of m x y ≡ true → (object m y ≡ true) × (driver_of m y ≡ x)
  unfolding object_of
  own_object h = let t = simp and-eq-true_iff at h in (t.0, eqb-true (driver_of m y) x t.1)

  pub object_own : object m y ≡ true → driver_of m y ≡ x → object_of m x y ≡ true
  unfolding object_of
  object_own o d = and_i o (eq-eqb _ _ d)

  -- the two ways told by truth values: b, which only a flow makes true, or the driver
  pub feeds_by : (b : Bool) → (b ≡ true → has_flow m x y ≡ true) → (b || object_of m x y) ≡ true → Feeds m x y
  feeds_by b f h = ⊎_elim (λ e. inl (f e)) (λ e. inr (own_object e)) (or_cases b (object_of m x y) h)

  pub feeds_so : Feeds m x y → (has_flow m x y || object_of m x y) ≡ true
  feeds_so (inl f) = or_l (has_flow m x y) _ f
  feeds_so (inr d) = or_r (has_flow m x y) _ (object_own d.0 d.1)

-- ---- many

-- `Reach m S x`: a path of flows and steps from a driver to its object leads to x from a thing in S, over things in use
pub data Reach {size : Size} (m : MemoryOf size) (S : ℕ → Type 0) : ℕ → Type 0 where
  at : (x : ℕ) → x < numbers_of size → in_use m x ≡ true → S x → Reach m S x
  along : (x y : ℕ) → Reach m S x → y < numbers_of size → in_use m y ≡ true → has_flow m x y ≡ true → Reach m S y
  down : (x y : ℕ) → Reach m S x → y < numbers_of size → object m y ≡ true → driver_of m y ≡ x → Reach m S y

-- from x
abbrev pub Path : {size : Size} → MemoryOf size → ℕ → ℕ → Type 0
Path m x y = Reach m (λ z. x ≡ z) y

-- from what is marked
abbrev pub Fed : {size : Size} → MemoryOf size → ℕ → Type 0
Fed m y = Reach m (λ z. marked m z ≡ true) y

module _ {size : Size} {m : MemoryOf size} {S : ℕ → Type 0} where
  -- a thing of S is reached
  pub reach_here : Long m → (x : ℕ) → in_use m x ≡ true → S x → Reach m S x
  reach_here long x u s = at x (used_below m x long.bytes_long u) u s

  -- and one step on
  pub reach_step : Long m → (x y : ℕ) → in_use m y ≡ true → Feeds m x y → Reach m S x → Reach m S y
  reach_step long x y u (inl f) r = along x y r (used_below m y long.bytes_long u) u f
  reach_step long x y u (inr d) r = down x y r (used_below m y long.bytes_long u) d.0 d.1

  -- what is reached is in use, and one of the numbers
  pub reach_used : {x : ℕ} → Reach m S x → in_use m x ≡ true
  reach_used (at x l u s) = u
  reach_used (along x y r l u f) = u
  reach_used (down x y r l o d) = object_used m y o

  pub reach_below : {x : ℕ} → Reach m S x → x < numbers_of size
  reach_below (at x l u s) = l
  reach_below (along x y r l u f) = l
  reach_below (down x y r l o d) = l

  -- what is reached from what is reached is reached
  pub reach_then : {T : ℕ → Type 0} {y : ℕ} → Reach m T y → ((x : ℕ) → in_use m x ≡ true → T x → Reach m S x) → Reach m S y
  reach_then (at x l u t) f = f x u t
  reach_then (along x y r l u g) f = along x y (reach_then r f) l u g
  reach_then (down x y r l o d) f = down x y (reach_then r f) l o d

-- what a chain of the spread reaches is in reach of what is marked
pub chain_fed : {size : Size} {m : MemoryOf size} {x : ℕ} → Chain m x → Fed m x
chain_fed (first x l u e) = at x l u e
chain_fed (by_flow_law x y c l u f) = along x y (chain_fed c) l u f
chain_fed (by_driver_law x y c l o d) = down x y (chain_fed c) l o d

-- ---- what only adds

-- what is in use in m stays so, with its driver, its flows and its mark
pub record Grows {size : Size} (m n : MemoryOf size) : Type 0 where
  pub used : (x : ℕ) → in_use m x ≡ true → in_use n x ≡ true
  pub objects : (x : ℕ) → object m x ≡ true → (object n x ≡ true) × (driver_of n x ≡ driver_of m x)
  pub flows : (x y : ℕ) → has_flow m x y ≡ true → has_flow n x y ≡ true
  pub marks : (x : ℕ) → in_use m x ≡ true → marked m x ≡ true → marked n x ≡ true

-- nothing changes
pub grows_none : {size : Size} (m : MemoryOf size) → Grows m m
grows_none m = record { used = λ x h. h; objects = λ x h. (h, refl); flows = λ x y h. h; marks = λ x u h. h }

-- one change after another
pub grows_then : {size : Size} {m n v : MemoryOf size} → Grows m n → Grows n v → Grows m v
grows_then g h =
    record {
      used = λ x u. h.used x (g.used x u);
      objects = λ x o. let a = g.objects x o in let b = h.objects x a.0 in (b.0, b.1 ∙ a.1);
      flows = λ x y f. h.flows x y (g.flows x y f);
      marks = λ x u k. h.marks x (g.used x u) (g.marks x u k);
    }

-- so do single steps
pub feeds_grow : {size : Size} {m n : MemoryOf size} → Grows m n → (x y : ℕ) → Feeds m x y → Feeds n x y
feeds_grow g x y (inl f) = inl (g.flows x y f)
feeds_grow g x y (inr d) = let k = g.objects y d.0 in inr (k.0, k.1 ∙ d.1)

-- and paths
pub reach_grows : {size : Size} {m n : MemoryOf size} (S T : ℕ → Type 0) → Grows m n → ((x : ℕ) → in_use m x ≡ true → S x → T x) → {y : ℕ} → Reach m S y → Reach n T y
reach_grows S T g f (at x l u s) = at x l (g.used x u) (f x u s)
reach_grows S T g f (along x y r l u h) = along x y (reach_grows S T g f r) l (g.used y u) (g.flows x y h)
reach_grows S T g f (down x y r l o d) = down x y (reach_grows S T g f r) l (g.objects y o).0 ((g.objects y o).1 ∙ d)
