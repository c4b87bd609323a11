-- The walk by the container bytes: a turn of it, and on sound bytes it is the model's.
-- Assumes nothing.
use Rattle.std.specs.Prelude.{◌≡◌, Bool, true, false, ◌||◌, List}
use Rattle.std.proofs.Math.Path.{refl}
use Rattle.std.proofs.Common.{ap}
use Rattle.std.proofs.Math.Logic.{⊎_elim}
use Prim.Native.Nat.{ℕ, zero, suc, ◌+◌, ◌-◌, ◌<◌}
use native.Mathlib.Omega.{arith}
use Rattle.std.proofs.Math.Dec.{eqb}
use borrow.Author.Tests.{eqb-true, eq-eqb, ne_eqb}
use Rattle.rows.specs.Size.{present}
use Rattle.levels.specs.declared.Order.{Order}
use Rattle.records.specs.Records.{kind, container, is_object, root, container_byte, sound}
use Rattle.records.specs.RecordLaws.{object_facts}
use Rattle.records.proofs.KeepLaws.{lies_in_law, root_byte}
use Rattle.model.specs.State.{Memory, object}
use Rattle.model.specs.Inside.{most_steps, walk, inside}
use Rattle.places.specs.Places.{bytes_walk, bytes_inside}

-- ---- a turn of the walk

pub steps_none : (bs : List ℕ) (x y : ℕ) → bytes_walk 0 bs x y ≡ false
unfolding bytes_walk
steps_none bs x y = refl

some_left : (k : ℕ) → k < most_steps present → 0 < most_steps present - k
some_left k l = omega arith

-- with v read as the container of x
module _ (bs : List ℕ) (x : ℕ) {y v : ℕ} (is : v ≡ container bs x) where
  pub step_found : (n : ℕ) → 0 < n → v ≡ y → bytes_walk n bs x y ≡ true
  unfolding bytes_walk
  step_found zero l e = absurd (omega arith)
  step_found (suc n) l e = rw (← is, eq-eqb _ _ e)

  pub step_root : (n : ℕ) → (v ≡ y → ⊥) → v ≡ container_byte root present → bytes_walk n bs x y ≡ false
  unfolding bytes_walk
  step_root zero h e = refl
  step_root (suc n) h e = rw (← is, ne_eqb _ _ h, eq-eqb _ _ e)

  pub step_on : (n : ℕ) → 0 < n → (v ≡ y → ⊥) → (v ≡ container_byte root present → ⊥) → bytes_walk n bs x y ≡ bytes_walk (n - 1) bs v y
  unfolding bytes_walk
  step_on zero l h e = absurd (omega arith)
  step_on (suc n) l h e = let less : suc n - 1 ≡ n = omega arith in rw (← is, ne_eqb _ _ h, ne_eqb _ _ e, less)

  -- the same after k turns, where the walk may have one more
  module _ {k : ℕ} (l : k < most_steps present) where
    pub turn_found : v ≡ y → bytes_walk (most_steps present - k) bs x y ≡ true
    turn_found e = step_found _ (some_left k l) e

    module _ (h : v ≡ y → ⊥) where
      pub turn_root : v ≡ container_byte root present → bytes_walk (most_steps present - k) bs x y ≡ false
      turn_root e = step_root _ h e

      pub turn_on : (v ≡ container_byte root present → ⊥) → bytes_walk (most_steps present - k) bs x y ≡ bytes_walk (most_steps present - (k + 1)) bs v y
      turn_on e = let less : most_steps present - k - 1 ≡ most_steps present - (k + 1) = omega arith in rw less at (step_on _ (some_left k l) h e)

-- ---- on sound bytes, from an object and for an object

module _ (o : Order) (m : Memory) (ok : sound o m.bytes ≡ true) where
  abbrev bs : List ℕ
  bs = m.bytes

  no_sign : (x : ℕ) → kind bs (container bs x) ≡ 2 → eqb (container bs x) (container_byte root present) ≡ false
  no_sign x h = ne_eqb (container bs x) (container_byte root present) (λ q. root_byte present o bs ok present refl (rw q at h))

  walk_is : (n x y : ℕ) → kind bs x ≡ 2 → kind bs y ≡ 2 → walk n m x y ≡ bytes_walk n bs x y
  unfolding walk bytes_walk
  walk_is zero x y hx hy = refl
  walk_is (suc n) x y hx hy =
      let lies = lies_in_law present o bs ok x y hy in
      ⊎_elim
      (λ p. rw (lies, eq-eqb _ _ p.0, eq-eqb _ _ p.1))
      (λ p. rw (lies, no_sign x p.1) (ap (λ (b : Bool). eqb (container bs x) y || b) (walk_is n (container bs x) y p.1 hy)))
      (object_facts present o bs ok x hx).placing

  pub inside_is : (x y : ℕ) → object m x ≡ true → object m y ≡ true → inside m x y ≡ bytes_inside bs x y
  unfolding inside bytes_inside object is_object
  inside_is x y hx hy = walk_is (most_steps present) x y (eqb-true _ 2 hx) (eqb-true _ 2 hy)
