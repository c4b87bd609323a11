-- The tables of the events that make things: each verdict is that of the code's rows, and each list of effects is the code's.
-- Assumes nothing.
use Rattle.std.specs.Prelude.{◌≡◌, Bool, true, ◌&&◌, [], ◌∷◌, ℕ, ◌≤◌, ◌<◌, ltb}
use Rattle.std.proofs.Math.Path.{refl}
use Rattle.std.proofs.Math.Bool.{and-eq-true_iff}
use native.Mathlib.Omega.{arith}
use borrow.Author.Tests.{lt-ltb, ltb-true}
use Rattle.rows.specs.Size.{present, numbers}
use Rattle.levels.specs.declared.Order.{Order}
use Rattle.levels.specs.Order.{most_levels, in_order, at_or_below, order_passes}
use Rattle.levels.specs.OrderLaws.{is_order}
use Rattle.records.specs.Records.{BytesLent, root_sign, Place, root, within, spare_byte, is_object}
use Rattle.model.specs.Verdicts.{granted, slipped, row_scale, row_rule}
use Rattle.model.specs.State.{Memory, in_use, task, object, level_of, marked, has_write}
use Rattle.model.specs.Effects.{flow_if, make_task, make_object, effect, effects}
use Rattle.model.specs.Events.{unless, first_failing, verdict_of, execute, create, create_root}
use Rattle.decisions.specs.Decisions.{Decision}
use Rattle.decisions.specs.Facts.{writes, both_write}
use Rattle.decisions.specs.DecisionLaws.{Told, told_tests, under, task_small, object_small}
use Rattle.creation.specs.Judged.{are_new, given, scaled, create_rows, execute_judged, create_judged, root_judged}

-- at the size in use the first spare byte is zero in every place
pub spare_zero : (p : Place) → spare_byte p present ≡ 0
spare_zero root = refl
spare_zero (within k) = refl

level_small : (o : Order) → order_passes o ≡ true → (a : ℕ) → in_order o a ≡ true → a < most_levels
level_small o passes a h = omega (arith, ltb-true a o.count h, (is_order o passes).few)

module _ (o : Order) (m : Memory) where
  infix 40 ◌⊑◌
  abbrev ◌⊑◌ : ℕ → ℕ → Bool
  a ⊑ b = at_or_below o a b

  abbrev L : ℕ → ℕ
  L x = level_of m x

  -- ---- execute
  module _ (c i n l r : ℕ) where
    pub execute_verdict : verdict_of (execute o m c i n l r)
        ≡ given m.bytes (task m c && object m i && ltb n numbers) n (unless (in_order o l && in_order o r) row_scale (unless (l ⊑ L i && r ⊑ l) row_rule granted))
    unfolding verdict_of first_failing unless execute in_use given
    execute_verdict = refl

    pub execute_told : Told m (execute o m c i n l r) (execute_judged o m c i n l r) (λ j. make_task n l r ∷ flow_if j.first i n ∷ [])
    unfolding execute effects effect
    execute_told = record { verdict = refl; leaves = λ h. refl }

  -- ---- create
  pub root_verdict : (c d n l : ℕ) → verdict_of (create_root o m c d n l)
      ≡ given m.bytes (are_new m.bytes c d n) n (scaled o l (l ⊑ L c && l ⊑ L d))
  unfolding verdict_of first_failing unless create_root task in_use are_new given scaled
  root_verdict c d n l = refl

  pub root_told : (c d n l : ℕ) → Told m (create_root o m c d n l) (root_judged o m c d n l)
      (λ j. make_object n l d root j.first ∷ flow_if j.first c n ∷ flow_if j.second c d ∷ [])
  unfolding create_root effects effect
  root_told c d n l = record { verdict = refl; leaves = λ h. refl }

  pub create_told : (c d n k l : ℕ) → Told m (create o m c d n k l) (create_judged o m c d n k l)
      (λ j. make_object n l d (within k) j.first ∷ flow_if j.first c n ∷ flow_if j.second c d ∷ [])
  unfolding create effects effect
  create_told c d n k l = record { verdict = refl; leaves = λ h. refl }

  module _ (long : BytesLent m.bytes) where
    -- an access is looked for in its table, past which there is none
    create_verdict : (c d n k l : ℕ) → verdict_of (create o m c d n k l)
        ≡ create_rows m.bytes m.words c d n k (scaled o l (l ⊑ L c && l ⊑ L k && l ⊑ L d))
    unfolding verdict_of first_failing unless create task object in_use has_write are_new writes both_write given scaled create_rows
    create_verdict c d n k l =
        under (are_new m.bytes c d n && is_object m.bytes k) _ _ _
        (λ h. let p = simp and-eq-true_iff at h in
        rw (lt-ltb c numbers (task_small m c long p.0.0.0), lt-ltb d numbers (task_small m d long p.0.0.1)))

    pub create_is : (c d n k l : ℕ) {v : ℕ} {flows : Bool}
        → v ≡ create_rows m.bytes m.words c d n k (scaled o l (l ⊑ L c && l ⊑ L k && l ⊑ L d)) → flows ≡ marked m d
        → record { verdict = v; first = flows; second = flows } ≡ create_judged o m c d n k l
    create_is c d n k l v flows = rw (v, flows, create_verdict c d n k l)

    -- ---- what a call that is done stores fits its place
    module _ (passes : order_passes o ≡ true) {j : Decision} where
      pub execute_fits : (c i n l r : ℕ) → j ≡ execute_judged o m c i n l r → j.verdict ≤ slipped → (l < most_levels) × (r < most_levels)
      unfolding execute
      execute_fits c i n l r is h =
          let p = simp and-eq-true_iff at (told_tests (execute_told c i n l r) is h refl).1.1.0 in
          (level_small o passes l p.0, level_small o passes r p.1)

      pub create_fits : (c d n k l : ℕ) → j ≡ create_judged o m c d n k l → j.verdict ≤ slipped → (d < numbers) × (k < 0x100) × (l < most_levels)
      unfolding create
      create_fits c d n k l is h =
          let t = told_tests (create_told c d n k l) is h refl in
          let p = simp and-eq-true_iff at t.0 in
          (task_small m d long p.0.0.1, omega (arith, object_small m k long p.1), level_small o passes l t.1.1.1.0)

      pub root_fits : (c d n l : ℕ) → j ≡ root_judged o m c d n l → j.verdict ≤ slipped → (d < numbers) × (root_sign < 0x100) × (l < most_levels)
      unfolding create_root
      root_fits c d n l is h =
          let t = told_tests (root_told c d n l) is h refl in
          let p = simp and-eq-true_iff at t.0 in
          (task_small m d long p.0.1, omega arith, level_small o passes l t.1.1.0)
