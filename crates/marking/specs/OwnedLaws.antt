-- What the rows of the drivers' objects hold.
-- Assumes nothing.
use Rattle.std.specs.Prelude.{◌≡◌, Bool, false, not, cond, ◌&&◌, ◌||◌, List, ℕ, suc, ◌+◌, ◌*◌, ◌≤◌, ◌<◌, length}
use Rattle.std.proofs.Math.Path.{refl}
use Rattle.std.proofs.Common.{sym, ap, ◌∙◌, ⊎_elim, le_refl, mul-le-mul_left, arith}
use Rattle.std.proofs.Math.Bool.{true, or_assoc, and-eq-true_iff}
use Rattle.std.proofs.Math.Dec.{eqb}
use borrow.Author.Tests.{eqb-true, eq-eqb}
use Rattle.bits.specs.All.{any_b}
use Rattle.bits.specs.AllLaws.{both_ways, and_i, or_false, or_cases, or_l, or_r, any_i, any_at}
use Rattle.rows.specs.Size.{present, row_size, numbers}
use Rattle.rows.specs.Rows.{place, cell, add_cell}
use Rattle.rows.proofs.RowLaws.{cell_add, length_add}
use Rattle.levels.specs.declared.Order.{Order}
use Rattle.records.specs.Records.{driver, is_object, sound}
use Rattle.records.specs.RecordLaws.{object_facts, in_use_law}
use Rattle.sets.specs.declared.Set.{Set}
use Rattle.sets.specs.Sets.{has, set_of}
use Rattle.sets.specs.SetLaws.{in_set}
use Rattle.model.specs.State.{Memory, object, driver_of, marked}
use Rattle.model.proofs.StateLaws.{object_used}
use Rattle.model.proofs.SpreadLaws.{unmarked}
use Rattle.model.specs.Effects.{object_of}
use Rattle.marking.specs.Rounds.{Driven, Put, Table, puts, own_row}

pub sound_driven : (o : Order) (bs : List ℕ) → sound o bs ≡ true → Driven bs
unfolding is_object
sound_driven o bs s x k = let f = object_facts present o bs s x (eqb-true _ 2 k) in in_use_law present o bs s (driver bs x) (omega (arith, f.driven))

-- with a row for each of the 64 * n numbers, and one more
pub own_cell : (n : ℕ) (bs ws : List ℕ) (x d y : ℕ) → (is_object bs x ≡ true → driver bs x < 64 * n) → length ws ≡ n * (64 * n + 1) → x < 64 * n → y < 64 * n
    → cell n (own_row n bs x ws) d y ≡ (cell n ws d y || puts n bs d y x)
unfolding own_row puts
own_cell n bs ws x d y below l k b = go (is_object bs x) refl
  where
    inside : (z c : ℕ) → z ≤ 64 * n → c < 64 * n → place n z c < length ws
    inside z c h f = let r : suc z ≤ 64 * n + 1 = omega arith in omega (arith, l, mul-le-mul_left n r)

    go : (a : Bool) → is_object bs x ≡ a
        → cell n (cond a (add_cell n (add_cell n ws (driver bs x) x) (64 * n) (driver bs x)) ws) d y ≡ (cell n ws d y || (a && ((eqb d (driver bs x) && eqb y x) || (eqb d (64 * n) && eqb y (driver bs x)))))
    go true e =
        let h : driver bs x < 64 * n = below e in
        cell_add n (add_cell n ws (driver bs x) x) (64 * n) (driver bs x) d y (rw (length_add n ws (driver bs x) x) (inside (64 * n) (driver bs x) (le_refl (64 * n)) h)) h b
        ∙ ap (λ (a : Bool). a || (eqb d (64 * n) && eqb y (driver bs x))) (cell_add n ws (driver bs x) x d y (inside (driver bs x) x (omega arith) k) k b)
        ∙ or_assoc (cell n ws d y) _ _
    go false e = sym (or_false _)

-- begun with clear rows, and with the unmarked things in use put
module _ (m : Memory) {left : Set} (e : left ≡ set_of (λ x. unmarked m x)) (ws vs : List ℕ) (clear : (d y : ℕ) → cell row_size ws d y ≡ false) (p : Put row_size m.bytes (has left) ws vs) where
  cell_is : (d y : ℕ) → y < numbers → cell row_size vs d y ≡ any_b numbers (λ i. has left i && puts row_size m.bytes d y i)
  cell_is d y b = p d y b ∙ ap (λ (a : Bool). a || any_b numbers (λ i. has left i && puts row_size m.bytes d y i)) (clear d y)

  pub owned_table : Table m vs
  unfolding object_of object puts
  owned_table =
      record {
        owns = λ d x k b n. cell_is d x b
            ∙ both_ways _ _ (there d x k) (λ h. let o = simp and-eq-true_iff at h in put d x x b n o.0 (or_l (eqb d (driver_of m x) && eqb x x) _ (and_i (turned d x o.1) (eq-eqb x x refl))));
        drives = λ d x k b n h. let o = simp and-eq-true_iff at h in cell_is numbers d k ∙ put numbers d x b n o.0 (or_r (eqb numbers (driver_of m x) && eqb d x) _ (and_i refl (turned d x o.1)));
      }
    where
      turned : (d x : ℕ) → eqb (driver_of m x) d ≡ true → eqb d (driver_of m x) ≡ true
      turned d x h = eq-eqb d (driver_of m x) (sym (eqb-true _ _ h))

      put : (d y x : ℕ) → x < numbers → marked m x ≡ false → object m x ≡ true → ((eqb d (driver_of m x) && eqb y x) || (eqb d numbers && eqb y (driver_of m x))) ≡ true
          → any_b numbers (λ i. has left i && puts row_size m.bytes d y i) ≡ true
      put d y x b n o c = any_i numbers _ x b (and_i (in_set _ e x b ∙ and_i (object_used m x o) (ap not n)) (and_i o c))

      there : (d x : ℕ) → d < numbers → any_b numbers (λ i. has left i && puts row_size m.bytes d x i) ≡ true → (object m x && eqb (driver_of m x) d) ≡ true
      there d x k h =
          let a = any_at numbers _ h in
          let q = simp and-eq-true_iff at a.2 in
          ⊎_elim
          (λ c. let r = simp and-eq-true_iff at c in
          let i : x ≡ a.0 = eqb-true _ _ r.1 in
          rw i (and_i q.1.0 (eq-eqb (driver_of m a.0) d (sym (eqb-true _ _ r.0)))))
          (λ c. let z : d ≡ numbers = eqb-true _ _ (simp and-eq-true_iff at c).0 in absurd (omega arith))
          (or_cases (eqb d (driver_of m a.0) && eqb x a.0) _ q.1.1)
