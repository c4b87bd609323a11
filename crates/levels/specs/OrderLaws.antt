-- What a passed order gives its users: a partial order on the levels below the count, with a top.
-- Assumes nothing.
use Rattle.std.specs.Prelude.{◌≡◌, true, false, ◌&&◌, ℕ, ◌^◌, ◌≤◌, ◌<◌, ltb, eqb, length, get_or}
use Rattle.std.proofs.Common.{sym, ap, ◌∙◌, true≢false, lt_of_not-le, ltb-true, lt-ltb, leb-true, eqb-true}
use Rattle.std.proofs.Math.Bool.{and-eq-true_iff}
use Rattle.std.proofs.Math.ListN.{get_or-eq_default}
use Rattle.bits.specs.Bit.{bit}
use Rattle.bits.specs.BitLaws.{bit_zero, bit_below}
use Rattle.bits.specs.All.{all_b, ◌⇒◌}
use Rattle.bits.specs.AllLaws.{all_at, implies, and_i, and_r, not_so}
use Rattle.levels.specs.declared.Order.{Order}
use Rattle.levels.specs.Order.{most_levels, related, in_order, at_or_below, count_fits, reflexive, transitive, antisymmetric, below_top, order_passes}

pub record IsOrder (o : Order) : Type 0 where
  pub some : 1 ≤ o.count
  pub few : o.count ≤ most_levels
  pub self : (a : ℕ) → a < o.count → at_or_below o a a ≡ true
  pub trans : (a b c : ℕ) → at_or_below o a b ≡ true → at_or_below o b c ≡ true → at_or_below o a c ≡ true
  pub anti : (a b : ℕ) → at_or_below o a b ≡ true → at_or_below o b a ≡ true → a ≡ b
  pub upper : (a : ℕ) → a < o.count → at_or_below o a o.top ≡ true

-- related levels are in the order
pub both_in : (o : Order) (a b : ℕ) → at_or_below o a b ≡ true → (a < o.count) × (b < o.count)
unfolding at_or_below
both_in o a b e = let p = simp and-eq-true_iff at e in (ltb-true _ _ p.0.0, ltb-true _ _ p.0.1)

-- within the order a comparison is a bit of a row
pub by_row : (o : Order) (a b : ℕ) → a < o.count → b < o.count → at_or_below o a b ≡ related o a b
unfolding at_or_below
by_row o a b la lb = rw (lt-ltb a o.count la, lt-ltb b o.count lb)

pub at_i : (o : Order) (a b : ℕ) → a < o.count → b < o.count → related o a b ≡ true → at_or_below o a b ≡ true
at_i o a b la lb e = by_row o a b la lb ∙ e

pub at_related : (o : Order) (a b : ℕ) → at_or_below o a b ≡ true → related o a b ≡ true
unfolding at_or_below
at_related o a b e = and_r (in_order o a && in_order o b) (related o a b) e

-- no level past the sixteen rows is at or below another, and none is at or above one
pub at_outside : (o : Order) → length o.rows ≡ 16 → (a b : ℕ) → (a < 16 → get_or o.rows a 0 < 2 ^ 16)
    → (in_order o a && in_order o b && ltb a 16 && ltb b 16) ≡ false → at_or_below o a b ≡ false
at_outside o long a b fits out = not_so (at_or_below o a b) (λ e.
    let r = at_related o a b e in
    let l = both_in o a b e in
    let la : a < 16 = lt_of_not-le (λ (k : 16 ≤ a). true≢false (sym r ∙ ap (λ (x : ℕ). bit x b) (get_or-eq_default o.rows 0 (rw long k)) ∙ bit_zero b)) in
    let lb : b < 16 = bit_below 16 _ b (fits la) r in
    true≢false (sym (rw (lt-ltb a o.count l.0, lt-ltb b o.count l.1, lt-ltb a 16 la, lt-ltb b 16 lb)) ∙ out))

module _ (o : Order) (ok : order_passes o ≡ true) where
  pub is_order : IsOrder o
  unfolding order_passes count_fits reflexive transitive antisymmetric below_top
  is_order =
      let p = simp and-eq-true_iff at ok in
      let n = o.count in
      record {
        some = leb-true _ _ p.0.0.0.0.0.0;
        few = leb-true _ _ p.0.0.0.0.0.1;
        self = λ a l. all_at n (λ a. at_or_below o a a) p.0.0.0.0.1 a l;
        trans = λ a b c e f.
            let ab = both_in o a b e in
            let bc = both_in o b c f in
            let at_a = all_at n (λ a. all_b n (λ b. all_b n (λ c. (at_or_below o a b && at_or_below o b c) ⇒ at_or_below o a c))) p.0.0.0.1 a ab.0 in
            let at_b = all_at n (λ b. all_b n (λ c. (at_or_below o a b && at_or_below o b c) ⇒ at_or_below o a c)) at_a b ab.1 in
            implies (at_or_below o a b && at_or_below o b c) (at_or_below o a c) (all_at n (λ c. (at_or_below o a b && at_or_below o b c) ⇒ at_or_below o a c) at_b c bc.1) (and_i e f);
        anti = λ a b e f.
            let ab = both_in o a b e in
            let at_a = all_at n (λ a. all_b n (λ b. (at_or_below o a b && at_or_below o b a) ⇒ eqb a b)) p.0.0.1 a ab.0 in
            eqb-true a b (implies (at_or_below o a b && at_or_below o b a) (eqb a b) (all_at n (λ b. (at_or_below o a b && at_or_below o b a) ⇒ eqb a b) at_a b ab.1) (and_i e f));
        upper = λ a l. all_at n (λ a. at_or_below o a o.top) p.0.1 a l;
      }
