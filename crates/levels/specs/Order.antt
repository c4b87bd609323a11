-- The order of the levels: which level is at or below which, and the test that an order is one.
-- Assumes nothing.
use Rattle.std.specs.Prelude.{Bool, ◌&&◌, ℕ, leb, ltb, eqb, get_or}
use Rattle.bits.specs.Bit.{bit}
use Rattle.bits.specs.All.{all_b, ◌⇒◌}
use Rattle.levels.specs.declared.Order.{Order}

-- the most levels that an order has
abbrev pub most_levels : ℕ
most_levels = 16

-- row a: what level a is at or below; past the sixteen rows it is 0
abbrev pub row_of : Order → ℕ → ℕ
row_of o a = get_or o.rows a 0

-- bit b of row a: it says a ≤ b
abbrev pub related : Order → ℕ → ℕ → Bool
related o a b = bit (row_of o a) b

-- "in the order": below the count as lent
abbrev pub in_order : Order → ℕ → Bool
in_order o a = ltb a o.count

-- a ≤ b: level a is at or below level b. A level past the order is at or below nothing, and nothing is at or below it
unfoldable pub at_or_below : Order → ℕ → ℕ → Bool
at_or_below o a b = in_order o a && in_order o b && related o a b

-- ---- the order's test, as document 01 lists it

unfoldable pub count_fits : Order → Bool
count_fits o = leb 1 o.count && leb o.count most_levels

unfoldable pub reflexive : Order → Bool
reflexive o = all_b o.count (λ a. at_or_below o a a)

unfoldable pub transitive : Order → Bool
transitive o = all_b o.count (λ a. all_b o.count (λ b. all_b o.count (λ c. (at_or_below o a b && at_or_below o b c) ⇒ at_or_below o a c)))

unfoldable pub antisymmetric : Order → Bool
antisymmetric o = all_b o.count (λ a. all_b o.count (λ b. (at_or_below o a b && at_or_below o b a) ⇒ eqb a b))

unfoldable pub below_top : Order → Bool
below_top o = all_b o.count (λ a. at_or_below o a o.top)

-- all bits outside the count are zero
unfoldable pub clear_outside : Order → Bool
clear_outside o = all_b most_levels (λ a. all_b most_levels (λ b. related o a b ⇒ (in_order o a && in_order o b)))

unfoldable pub order_passes : Order → Bool
order_passes o = count_fits o && reflexive o && transitive o && antisymmetric o && below_top o && clear_outside o
