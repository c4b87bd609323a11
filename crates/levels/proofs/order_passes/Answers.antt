use Rattle.std.proofs.Common.{◌≡◌, true, false, ℕ, ◌<◌, ◌≤◌, Bool, length, get_or, Fits, w16, refl, sym, ◌∙◌, subst, zero-add, arith, rules, tests}
use Rattle.std.specs.Bool.{MatchBool}
use Rattle.std.specs.List.{range_with_len, AllWithin, HoldsAt}
use Rattle.std.proofs.lemmas.Bool.{lt-ltb, le-leb, MatchBool-at_true, MatchBool-at_false}
use Rattle.std.proofs.lemmas.Bool.Decides.{nat_tests}
use Rattle.std.proofs.lemmas.Iterator.{cases_from_all, YieldsList-from_range}
use Rattle.std.proofs.lemmas.List.FromFn.{length-range_with_len, get_or-range_with_len}
use Rattle.bits.specs.AllLaws.{all_fails}
use Rattle.levels.specs.OrderRows.{LevelCovered, level_passes, rows_pass}
use Rattle.levels.specs.OrderRowsLaws.{covered_pass, by_rows}
use Rattle.levels.proofs.order_passes.Goals as goal
use Rattle.levels.proofs.order_passes.Goals.{After-all}

-- of the list of the numbers below n
below : (n : ℕ) (Yes No : ℕ → Type 0) (r : Bool)
    → MatchBool r (AllWithin Yes (range_with_len 0 n) 0 (length (range_with_len 0 n))) ((k : ℕ) × (k < length (range_with_len 0 n)) × HoldsAt No (range_with_len 0 n) k)
    → MatchBool r ((a : ℕ) → a < n → Yes a) ((a : ℕ) × (a < n) × No a)
below n Yes No true h = λ a l. subst Yes (get_or-range_with_len 0 n a 0 l ∙ zero-add a) (h a 0 (omega arith) (omega (arith, length-range_with_len 0 n)))
below n Yes No false h =
    let l : h.0 < n = omega (arith, length-range_with_len 0 n) in (h.0, l, subst No (get_or-range_with_len 0 n h.0 0 l ∙ zero-add h.0) (h.2 0))

-- the levels of the order all pass, or one does not
each : (c : After-all) → let o = c.args.order in
    MatchBool c.all.result ((a : ℕ) → a < o.count → LevelCovered o.rows o.count o.top a) ((a : ℕ) × (a < o.count) × (level_passes o.rows o.count o.top a ≡ false))
each c =
    let o = c.args.order in
    below o.count _ _ _ (cases_from_all _ _ _ (λ a. LevelCovered o.rows o.count o.top a) (λ a. level_passes o.rows o.count o.top a ≡ false) c.all.ensures.ran
    (YieldsList-from_range 0 o.count o.count refl (omega arith)) (λ x q k. search (rules, tests)) (λ x q k. search (rules, tests)))

pub returns-then-order-gt-MOST_LEVELS : goal.returns-then-order-gt-MOST_LEVELS
unfolding rows_pass
returns-then-order-gt-MOST_LEVELS c =
    let o = c.args.order in
    let row : (k : ℕ) → Fits w16 (get_or o.rows k 0) = λ k. search rules in
    let fails : false ≡ rows_pass o.rows o.count o.top = grind (arith, nat_tests) in
    fails ∙ by_rows o (λ k. (row k).fits)

pub returns-then-all : goal.returns-then-all
unfolding rows_pass
returns-then-all c =
    let o = c.args.order in
    let row : (k : ℕ) → Fits w16 (get_or o.rows k 0) = λ k. search rules in
    let few : o.count ≤ 16 = omega arith in
    let all = MatchBool-at_true _ _ c.if-all.true (each (goal.at.returns-then-all c).After-all) in
    let passes : c.rest_empty.result ≡ rows_pass o.rows o.count o.top =
    rw (le-leb o.count 16 few, lt-ltb o.top o.count (omega arith), covered_pass o.rows o.count o.top (λ k. (row k).fits) few all) c.rest_empty.ensures in
    passes ∙ by_rows o (λ k. (row k).fits)

pub returns-else-all : goal.returns-else-all
unfolding rows_pass
returns-else-all c =
    let o = c.args.order in
    let row : (k : ℕ) → Fits w16 (get_or o.rows k 0) = λ k. search rules in
    let one = MatchBool-at_false _ _ c.if-all.false (each (goal.at.returns-else-all c).After-all) in
    let fails : rows_pass o.rows o.count o.top ≡ false =
    rw (le-leb o.count 16 (omega arith), lt-ltb o.top o.count (omega arith), all_fails o.count (λ a. level_passes o.rows o.count o.top a) one.0 one.1 one.2) in
    c.if-all.false ∙ sym fails ∙ by_rows o (λ k. (row k).fits)
