use Rattle.std.proofs.Common.{◌≡◌, ◌<◌, ◌^◌, true, ltb, length, get_or, sym, ◌∙◌, arith, rules}
use Rattle.std.proofs.Math.Bool.{and-eq-true_iff}
use Rattle.std.proofs.lemmas.Bool.{lt-ltb, le-ltb}
use Rattle.bits.specs.AllLaws.{and-false, and-true}
use Rattle.levels.specs.Order.{at_or_below}
use Rattle.levels.specs.OrderLaws.{at_outside}
use Rattle.levels.proofs.Order.at_or_below.Goals as goal

pub returns-then-a-ge-MOST_LEVELS : goal.returns-then-a-ge-MOST_LEVELS
returns-then-a-ge-MOST_LEVELS c =
    let o = c.args.self.now in
    let long : length o.rows ≡ 16 = search rules in
    sym (at_outside o long c.args.a c.args.b (λ l. absurd (omega arith)) (simp (le-ltb c.args.a 16 c.if-a-ge-MOST_LEVELS.true, and-false)))

pub returns-then-a-n : goal.returns-then-a-n
unfolding at_or_below
returns-then-a-n c =
    let p = simp and-eq-true_iff at c.if-a-n.true in
    let within : ltb c.args.a c.args.self.now.count ≡ true = p.0.0 in
    rw (within, p.0.1, ← c.row_of-row.ensures) c.in_row.ensures

pub returns-else-a-n : goal.returns-else-a-n
returns-else-a-n c =
    let o = c.args.self.now in
    let long : length o.rows ≡ 16 = search rules in
    let fits : get_or o.rows c.args.a 0 < 2 ^ 16 = rw (← c.row_of-row.ensures) c.row_of-row.type_inv in
    c.if-a-n.false ∙ sym (at_outside o long c.args.a c.args.b (λ _. fits) (simp (lt-ltb c.args.a 16 c.if-a-ge-MOST_LEVELS.false, and-true) c.if-a-n.false))
