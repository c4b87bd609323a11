use Rattle.std.proofs.Common.{sym, ◌∙◌, rules}
use Rattle.marking.specs.LowestLaws.{none_above, some_above}
use Rattle.marking.proofs.lowest_from.Goals as goal

pub returns-then-above-eq0 : goal.returns-then-above-eq0
returns-then-above-eq0 c = none_above _ _ (sym c.in_ok-above.ensures.1 ∙ c.if-above-eq0.true)

pub returns-else-above-eq0 : goal.returns-else-above-eq0
returns-else-above-eq0 c =
    let a = c.args in
    rw (c.lowest_one.ensures, c.in_ok-above.ensures.1) (some_above a.w a.i (search rules) (λ e. c.if-above-eq0.false (c.in_ok-above.ensures.1 ∙ e)))
