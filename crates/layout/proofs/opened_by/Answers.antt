use Rattle.std.proofs.Common.{eq-eqb, ne_eqb, arith}
use Rattle.layout.specs.Layout.{opening, closing}
use Rattle.layout.specs.Reading.{opened}
use Rattle.layout.proofs.opened_by.Goals as goal

pub returns-in-40 : goal.returns-in-40
unfolding opened
returns-in-40 c = rw (eq-eqb c.args.b opening c.in-40.is)

pub returns-in-41 : goal.returns-in-41
unfolding opened
returns-in-41 c = rw c.in-41.is c.saturating_sub.ensures

pub returns-in_default : goal.returns-in_default
unfolding opened
returns-in_default c = rw (ne_eqb c.args.b opening (λ e. omega arith), ne_eqb c.args.b closing (λ e. omega arith))
