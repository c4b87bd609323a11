use Rattle.std.proofs.Common.{sym, ◌∙◌, ne_eqb}
use Rattle.model.specs.State.{in_use, marked}
use Rattle.model.specs.Events.{verdict_of, first_failing, unless, step, fed}
use Rattle.marking.proofs.step_verdict.Goals as goal

pub returns-then-field-eq-FREE : goal.returns-then-field-eq-FREE
unfolding verdict_of first_failing unless step in_use
returns-then-field-eq-FREE c = λ order. rw (sym c.field.ensures ∙ c.if-field-eq-FREE.true)

pub returns-then-field-ne0 : goal.returns-then-field-ne0
unfolding verdict_of first_failing unless step in_use marked
returns-then-field-ne0 c = λ order. rw (← c.field.ensures, ne_eqb _ 0 c.if-field-eq-FREE.false, ← c.field-2.ensures, ne_eqb _ 0 c.if-field-ne0.true)

-- in use and not marked: whether it is fed settles it
pub returns-then-is_fed : goal.returns-then-is_fed
unfolding verdict_of first_failing unless step in_use marked fed
returns-then-is_fed c = λ order. rw (← c.field.ensures, ne_eqb _ 0 c.if-field-eq-FREE.false, sym c.field-2.ensures ∙ c.if-field-ne0.false, ← c.is_fed.ensures, c.if-is_fed.true)

pub returns-else-is_fed : goal.returns-else-is_fed
unfolding verdict_of first_failing unless step in_use marked fed
returns-else-is_fed c = λ order. rw (← c.field.ensures, ne_eqb _ 0 c.if-field-eq-FREE.false, sym c.field-2.ensures ∙ c.if-field-ne0.false, ← c.is_fed.ensures, c.if-is_fed.false)
