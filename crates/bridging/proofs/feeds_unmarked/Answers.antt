use Rattle.std.proofs.Common.{sym, ap, ◌∙◌, eq-eqb, ne_eqb}
use Rattle.std.proofs.Math.Bool.{not, not-not}
use Rattle.model.specs.State.{memory, marked}
use Rattle.model.specs.Events.{feeds_unmarked}
use Rattle.bridging.specs.BridgeLaws.{feeds_is}
use Rattle.bridging.proofs.feeds_unmarked.Goals as goal

pub returns-then-field-eq0 : goal.returns-then-field-eq0
unfolding feeds_unmarked marked
returns-then-field-eq0 c = rw (eq-eqb _ 0 (sym c.field.ensures ∙ c.if-field-eq0.true))

pub returns : goal.returns
unfolding marked
returns c =
    ap not c.is_empty.ensures ∙ not-not _
    ∙ feeds_is (memory _ _) _ c.with_field-marked.ensures c.fed_by.ensures c.without.ensures (ap not (ne_eqb _ 0 (λ e. c.if-field-eq0.false (c.field.ensures ∙ e))))
