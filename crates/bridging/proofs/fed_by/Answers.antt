use Rattle.std.proofs.Common.{sym, ◌∙◌}
use Rattle.model.specs.State.{memory}
use Rattle.bridging.specs.BridgeLaws.{fed_none, fed_is}
use Rattle.bridging.proofs.fed_by.Goals as goal

pub returns-then-is_empty : goal.returns-then-is_empty
returns-then-is_empty c = fed_none (memory _ _) _ c.row-row.ensures (sym c.is_empty.ensures ∙ c.if-is_empty.true)

pub returns : goal.returns
returns c = fed_is (memory _ _) _ c.with_field-used.ensures c.but.ensures c.row-row.ensures c.common.ensures
