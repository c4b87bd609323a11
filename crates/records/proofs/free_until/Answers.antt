use Rattle.std.proofs.Common.{sym, ◌∙◌}
use Rattle.records.specs.GroupLaws.{free_more}
use Rattle.records.proofs.free_until.Goals as goal

pub loop-x-preserved : goal.loop-x-preserved
loop-x-preserved c = free_more _ _ _ c.loop-x.invariant c.loop-x-test.true (sym c.groups_free.ensures ∙ c.if-groups_free.true)
