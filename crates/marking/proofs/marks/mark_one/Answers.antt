use Rattle.std.proofs.Common.{ne_eqb}
use Rattle.records.specs.Records.{field, set_field}
use Rattle.model.specs.State.{marked}
use Rattle.model.specs.Effects.{mark_one}
use Rattle.marking.proofs.marks.mark_one.Goals as goal

pub returns-then-bytes-at-eq0 : goal.returns-then-bytes-at-eq0
unfolding mark_one marked field set_field
returns-then-bytes-at-eq0 c ws = rw c.if-bytes-at-eq0.true

pub returns-else-bytes-at-eq0 : goal.returns-else-bytes-at-eq0
unfolding mark_one marked field
returns-else-bytes-at-eq0 c ws = rw (ne_eqb _ 0 c.if-bytes-at-eq0.false)
