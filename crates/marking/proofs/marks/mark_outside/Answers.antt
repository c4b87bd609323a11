use Rattle.std.proofs.Common.{◌∙◌, rules}
use Rattle.records.specs.Records.{BytesLent}
use Rattle.marking.specs.EffectLaws.{outside_is}
use Rattle.marking.proofs.marks.mark_outside.Goals as goal

pub returns : goal.returns
returns c ws =
    let lent : BytesLent c.args.bytes.now = search rules in
    c.mark_objects.ensures ws ∙ rw c.set_field.ensures (outside_is c.args.bytes.now ws c.args.task lent)
