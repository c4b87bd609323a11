use Rattle.std.proofs.Common.{sym, ◌∙◌, rules}
use Rattle.records.specs.Records.{BytesLent}
use Rattle.model.specs.State.{memory, task}
use Rattle.marking.specs.EffectLaws.{thing_alone, thing_drives}
use Rattle.marking.proofs.marks.mark_thing.Goals as goal

pub returns-then-is_task : goal.returns-then-is_task
unfolding task
returns-then-is_task c ws =
    let a = c.args in
    let lent : BytesLent a.bytes.now = search rules in
    c.mark_objects.ensures ws
    ∙ thing_drives (memory a.bytes.now ws) a.x lent c.requires (c.mark_one.ensures ws) (sym c.is_task.ensures ∙ c.if-is_task.true)

pub returns-else-is_task : goal.returns-else-is_task
unfolding task
returns-else-is_task c ws =
    let a = c.args in
    let lent : BytesLent a.bytes.now = search rules in
    thing_alone (memory a.bytes.now ws) a.x lent c.requires (c.mark_one.ensures ws) (sym c.is_task.ensures ∙ c.if-is_task.false)
