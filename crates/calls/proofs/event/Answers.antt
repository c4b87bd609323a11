-- Each arm hands its numbers to the event of the call, so what it leaves is that event's outcome.
use Rattle.std.proofs.Common.{refl}
use Rattle.model.specs.State.{memory}
use Rattle.calls.proofs.Rows.{plainly, answered}
use Rattle.calls.proofs.event.Goals as goal

pub returns-in-Read : goal.returns-in-Read
returns-in-Read g c = answered c.args.order.now (memory c.args.bytes.now c.args.words.now) c.requires c.in-Read.is refl (plainly c.plain-in-Read.ensures c.read.ensures)

pub returns-in-Write : goal.returns-in-Write
returns-in-Write g c = answered c.args.order.now (memory c.args.bytes.now c.args.words.now) c.requires c.in-Write.is refl (plainly c.plain-in-Write.ensures c.write.ensures)

pub returns-in-Execute : goal.returns-in-Execute
returns-in-Execute g c = answered c.args.order.now (memory c.args.bytes.now c.args.words.now) c.requires c.in-Execute.is refl (plainly c.plain-in-Execute.ensures c.execute.ensures)

pub returns-in-Create : goal.returns-in-Create
returns-in-Create g c = answered c.args.order.now (memory c.args.bytes.now c.args.words.now) c.requires c.in-Create.is refl (plainly c.plain-in-Create.ensures c.create.ensures)

pub returns-in-CreateRoot : goal.returns-in-CreateRoot
returns-in-CreateRoot g c = answered c.args.order.now (memory c.args.bytes.now c.args.words.now) c.requires c.in-CreateRoot.is refl (plainly c.plain-in-CreateRoot.ensures c.create_root.ensures)

pub returns-in-Move : goal.returns-in-Move
returns-in-Move g c = answered c.args.order.now (memory c.args.bytes.now c.args.words.now) c.requires c.in-Move.is refl (plainly c.plain-in-Move.ensures c.move_object.ensures)

pub returns-in-Delete : goal.returns-in-Delete
returns-in-Delete g c = answered c.args.order.now (memory c.args.bytes.now c.args.words.now) c.requires c.in-Delete.is refl (plainly c.plain-in-Delete.ensures c.delete.ensures)

pub returns-in-CallTask : goal.returns-in-CallTask
returns-in-CallTask g c = answered c.args.order.now (memory c.args.bytes.now c.args.words.now) c.requires c.in-CallTask.is refl (plainly c.plain-in-CallTask.ensures c.call_task.ensures)

pub returns-in-Invoke : goal.returns-in-Invoke
returns-in-Invoke g c = answered c.args.order.now (memory c.args.bytes.now c.args.words.now) c.requires c.in-Invoke.is refl (plainly c.plain-in-Invoke.ensures c.invoke.ensures)

pub returns-in-Pass : goal.returns-in-Pass
returns-in-Pass g c = answered c.args.order.now (memory c.args.bytes.now c.args.words.now) c.requires c.in-Pass.is refl (plainly c.plain-in-Pass.ensures c.pass.ensures)

pub returns-in-Post : goal.returns-in-Post
returns-in-Post g c = answered c.args.order.now (memory c.args.bytes.now c.args.words.now) c.requires c.in-Post.is refl (plainly c.plain-in-Post.ensures c.post.ensures)

pub returns-in-Find : goal.returns-in-Find
returns-in-Find g c = answered c.args.order.now (memory c.args.bytes.now c.args.words.now) c.requires c.in-Find.is refl (plainly c.plain-in-Find.ensures c.find.ensures)

pub returns-in-Mark : goal.returns-in-Mark
returns-in-Mark g c = answered c.args.order.now (memory c.args.bytes.now c.args.words.now) c.requires c.in-Mark.is refl (plainly c.plain-in-Mark.ensures c.mark.ensures)

pub returns-in-Step : goal.returns-in-Step
returns-in-Step g c = answered c.args.order.now (memory c.args.bytes.now c.args.words.now) c.requires c.in-Step.is refl (plainly c.plain-in-Step.ensures c.step.ensures)

pub returns-in-Spread : goal.returns-in-Spread
returns-in-Spread g c = answered c.args.order.now (memory c.args.bytes.now c.args.words.now) c.requires c.in-Spread.is refl c.spread.ensures
