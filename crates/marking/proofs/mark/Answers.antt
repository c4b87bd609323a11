use Rattle.std.proofs.Common.{◌≡◌, true, false, refl, sym, ◌∙◌}
use Rattle.model.specs.State.{memory, task}
use Rattle.model.specs.Effects.{effects}
use Rattle.model.specs.Events.{verdict_of, first_failing, unless, mark}
use Rattle.marking.specs.EffectLaws.{made, refused}
use Rattle.marking.proofs.mark.Goals as goal

pub returns-then-not-is_task : goal.returns-then-not-is_task
unfolding verdict_of first_failing unless mark task
returns-then-not-is_task c =
    let a = c.args in
    let m = memory a.bytes.now a.words.now in
    let t : task m a.task ≡ false = sym c.is_task.ensures ∙ c.if-not-is_task.true in
    refused m (mark a.order.now m a.task) (sym (rw t)) refl

pub returns : goal.returns
unfolding verdict_of first_failing unless mark task effects
returns c =
    let a = c.args in
    let m = memory a.bytes.now a.words.now in
    let t : task m a.task ≡ true = sym c.is_task.ensures ∙ c.if-not-is_task.false in
    made m (mark a.order.now m a.task) (sym (rw t)) refl (c.mark_outside.ensures a.words.now)
