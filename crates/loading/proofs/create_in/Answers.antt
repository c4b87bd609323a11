use Rattle.std.proofs.Common.{rules, refl, ◌∙◌}
use Rattle.model.specs.declared.Call.TheVariants.{Write, Create}
use Rattle.model.specs.State.{memory}
use Rattle.model.specs.Ready.{Ready}
use Rattle.model.specs.Events.{create}
use Rattle.loading.specs.Calls.{object_calls}
use Rattle.loading.specs.TurnLaws.{as_call, call_stops, call_goes, call_last}
use Rattle.decisions.specs.DecisionLaws.{passed, failed}
use Rattle.loading.proofs.create_in.Goals as goal

-- each write is the call, on what the one before it left
pub returns-then-not-is_done : goal.returns-then-not-is_done
unfolding object_calls
returns-then-not-is_done g c =
    let a = c.args in
    let m = memory a.bytes.now a.words.now in
    let call = Write 0 a.container.driver a.container.number in
    call_stops a.order.now m call _ (as_call a.order.now m call c.requires refl c.write-core.ensures) (failed c.is_done.ensures c.if-not-is_done.true)

pub returns-then-not-is_done-2 : goal.returns-then-not-is_done-2
unfolding object_calls
returns-then-not-is_done-2 g c =
    let a = c.args in
    let m = memory a.bytes.now a.words.now in
    let n = memory a.bytes.now c.write-core.new.words in
    let core = Write 0 a.container.driver a.container.number in
    let other = Write a.object.driver a.container.driver a.container.number in
    let r : Ready a.order.now a.bytes.now c.write-core.new.words = search rules in
    call_stops a.order.now n other _ (as_call a.order.now n other r refl c.write-other.ensures) (failed c.is_done-2.ensures c.if-not-is_done-2.true)
    ∙ call_goes a.order.now m core _ (as_call a.order.now m core c.requires refl c.write-core.ensures) (passed c.is_done.ensures c.if-not-is_done.false)

pub returns : goal.returns
unfolding object_calls create
returns g c =
    let a = c.args in
    let m = memory a.bytes.now a.words.now in
    let n = memory a.bytes.now c.write-core.new.words in
    let p = memory a.bytes.now c.write-other.new.words in
    let core = Write 0 a.container.driver a.container.number in
    let other = Write a.object.driver a.container.driver a.container.number in
    let call = Create 0 a.object.driver a.object.number a.container.number a.object.level in
    let event = create a.order.now p 0 a.object.driver a.object.number a.container.number a.object.level in
    let r : Ready a.order.now a.bytes.now c.write-core.new.words = search rules in
    let s : Ready a.order.now a.bytes.now c.write-other.new.words = search rules in
    c.create.ensures ∙ call_last a.order.now p call event refl refl (as_call a.order.now p call s refl refl)
    ∙ call_goes a.order.now n other _ (as_call a.order.now n other r refl c.write-other.ensures) (passed c.is_done-2.ensures c.if-not-is_done-2.false)
    ∙ call_goes a.order.now m core _ (as_call a.order.now m core c.requires refl c.write-core.ensures) (passed c.is_done.ensures c.if-not-is_done.false)
