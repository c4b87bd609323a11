use Rattle.std.proofs.Common.{List, refl, sym, ap, ◌∙◌, arith}
use Rattle.model.specs.declared.Call.{Call}
use Rattle.model.specs.declared.Call.TheVariants.{CreateRoot}
use Rattle.model.specs.State.{memory}
use Rattle.model.specs.Events.{create_root}
use Rattle.model.specs.Load.{in_turn}
use Rattle.loading.specs.CallsLaws.{object_root, object_within}
use Rattle.loading.specs.TurnLaws.{as_call, call_last}
use Rattle.loading.proofs.create.Goals as goal

pub returns-in_default : goal.returns-in_default
unfolding create_root
returns-in_default g c =
    let a = c.args in
    let m = memory a.bytes.now a.words.now in
    let o = a.object in
    let call = CreateRoot 0 o.driver o.number o.level in
    c.create_root.ensures ∙ call_last a.order.now m call (create_root a.order.now m 0 o.driver o.number o.level) refl refl (as_call a.order.now m call c.requires refl refl)
    ∙ ap (λ (cs : List Call). in_turn a.order.now cs m) (sym (object_root a.held.now o (omega (arith, c.in_default.ensures.item))))

pub returns : goal.returns
returns g c =
    let a = c.args in
    c.create_in.ensures ∙ ap (λ (cs : List Call). in_turn a.order.now cs (memory a.bytes.now a.words.now)) (object_within a.held.now _ a.object (omega (arith, c.in-Some.ensures.item)) c.in-Some.ensures.item.1)
