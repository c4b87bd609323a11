use Rattle.std.proofs.Common.{refl, sym, ap, ◌∙◌}
use Rattle.model.specs.State.{memory}
use Rattle.model.proofs.StateLaws.{used_below}
use Rattle.model.specs.Effects.{effects}
use Rattle.model.specs.Verdicts.{number_of}
use Rattle.model.proofs.VerdictLaws.{only_granted}
use Rattle.model.specs.Events.{step}
use Rattle.model.proofs.TableLaws.{done_tests}
use Rattle.marking.specs.EffectLaws.{made, refused, step_refused}
use Rattle.marking.proofs.step.Goals as goal

pub mark_thing-requires : goal.mark_thing-requires
unfolding step
mark_thing-requires c =
    let a = c.args in
    let m = memory a.bytes.now a.words.now in
    let t = done_tests (step a.order.now m a.x) refl (rw (sym (c.step_verdict-verdict.ensures a.order.now) ∙ ap number_of c.in-Granted.is)) in
    used_below m a.x c.requires.0 t.0

pub returns-in-Granted : goal.returns-in-Granted
unfolding step effects
returns-in-Granted c =
    let a = c.args in
    let m = memory a.bytes.now a.words.now in
    made m (step a.order.now m a.x) (c.step_verdict-verdict.ensures a.order.now) (ap number_of c.in-Granted.is) (c.mark_thing.ensures a.words.now)

pub returns-in_default : goal.returns-in_default
returns-in_default c =
    let a = c.args in
    let m = memory a.bytes.now a.words.now in
    let v = c.step_verdict-verdict.ensures a.order.now in
    refused m (step a.order.now m a.x) v (step_refused a.order.now m a.x v (λ h. c.in_default.not-Granted (only_granted _ h)))
