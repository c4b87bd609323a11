use Rattle.std.proofs.Common.{refl, ap, ◌∙◌}
use Rattle.model.specs.Verdicts.{number_of}
use Rattle.model.specs.State.{memory}
use Rattle.model.specs.Events.{left}
use Rattle.model.specs.Tallies.{tallied}
use Rattle.calls.specs.Request.{call_of}
use Rattle.tallies.proofs.EntryLaws.{performed_is}
use Rattle.monitor.proofs.tupehiwo_perform.Goals as goal

pub returns : goal.returns
returns c =
    let a = c.args in
    let r = c.request_lent-entry.result in
    let d = c.request_lent-entry.ensures in
    rw c.answer.ensures (ap (tallied (left (number_of r.verdict) r.rounds _ _)) c.enter.ensures ∙ performed_is a.order (memory a.bytes.now a.words.now) a.tallies.now (call_of a.request) _ r d.0.0 refl d.0.1, d.1)
