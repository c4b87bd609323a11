use Rattle.std.proofs.Common.{refl, ap, ◌∙◌}
use Rattle.model.specs.Verdicts.{number_of}
use Rattle.model.specs.State.{memory}
use Rattle.model.specs.Events.{left}
use Rattle.model.specs.Tallies.{tallied}
use Rattle.tallies.proofs.EntryLaws.{loaded_is}
use Rattle.monitor.proofs.tupehiwo_load.Goals as goal

pub returns : goal.returns
returns c =
    let a = c.args in
    let r = c.load_lent-entry.result in
    let d = c.load_lent-entry.ensures in
    rw c.answer.ensures (ap (tallied (left (number_of r.verdict) r.rounds _ _)) c.enter.ensures ∙ loaded_is a.order (memory a.bytes.now a.words.now) a.tallies.now a.text.now _ r d.0 refl d.1, d.3)
