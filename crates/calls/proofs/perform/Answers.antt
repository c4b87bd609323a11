use Rattle.std.proofs.Common.{refl, ap, ◌∙◌}
use Rattle.model.specs.State.{memory}
use Rattle.model.specs.Tallies.{tallied}
use Rattle.tallies.specs.Counts.{records_in}
use Rattle.tallies.proofs.EntryLaws.{performed_is}
use Rattle.calls.proofs.Entering.{counted_length}
use Rattle.calls.proofs.perform.Goals as goal

pub returns-clause-performs : goal.returns-clause-performs
returns-clause-performs g c =
    let d = c.call_lent-entry in
    let m = memory c.args.bytes.now c.args.words.now in
    let ts = records_in c.args.counts.now in
    rw c.answer.ensures (
      ap (tallied _) c.enter_counts.ensures.0
          ∙ performed_is c.args.order.now m ts c.args.call _ d.result (d.ensures.0.0 ∙ counted_length m _ c.records_in-lent.ensures) refl d.ensures.0.1,
      d.ensures.1,
    )
