use Rattle.std.proofs.Common.{refl, ap, ◌∙◌}
use Rattle.model.specs.State.{memory}
use Rattle.model.specs.Tallies.{tallied}
use Rattle.tallies.specs.Counts.{records_in}
use Rattle.tallies.proofs.EntryLaws.{loaded_is}
use Rattle.calls.proofs.Entering.{counted_length}
use Rattle.calls.proofs.load_counts.Goals as goal

pub returns-clause-loads : goal.returns-clause-loads
returns-clause-loads g c =
    let d = c.load_lent-entry in
    let m = memory c.args.bytes.now c.args.words.now in
    let ts = records_in c.args.counts.now in
    rw c.answer.ensures (
      ap (tallied _) c.enter_counts.ensures.0
          ∙ loaded_is c.args.order.now m ts c.args.text.now _ d.result (d.ensures.0 ∙ counted_length m _ c.records_in-lent.ensures) refl d.ensures.1,
      d.ensures.3,
    )
