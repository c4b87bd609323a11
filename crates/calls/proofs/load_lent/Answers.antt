use Rattle.std.proofs.Common.{sym, ◌∙◌}
use Rattle.model.specs.State.{memory}
use Rattle.calls.proofs.Rows.{bytes_wrong, words_wrong}
use Rattle.calls.proofs.Entering.{fitting, another, load_entry}
use Rattle.calls.proofs.Loads.{load_unlent}
use Rattle.calls.proofs.load_lent.Goals as goal

pub returns-then-lent-ne-RECORDS : goal.returns-then-lent-ne-RECORDS
returns-then-lent-ne-RECORDS g c =
    load_entry _ c.on_zero.ensures (another (memory c.args.bytes.now c.args.words.now) c.args.lent _ c.if-lent-ne-RECORDS.true)

pub returns-then-not-lengths_fit : goal.returns-then-not-lengths_fit
returns-then-not-lengths_fit g c =
    let m = memory c.args.bytes.now c.args.words.now in
    load_entry _ c.on_zero-then-not-lengths_fit.ensures (load_unlent c.args.order.now m c.args.text.now (sym c.lengths_fit.ensures ∙ c.if-not-lengths_fit.true) ∙ fitting m c.args.lent _ c.if-lent-ne-RECORDS.false)

pub returns-in_default : goal.returns-in_default
returns-in_default g c =
    let m = memory c.args.bytes.now c.args.words.now in
    load_entry _ c.on_zero-in_default.ensures (load_unlent c.args.order.now m c.args.text.now (bytes_wrong m c.in_default.ensures.cases) ∙ fitting m c.args.lent _ c.if-lent-ne-RECORDS.false)

-- the bytes were lent on, and nothing was written
pub returns-in_default-as_mut_array : goal.returns-in_default-as_mut_array
returns-in_default-as_mut_array g c =
    let m = memory c.args.bytes.now c.args.words.now in
    rw c.in-Some.ensures.cases.same
    (load_entry _ c.on_zero-in_default-as_mut_array.ensures (load_unlent c.args.order.now m c.args.text.now (words_wrong m c.in_default-as_mut_array.ensures.cases) ∙ fitting m c.args.lent _ c.if-lent-ne-RECORDS.false))

pub returns : goal.returns
returns g c =
    let d = rw (c.in-Some.ensures.cases.same, c.in-Some-as_mut_array.ensures.cases.same) at c.load.ensures in
    load_entry _ c.on_zero-2.ensures (d ∙ fitting (memory c.args.bytes.now c.args.words.now) c.args.lent _ c.if-lent-ne-RECORDS.false)
