use Rattle.std.proofs.Common.{sym, ◌∙◌}
use Rattle.model.specs.State.{memory}
use Rattle.calls.proofs.Rows.{bytes_wrong, words_wrong}
use Rattle.calls.proofs.Entering.{another_entry, unlent_entry, fitting}
use Rattle.calls.proofs.judge.Goals as goal

pub returns-then-lent-ne-RECORDS : goal.returns-then-lent-ne-RECORDS
returns-then-lent-ne-RECORDS g c =
    another_entry (memory c.args.bytes.now c.args.words.now) c.args.lent _ c.args.call c.if-lent-ne-RECORDS.true _ c.on_zero.ensures

pub returns-then-not-lengths_fit : goal.returns-then-not-lengths_fit
returns-then-not-lengths_fit g c =
    let m = memory c.args.bytes.now c.args.words.now in
    let d = unlent_entry c.args.order.now m c.args.call (sym c.lengths_fit.ensures ∙ c.if-not-lengths_fit.true) _ c.on_zero-then-not-lengths_fit.ensures in
    (d.0 ∙ fitting m c.args.lent _ c.if-lent-ne-RECORDS.false, d.1, d.2)

pub returns-in_default : goal.returns-in_default
returns-in_default g c =
    let m = memory c.args.bytes.now c.args.words.now in
    let d = unlent_entry c.args.order.now m c.args.call (bytes_wrong m c.in_default.ensures.cases) _ c.on_zero-in_default.ensures in
    (d.0 ∙ fitting m c.args.lent _ c.if-lent-ne-RECORDS.false, d.1, d.2)

-- the bytes were lent on, and nothing was written
pub returns-in_default-as_mut_array : goal.returns-in_default-as_mut_array
returns-in_default-as_mut_array g c =
    let m = memory c.args.bytes.now c.args.words.now in
    let d = unlent_entry c.args.order.now m c.args.call (words_wrong m c.in_default-as_mut_array.ensures.cases) _ c.on_zero-in_default-as_mut_array.ensures in
    rw c.in-Some.ensures.cases.same (d.0 ∙ fitting m c.args.lent _ c.if-lent-ne-RECORDS.false, d.1, d.2)

pub returns : goal.returns
returns g c =
    let d = rw (c.in-Some.ensures.cases.same, c.in-Some-as_mut_array.ensures.cases.same) at c.carry_out.ensures in
    (d.0 ∙ fitting (memory c.args.bytes.now c.args.words.now) c.args.lent _ c.if-lent-ne-RECORDS.false, d.1, d.2)
