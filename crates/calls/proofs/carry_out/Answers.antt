use Rattle.std.proofs.Common.{rules, sym, ◌∙◌}
use Rattle.rows.specs.Size.{WordsLent}
use Rattle.records.specs.Records.{BytesLent}
use Rattle.model.specs.State.{memory}
use Rattle.model.specs.Ready.{Ready}
use Rattle.calls.proofs.Rows.{lengths_right}
use Rattle.calls.proofs.Entering.{start_entry, state_entry, order_entry, event_entry}
use Rattle.calls.proofs.carry_out.Goals as goal

pub returns-in-Start : goal.returns-in-Start
returns-in-Start g c = start_entry c.args.order.now (memory c.args.bytes.now c.args.words.now) c.args.call c.in-Start.is _ c.on_zero.ensures c.start.ensures

-- each row is told by what was tested, wherever in the function that was
pub returns-then-not-sound : goal.returns-then-not-sound
returns-then-not-sound g c =
    let s = sym (c.sound.ensures c.args.order.now.rows) ∙ c.if-not-sound.true in
    state_entry c.args.order.now (memory c.args.bytes.now c.args.words.now) c.args.call c.in_default.not-Start s _ c.on_zero-then-not-sound.ensures

pub returns-then-not-order_passes : goal.returns-then-not-order_passes
returns-then-not-order_passes g c =
    let b : BytesLent c.args.bytes.now = search rules in
    let w : WordsLent c.args.words.now = search rules in
    let m = memory c.args.bytes.now c.args.words.now in
    let s = sym (c.sound.ensures c.args.order.now.rows) ∙ c.if-not-sound.false in
    let p = sym c.order_passes.ensures ∙ c.if-not-order_passes.true in
    order_entry c.args.order.now m c.args.call c.in_default.not-Start (lengths_right m b w) s p _ c.on_zero-then-not-order_passes.ensures

pub event-outcome-requires : goal.event-outcome-requires
event-outcome-requires g c =
    let b : BytesLent c.args.bytes.now = search rules in
    let w : WordsLent c.args.words.now = search rules in
    (b, w, sym c.order_passes.ensures ∙ c.if-not-order_passes.false, sym (c.sound.ensures c.args.order.now.rows) ∙ c.if-not-sound.false)

pub returns : goal.returns
returns g c =
    let b : BytesLent c.args.bytes.now = search rules in
    let w : WordsLent c.args.words.now = search rules in
    let m = memory c.args.bytes.now c.args.words.now in
    let r : Ready c.args.order.now c.args.bytes.now c.args.words.now = (b, w, sym c.order_passes.ensures ∙ c.if-not-order_passes.false, sym (c.sound.ensures c.args.order.now.rows) ∙ c.if-not-sound.false) in
    let q = event_entry c.args.order.now m c.args.call c.in_default.not-Start r _ c.event-outcome.ensures (c.asker-number.ensures.0 c.args.words.now) c.asker-number.ensures.1 in
    rw c.untold.ensures q
