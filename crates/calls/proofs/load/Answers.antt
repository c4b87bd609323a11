use Rattle.std.proofs.Common.{sym, ap, ◌∙◌}
use Rattle.model.specs.Verdicts.{row_form, row_deep}
use Rattle.model.specs.State.{Memory}
use Rattle.model.specs.Monitor.{refusal}
use Rattle.model.specs.Load.{in_turn, whole}
use Rattle.loading.specs.Calls.{calls_in}
use Rattle.loading.specs.SettledLaws.{settled_fits, settled_broken, settled_deep}
use Rattle.calls.proofs.Loads.{load_laid, start_refused, start_made, started_ready}
use Rattle.decisions.specs.DecisionLaws.{passed, failed}
use Rattle.calls.proofs.load.Goals as goal

pub returns-then-not-is_done : goal.returns-then-not-is_done
returns-then-not-is_done g c = start_refused c.args.order.now _ c.args.text.now c.start-begun.ensures (failed c.is_done.ensures c.if-not-is_done.true)

-- the state of a start is made
pub make-requires : goal.make-requires
make-requires g c =
    let made = start_made c.args.order.now _ c.args.text.now c.start-begun.ensures (passed c.is_done.ensures c.if-not-is_done.false) in
    started_ready c.args.order.now _ made.1 made.2

pub returns-in-Ok : goal.returns-in-Ok
returns-in-Ok g c =
    let a = c.args in
    let made = start_made a.order.now _ a.text.now c.start-begun.ensures (passed c.is_done.ensures c.if-not-is_done.false) in
    c.make.ensures ∙ ap (λ (v : Memory). whole a.order.now (in_turn a.order.now (calls_in a.text.now) v)) made.2
    ∙ sym (settled_fits a.order.now a.text.now (sym c.check.ensures ∙ c.in-Ok.is)) ∙ load_laid a.order.now _ a.text.now made.0 made.1

pub returns-in-Err-Broken : goal.returns-in-Err-Broken
unfolding refusal
returns-in-Err-Broken g c =
    let a = c.args in
    let made = start_made a.order.now _ a.text.now c.start-begun.ensures (passed c.is_done.ensures c.if-not-is_done.false) in
    ap (λ (v : Memory). record { verdict = row_form; rounds = 0; memory = v }) made.2
    ∙ sym (settled_broken a.order.now a.text.now _ (rw c.in-Err-Broken.field-0-is at (sym c.check.ensures ∙ c.in-Err-Broken.is))) ∙ load_laid a.order.now _ a.text.now made.0 made.1

pub returns-in-Err-Deep : goal.returns-in-Err-Deep
unfolding refusal
returns-in-Err-Deep g c =
    let a = c.args in
    let made = start_made a.order.now _ a.text.now c.start-begun.ensures (passed c.is_done.ensures c.if-not-is_done.false) in
    ap (λ (v : Memory). record { verdict = row_deep; rounds = 0; memory = v }) made.2
    ∙ sym (settled_deep a.order.now a.text.now _ (rw c.in-Err-Deep.field-0-is at (sym c.check.ensures ∙ c.in-Err-Deep.is))) ∙ load_laid a.order.now _ a.text.now made.0 made.1
