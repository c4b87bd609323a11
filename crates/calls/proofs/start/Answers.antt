use Rattle.std.proofs.Common.{rules, sym, ◌∙◌, ap}
use Rattle.rows.specs.Size.{WordsLent}
use Rattle.records.specs.Records.{BytesLent}
use Rattle.model.specs.State.{Memory, memory}
use Rattle.model.specs.Monitor.{start}
use Rattle.calls.proofs.Rows.{lengths_right, passed, stopped}
use Rattle.calls.proofs.start.Goals as goal

pub returns-then-not-order_passes : goal.returns-then-not-order_passes
unfolding start
returns-then-not-order_passes c =
    let b : BytesLent c.args.bytes.now = search rules in
    let w : WordsLent c.args.words.now = search rules in
    sym (passed _ _ _ _ (lengths_right (memory _ _) b w) ∙ stopped _ _ _ _ (sym c.order_passes.ensures ∙ c.if-not-order_passes.true))

pub returns : goal.returns
unfolding start
returns c =
    let b : BytesLent c.args.bytes.now = search rules in
    let w : WordsLent c.args.words.now = search rules in
    ap (λ (m : Memory). record { verdict = 0; rounds = 0; memory = m }) c.set_up.ensures
    ∙ sym (passed _ _ _ _ (lengths_right (memory _ _) b w) ∙ passed _ _ _ _ (sym c.order_passes.ensures ∙ c.if-not-order_passes.false))
