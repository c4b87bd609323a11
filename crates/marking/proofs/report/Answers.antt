use Rattle.std.proofs.Common.{◌≡◌, sym, ap, ◌∙◌, List, ℕ}
use Rattle.model.specs.State.{memory}
use Rattle.model.specs.Monitor.{report}
use Rattle.marking.specs.ReportLaws.{report_bytes, report_length, report_unsound, report_order, report_whole}
use Rattle.marking.proofs.report.Goals as goal
use Rattle.marking.proofs.report.Goals.{then-words-ne-WORDS-via-then-words-ne-WORDS, then-words-ne-WORDS-via-else-words-ne-WORDS+then-not-sound, In-Some}

pub returns-in_default : goal.returns-in_default
returns-in_default c =
    let a = c.args in
    c.no_report.ensures ∙ report_bytes a.order.now (memory a.bytes.now a.words.now) c.in_default.ensures.cases

-- the array has the slice's bytes
same : (c : In-Some) → report c.args.order.now (memory c.in-Some.bytes.now c.args.words.now) ≡ report c.args.order.now (memory c.args.bytes.now c.args.words.now)
same c = ap (λ (bs : List ℕ). report c.args.order.now (memory bs c.args.words.now)) c.in-Some.ensures.cases.same

pub returns-then-words-ne-WORDS : goal.returns-then-words-ne-WORDS
returns-then-words-ne-WORDS c =
    let a = c.args in
    let m = memory c.in-Some.bytes.now a.words.now in
    c.no_report-then-words-ne-WORDS.ensures
    ∙ elim c.then-words-ne-WORDS.branch [
      | then-words-ne-WORDS-via-then-words-ne-WORDS w ↦ report_length a.order.now m w.if-words-ne-WORDS.true
      | then-words-ne-WORDS-via-else-words-ne-WORDS+then-not-sound w ↦ report_unsound a.order.now m (sym (w.sound.ensures a.order.now.rows) ∙ w.if-not-sound.true)
    ] ∙ same (goal.at.returns-then-words-ne-WORDS c).In-Some

pub returns-then-not-order_passes : goal.returns-then-not-order_passes
returns-then-not-order_passes c =
    let a = c.args in
    c.no_report-then-not-order_passes.ensures
    ∙ report_order a.order.now (memory c.in-Some.bytes.now a.words.now) c.if-words-ne-WORDS.false (sym (c.sound.ensures _) ∙ c.if-not-sound.false)
    (sym c.order_passes.ensures ∙ c.if-not-order_passes.true)
    ∙ same (goal.at.returns-then-not-order_passes c).In-Some

pub returns : goal.returns
returns c =
    let a = c.args in
    c.marked_report.ensures a.words.now
    ∙ report_whole a.order.now (memory c.in-Some.bytes.now a.words.now) c.if-words-ne-WORDS.false (sym (c.sound.ensures _) ∙ c.if-not-sound.false)
    (sym c.order_passes.ensures ∙ c.if-not-order_passes.false)
    ∙ same (goal.at.returns c).In-Some
