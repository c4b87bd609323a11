use Rattle.std.proofs.Common.{Bool, cond, ◌||◌, ◌+◌, Ok, Err, drop, length-drop, sym, ap, ◌∙◌, arith}
use Rattle.layout.specs.Layout.{line_feed}
use Rattle.layout.specs.Reading.{read_layout, ninth_from}
use Rattle.layout.proofs.PlaceLaws.{passed_on, stands}
use Rattle.layout.proofs.AnswerLaws.{form_got, form_lost}
use Rattle.layout.proofs.SettledLaws.{lines, settled_long, settled_lines, lines_more, lines_no_form, lines_no_line, lines_end}
use Rattle.layout.specs.declared.Fault.TheVariants.{Deep}
use Rattle.layout.proofs.check.Goals as goal

pub returns-then-text-gt-MOST_BYTES : goal.returns-then-text-gt-MOST_BYTES
returns-then-text-gt-MOST_BYTES c = settled_long c.args.text.now c.if-text-gt-MOST_BYTES.true

pub returns-in_err-deep : goal.returns-in_err-deep
returns-in_err-deep c =
    let l = c.args.text.now in
    let w = c.loop-at in
    passed_on _ _ c.from_residual.ensures.1
    ∙ lines_no_form w.deepest l w.at _ (omega arith) (form_lost _ _ _ (sym c.in_err-deep.ensures))
    ∙ sym w.invariant.1
    ∙ settled_lines l (omega arith)

pub returns-then-not-is_at : goal.returns-then-not-is_at
returns-then-not-is_at c =
    let l = c.args.text.now in
    let w = c.loop-at in
    let f = form_got l w.at _ (sym c.in_ok-deep.ensures) in
    lines_no_line w.deepest l w.at f.0 c.in_ok-deep.field-0.end (omega arith) f.1.goes_on.is (sym c.is_at.ensures ∙ c.if-not-is_at.true) f.1.goes_on.within
    ∙ sym w.invariant.1
    ∙ settled_lines l (omega arith)

pub overflow_add-at : goal.overflow_add-at
overflow_add-at c =
    let s = stands c.args.text.now c.in_ok-deep.field-0.end line_feed (sym c.is_at.ensures ∙ c.if-not-is_at.false) in
    omega arith

pub loop-at-smaller : goal.loop-at-smaller
loop-at-smaller c =
    let l = c.args.text.now in
    let w = c.loop-at in
    let f = form_got l w.at _ (sym c.in_ok-deep.ensures) in
    omega (arith, f.1.fewer, length-drop c.in_ok-deep.field-0.end l, length-drop w.at l)

pub loop-at-preserved : goal.loop-at-preserved
loop-at-preserved c =
    let l = c.args.text.now in
    let w = c.loop-at in
    let e = c.in_ok-deep.field-0.end in
    let f = form_got l w.at _ (sym c.in_ok-deep.ensures) in
    let line = sym c.is_at.ensures ∙ c.if-not-is_at.false in
    let s = stands l e line_feed line in (
      omega arith,
      w.invariant.1 ∙ lines_more w.deepest l w.at f.0 e f.1.goes_on.is line ∙ ap (λ (y : Bool). lines l (w.deepest || y) (read_layout (drop (e + 1) l))) f.2,
    )

pub returns-then-deepest : goal.returns-then-deepest
returns-then-deepest c =
    let l = c.args.text.now in
    let w = c.loop-at in
    rw c.ninth.ensures
    (ap (λ (y : Bool). cond y (Err (Deep (ninth_from 0 l))) (Ok tt)) (sym c.if-deepest.true)
    ∙ sym (w.invariant.1 ∙ lines_end w.deepest l w.at (omega arith))
    ∙ settled_lines l (omega arith))

pub returns : goal.returns
returns c =
    let l = c.args.text.now in
    let w = c.loop-at in
    ap (λ (y : Bool). cond y (Err (Deep (ninth_from 0 l))) (Ok tt)) (sym c.if-deepest.false)
    ∙ sym (w.invariant.1 ∙ lines_end w.deepest l w.at (omega arith))
    ∙ settled_lines l (omega arith)
