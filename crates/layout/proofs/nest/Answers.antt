use Rattle.std.proofs.Common.{◌+◌, length, length-drop, sym, ap, ◌∙◌, arith}
use Rattle.layout.specs.Layout.{line_feed, closing}
use Rattle.layout.proofs.PlaceLaws.{head_got, lost_of, passed_on, stands}
use Rattle.layout.proofs.NestLaws.{close_answer, nest_no_head, nest_begins, nest_shuts, nest_opens, nest_no_inner, nest_lost, nest_ends}
use Rattle.layout.proofs.nest.Goals as goal

pub returns-in_err-next : goal.returns-in_err-next
returns-in_err-next c = passed_on _ _ c.from_residual.ensures.1 ∙ nest_no_head _ _ _ (lost_of _ _ _ (sym c.in_err-next.ensures))

pub loop-held-init : goal.loop-held-init
loop-held-init c =
    let l = c.args.text.now in
    let e = c.in_ok-next.field-0.end in
    let h = head_got l c.args.at _ (sym c.in_ok-next.ensures) in
    (h.0.within, omega (arith, h.1, length-drop c.args.at l, length-drop e l), nest_begins l _ _ e h.0.is)

pub loop-held-smaller-then-is_at : goal.loop-held-smaller-then-is_at
loop-held-smaller-then-is_at c =
    let s = stands c.args.text.now c.loop-held.next closing (sym c.is_at.ensures ∙ c.if-is_at.true) in
    omega arith

pub loop-held-preserved-then-is_at : goal.loop-held-preserved-then-is_at
loop-held-preserved-then-is_at c =
    let w = c.loop-held in
    let l = c.args.text.now in
    let shuts = sym c.is_at.ensures ∙ c.if-is_at.true in
    let s = stands l w.next closing shuts in
    (omega arith, omega arith, w.invariant.2 ∙ ap (close_answer (length l)) (nest_shuts l w.held w.next (omega arith) shuts))

pub head_at-requires-then-is_at-2 : goal.head_at-requires-then-is_at-2
head_at-requires-then-is_at-2 c =
    let s = stands c.args.text.now c.loop-held.next line_feed (sym c.is_at-else-is_at.ensures ∙ c.if-is_at-2.true) in
    omega arith

pub returns-in_err-next-2 : goal.returns-in_err-next-2
returns-in_err-next-2 c =
    let w = c.loop-held in
    let l = c.args.text.now in
    passed_on _ _ c.from_residual-in_err-next-2.ensures.1
    ∙ sym (w.invariant.2 ∙ nest_no_inner (length l) l w.held w.next _ (omega arith) (sym c.is_at-else-is_at.ensures ∙ c.if-is_at-2.true) (lost_of _ _ _ (sym c.in_err-next-2.ensures)))

pub loop-held-smaller : goal.loop-held-smaller
loop-held-smaller c =
    let w = c.loop-held in
    let l = c.args.text.now in
    let h = head_got l (w.next + 1) _ (sym c.in_ok-next-2.ensures) in
    let s = stands l w.next line_feed (sym c.is_at-else-is_at.ensures ∙ c.if-is_at-2.true) in
    omega (arith, h.1, length-drop (w.next + 1) l, length-drop c.in_ok-next-2.field-0.end l)

pub loop-held-preserved : goal.loop-held-preserved
loop-held-preserved c =
    let w = c.loop-held in
    let l = c.args.text.now in
    let e = c.in_ok-next-2.field-0.end in
    let h = head_got l (w.next + 1) _ (sym c.in_ok-next-2.ensures) in
    let f = sym c.is_at-else-is_at.ensures ∙ c.if-is_at-2.true in
    let s = stands l w.next line_feed f in (
      h.0.within,
      omega (arith, h.1, length-drop (w.next + 1) l, length-drop e l),
      w.invariant.2 ∙ ap (close_answer (length l)) (nest_opens l w.held w.next _ e (omega arith) f h.0.is),
    )

pub returns-else-is_at-2 : goal.returns-else-is_at-2
returns-else-is_at-2 c =
    let w = c.loop-held in
    sym (w.invariant.2 ∙ nest_lost c.args.text.now w.held w.next (omega arith) w.invariant.0 (sym c.is_at.ensures ∙ c.if-is_at.false) (sym c.is_at-else-is_at.ensures ∙ c.if-is_at-2.false))

pub returns : goal.returns
returns c =
    let w = c.loop-held in
    sym (w.invariant.2 ∙ nest_ends c.args.text.now w.held w.next (omega arith) (omega arith))
