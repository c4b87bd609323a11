use Rattle.std.proofs.Common.{Bool, ◌||◌, ◌+◌, length, drop, length-drop, sym, ap, ◌∙◌, arith}
use Rattle.layout.specs.Layout.{line_feed, closing}
use Rattle.layout.specs.Reading.{objects_at}
use Rattle.layout.proofs.PlaceLaws.{stands, head_got, lost_of, passed_on}
use Rattle.layout.proofs.AnswerLaws.{rest, rest_all, rest_more, rest_none, rest_ends, objects_got, objects_lost, object_got, object_lost, object_past, object_no_head, object_no_inner, object_unclosed, object_closed}
use Rattle.layout.proofs.+form_forms.Goals as goal

-- ---- an object

pub form-returns-then-level-gt-MOST_LEVELS : goal.form-returns-then-level-gt-MOST_LEVELS
form-returns-then-level-gt-MOST_LEVELS t c = c.nest.ensures ∙ object_past c.args.level (length c.args.text.now) _ c.if-level-gt-MOST_LEVELS.true

pub form-returns-in_err-head : goal.form-returns-in_err-head
form-returns-in_err-head t c = passed_on _ _ c.from_residual.ensures.1 ∙ object_no_head _ _ _ _ (lost_of _ _ _ (sym c.in_err-head.ensures))

pub form-forms-requires : goal.form-forms-requires
form-forms-requires t c =
    let l = c.args.text.now in
    let h = head_got l c.args.at _ (sym c.in_ok-head.ensures) in
    (omega (arith, c.decreases, h.1, length-drop c.args.at l, length-drop c.in_ok-head.head.end l), (h.0.within, omega arith))

pub form-returns-in_err-held : goal.form-returns-in_err-held
form-returns-in_err-held t c =
    let l = c.args.text.now in
    let h = head_got l c.args.at _ (sym c.in_ok-head.ensures) in
    passed_on _ _ c.from_residual-in_err-held.ensures.1 ∙ object_no_inner _ _ _ _ _ _ h.0.is (objects_lost _ _ _ _ (sym c.in_err-held.ensures))

pub form-returns-then-not-is_at : goal.form-returns-then-not-is_at
form-returns-then-not-is_at t c =
    let l = c.args.text.now in
    let h = head_got l c.args.at _ (sym c.in_ok-head.ensures) in
    let f = objects_got _ l _ _ (sym c.in_ok-held.ensures) in
    object_unclosed c.args.level l _ _ _ f.0 c.in_ok-held.held.end h.0.is f.1.is (sym c.is_at.ensures ∙ c.if-not-is_at.true) f.1.within

pub form-overflow_add-result : goal.form-overflow_add-result
form-overflow_add-result t c =
    let s = stands c.args.text.now c.in_ok-held.held.end closing (sym c.is_at.ensures ∙ c.if-not-is_at.false) in
    omega arith

pub form-returns : goal.form-returns
form-returns t c =
    let l = c.args.text.now in
    let h = head_got l c.args.at _ (sym c.in_ok-head.ensures) in
    let f = objects_got _ l _ _ (sym c.in_ok-held.ensures) in
    let e = c.in_ok-held.held.end in
    rw (← f.2) (object_closed c.args.level l _ _ _ f.0 e h.0.is f.1.is (sym c.is_at.ensures ∙ c.if-not-is_at.false))

-- ---- objects side by side

pub forms-loop-next-init : goal.forms-loop-next-init
forms-loop-next-init t c = (omega arith, omega (arith, c.requires.0), rest_all _ _ _)

pub forms-form-requires : goal.forms-form-requires
forms-form-requires t c =
    let s = stands c.args.text.now c.loop-next.next line_feed (sym c.is_at.ensures ∙ c.loop-next-test.true) in
    (omega (arith, c.decreases), omega arith)

pub forms-returns-in_err-deep : goal.forms-returns-in_err-deep
forms-returns-in_err-deep t c =
    let l = c.args.text.now in
    let w = c.loop-next in
    passed_on _ _ c.from_residual.ensures.1
    ∙ rest_none w.met c.args.level (length l) l w.next _ (sym c.is_at.ensures ∙ c.loop-next-test.true) (object_lost _ _ _ _ (sym c.in_err-deep.ensures))
    ∙ sym w.invariant.2

pub forms-loop-next-smaller : goal.forms-loop-next-smaller
forms-loop-next-smaller t c =
    let l = c.args.text.now in
    let w = c.loop-next in
    let f = object_got _ l _ _ (sym c.in_ok-deep.ensures) in
    let s = stands l w.next line_feed (sym c.is_at.ensures ∙ c.loop-next-test.true) in
    omega (arith, f.1.fewer, length-drop (w.next + 1) l, length-drop c.in_ok-deep.field-0.end l)

pub forms-loop-next-preserved : goal.forms-loop-next-preserved
forms-loop-next-preserved t c =
    let l = c.args.text.now in
    let w = c.loop-next in
    let e = c.in_ok-deep.field-0.end in
    let f = object_got _ l _ _ (sym c.in_ok-deep.ensures) in
    let line = sym c.is_at.ensures ∙ c.loop-next-test.true in
    let s = stands l w.next line_feed line in (
      omega (arith, f.1.fewer, length-drop (w.next + 1) l, length-drop e l),
      f.1.goes_on.within,
      w.invariant.2
          ∙ rest_more w.met c.args.level (length l) l w.next f.0 e line f.1.goes_on.is
          ∙ ap (λ (y : Bool). rest (w.met || y) c.args.level (length l) (objects_at (drop e l))) f.2,
    )

pub forms-returns : goal.forms-returns
forms-returns t c =
    let w = c.loop-next in
    rest_ends w.met c.args.level c.args.text.now w.next c.requires.1 (sym c.is_at.ensures ∙ c.loop-next-test.false) w.invariant.1 ∙ sym w.invariant.2
