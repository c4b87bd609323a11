use Rattle.std.proofs.Common.{drop, sym, ◌∙◌, arith}
use Rattle.layout.specs.Layout.{none, depth_of, closing}
use Rattle.layout.specs.Answers.{stands_at}
use Rattle.layout.proofs.PlaceLaws.{stands, head_got, lost_of, passed_on}
use Rattle.layout.proofs.AnswerLaws.{object_no_head, object_closed}
use Rattle.layout.proofs.ReadingLaws.{objects_stop}
use Rattle.layout.proofs.root.Goals as goal

pub returns-in_err-head : goal.returns-in_err-head
returns-in_err-head c = passed_on _ _ c.from_residual.ensures.1 ∙ object_no_head _ _ _ _ (lost_of _ _ _ (sym c.in_err-head.ensures))

pub overflow_add-result : goal.overflow_add-result
overflow_add-result c =
    let s = stands c.args.text.now c.in_ok-head.head.end closing (sym c.is_at.ensures ∙ c.if-is_at.true) in
    omega arith

pub returns-then-is_at : goal.returns-then-is_at
unfolding depth_of stands_at
returns-then-is_at c =
    let l = c.args.text.now in
    let e = c.in_ok-head.head.end in
    let h = head_got l c.args.at _ (sym c.in_ok-head.ensures) in
    let closed = sym c.is_at.ensures ∙ c.if-is_at.true in
    object_closed 1 l _ _ _ none e h.0.is (objects_stop (drop e l) (rw (stands l e closing closed).1)) closed
