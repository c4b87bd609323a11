use Rattle.std.proofs.Common.{sym, ◌∙◌}
use Rattle.layout.proofs.PlaceLaws.{lost_of, passed_on}
use Rattle.layout.proofs.AnswerLaws.{form_object, form_task, form_no_task}
use Rattle.layout.proofs.form_at.Goals as goal

pub returns-then-not-is_at : goal.returns-then-not-is_at
returns-then-not-is_at c = c.root.ensures ∙ form_object _ c.args.text.now c.args.at (sym c.is_at.ensures ∙ c.if-not-is_at.true)

pub returns-in_err-task : goal.returns-in_err-task
returns-in_err-task c =
    passed_on _ _ c.from_residual.ensures.1
    ∙ form_no_task c.args.text.now c.args.at _ (sym c.is_at.ensures ∙ c.if-not-is_at.false) (lost_of _ _ _ (sym c.in_err-task.ensures))

pub returns : goal.returns
returns c = form_task c.args.text.now c.args.at _ (sym c.is_at.ensures ∙ c.if-not-is_at.false) (sym c.in_ok-task.ensures)
