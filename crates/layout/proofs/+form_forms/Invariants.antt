use Rattle.std.proofs.Common.{◌≡◌, ◌-◌, ◌≤◌, length, drop}
use Rattle.layout.specs.Reading.{objects_at}
use Rattle.layout.specs.Answers.{objects_answer}
use Rattle.layout.proofs.AnswerLaws.{rest}
use Rattle.layout.proofs.+form_forms.Given as goal

abbrev pub decreases-form : goal.decreases-form
decreases-form l = length l.text.now - l.at

abbrev pub decreases-forms : goal.decreases-forms
decreases-forms l = length l.text.now - l.at

abbrev pub invariant-forms-loop-next : goal.invariant-forms-loop-next
invariant-forms-loop-next l = (l.fn.at ≤ l.next) × (l.next ≤ length l.text) × (objects_answer l.fn.level (length l.text) (objects_at (drop l.fn.at l.text)) ≡ rest l.met l.fn.level (length l.text) (objects_at (drop l.next l.text)))

abbrev pub decreases-forms-loop-next : goal.decreases-forms-loop-next
decreases-forms-loop-next l = length l.text - l.next
