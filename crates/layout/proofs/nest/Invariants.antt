use Rattle.std.proofs.Common.{◌≡◌, ◌-◌, ◌≤◌, length, drop}
use Rattle.layout.specs.Reading.{object_at}
use Rattle.layout.specs.Answers.{nest_answer}
use Rattle.layout.proofs.NestLaws.{closes, close_answer}
use Rattle.layout.proofs.nest.Given as goal

abbrev pub invariant-loop-held : goal.invariant-loop-held
invariant-loop-held l = (l.next ≤ length l.text) × (l.held ≤ l.next) × (nest_answer (length l.text) (object_at (drop l.fn.at l.text)) ≡ close_answer (length l.text) (closes l.held (drop l.next l.text)))

abbrev pub decreases-loop-held : goal.decreases-loop-held
decreases-loop-held l = length l.text - l.next
