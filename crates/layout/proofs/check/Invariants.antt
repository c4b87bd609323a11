use Rattle.std.proofs.Common.{◌≡◌, ◌-◌, ◌≤◌, false, length, drop}
use Rattle.layout.specs.Reading.{read_layout}
use Rattle.layout.proofs.SettledLaws.{lines}
use Rattle.layout.proofs.check.Given as goal

abbrev pub invariant-loop-at : goal.invariant-loop-at
invariant-loop-at l = (l.at ≤ length l.text) × (lines l.text false (read_layout l.text) ≡ lines l.text l.deepest (read_layout (drop l.at l.text)))

abbrev pub decreases-loop-at : goal.decreases-loop-at
decreases-loop-at l = length l.text - l.at
