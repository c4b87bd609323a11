use Rattle.std.proofs.Common.{◌≡◌, ◌+◌, ◌≤◌, length, drop}
use Rattle.layout.specs.Reading.{field}
use Rattle.layout.proofs.fields.same_bytes.Given as goal

abbrev pub invariant-loop-i : goal.invariant-loop-i
invariant-loop-i l = (l.at + l.i ≤ length l.text) × (field l.word (drop l.at l.text) ≡ field (drop l.i l.word) (drop (l.at + l.i) l.text))
