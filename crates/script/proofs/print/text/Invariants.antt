-- At each turn the bytes before this one are stored.
-- Assumes nothing.
use Rattle.std.proofs.Common.{take}
use Rattle.script.specs.Stored.{Stored}
use Rattle.script.proofs.print.text.Given as goal

abbrev pub invariant-loop-b : goal.invariant-loop-b
invariant-loop-b l = Stored l.initial.out l.at (take l.b-index l.bytes) l.out l.end
