-- At each turn some input is fed, and what it printed is written.
-- Assumes nothing.
use Rattle.trail.specs.Buffers.{reading_in, SomeInput}
use Rattle.trail.proofs.read_all.Given as goal

abbrev pub invariant-loop : goal.invariant-loop
invariant-loop l = SomeInput (reading_in l.state)
