-- Before turn p the rows below p are passed.
-- Assumes nothing.
use Rattle.std.proofs.Common.{◌≡◌}
use Rattle.model.specs.State.{memory}
use Rattle.bridging.specs.BridgeLaws.{passed}
use Rattle.bridging.proofs.bridge.Given as goal

abbrev pub invariant-loop-p : goal.invariant-loop-p
invariant-loop-p l = l.words ≡ passed (memory l.bytes l.fn.words) l.x l.p
