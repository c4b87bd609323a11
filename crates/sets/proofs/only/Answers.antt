use Rattle.std.proofs.Common.{arith}
use Rattle.sets.specs.SetLaws.{only_is}
use Rattle.sets.proofs.only.Goals as goal

pub returns-then-x-lt64 : goal.returns-then-x-lt64
returns-then-x-lt64 c = rw c.mask-bit.ensures (only_is _ 0 (omega arith))

pub returns-else-x-lt64 : goal.returns-else-x-lt64
returns-else-x-lt64 c = rw c.mask-bit.ensures (only_is _ 1 (omega arith))
