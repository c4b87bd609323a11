use Rattle.std.proofs.Common.{ap, length, arith}
use Rattle.trail.proofs.BufferLaws.{some_script, some_written}
use Rattle.trail.proofs.run.Goals as goal

pub finish-requires : goal.finish-requires
finish-requires c = omega (arith, ap length (some_written c.read_all.ensures))

pub returns : goal.returns
returns c = some_script c.read_all.ensures c.finish.ensures
