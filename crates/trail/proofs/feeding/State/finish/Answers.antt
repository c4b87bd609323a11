use Rattle.std.proofs.Common.{refl, arith}
use Rattle.trail.specs.Buffers.{reading_in}
use Rattle.trail.proofs.BufferLaws.{all_told}
use Rattle.trail.proofs.feeding.State.finish.Goals as goal

pub returns : goal.returns
returns c = all_told (reading_in c.args.self.now) c.last_line.ensures.closes refl c.report-report.ensures c.print.ensures (omega (arith, c.last_line.ensures.room))
