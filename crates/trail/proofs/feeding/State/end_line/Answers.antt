use Rattle.std.proofs.Common.{refl, ap, []}
use Rattle.script.specs.Print.{held}
use Rattle.script.specs.PrintLaws.{reply_within}
use Rattle.trail.specs.Script.{Progress}
use Rattle.trail.specs.Feeding.{Reading}
use Rattle.trail.specs.Buffers.{progress_in}
use Rattle.trail.proofs.BufferLaws.{line_answered}
use Rattle.trail.proofs.feeding.State.end_line.Goals as goal

closed : Progress → Reading
closed p = record { line = []; progress = p }

pub returns-clause-ends : goal.returns-clause-ends
unfolding closed
returns-clause-ends c =
    let s = c.args.self.now in
    let done = rw c.as_slice.ensures at c.do_line-reply.ensures in
    rw c.clear.ensures (ap closed (line_answered (progress_in s) (held s.line) done refl c.answer.ensures c.requires))

pub returns-clause-room : goal.returns-clause-room
returns-clause-room c = reply_within _ c.answer.ensures
