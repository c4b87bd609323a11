use Rattle.std.proofs.Common.{arith}
use Rattle.trail.proofs.BufferLaws.{no_input, input_more, some_written}
use Rattle.trail.proofs.read_all.Goals as goal

pub loop-init : goal.loop-init
loop-init c = no_input c.requires.1

pub read_piece-requires : goal.read_piece-requires
read_piece-requires c = (omega arith, some_written c.loop.invariant)

pub loop-preserved : goal.loop-preserved
loop-preserved c = input_more _ c.loop.invariant c.in_ok-read_piece.ensures

pub returns-then-branch-eq0 : goal.returns-then-branch-eq0
returns-then-branch-eq0 c = input_more _ c.loop.invariant c.in_ok-read_piece.ensures

pub returns-in_err-read_piece : goal.returns-in_err-read_piece
returns-in_err-read_piece c = input_more _ c.loop.invariant c.in_err-read_piece.ensures.1
