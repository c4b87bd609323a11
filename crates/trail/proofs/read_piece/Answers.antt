use Rattle.std.proofs.lemmas.Result.{err_from_is_err_and}
use Rattle.trail.specs.Buffers.{reading_in}
use Rattle.trail.proofs.BufferLaws.{no_piece}
use Rattle.trail.proofs.read_piece.Goals as goal

pub returns-in_err-n : goal.returns-in_err-n
returns-in_err-n c =
    let p = err_from_is_err_and c.from_residual.result c.from_residual.ensures.1 in
    rw p.1 (0, no_piece (reading_in c.args.state.now) c.requires.1)
