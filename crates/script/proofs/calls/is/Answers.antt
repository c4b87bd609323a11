use Rattle.std.proofs.Common.{◌∙◌}
use Rattle.script.specs.PiecesLaws.{same_pointwise}
use Rattle.script.proofs.calls.is.Goals as goal

pub returns : goal.returns
returns c = c.eq.ensures ∙ same_pointwise c.args.piece.now c.args.word.now
