use Rattle.creation.specs.Judged.{create_rows}
use Rattle.creation.proofs.judge.create_rows.Goals as goal

pub returns : goal.returns
unfolding create_rows
returns c = cc
