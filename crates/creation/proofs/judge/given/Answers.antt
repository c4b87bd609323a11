use Rattle.creation.specs.Judged.{given}
use Rattle.creation.proofs.judge.given.Goals as goal

pub returns : goal.returns
unfolding given
returns c = cc
