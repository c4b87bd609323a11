use Rattle.std.proofs.Common.{refl}
use Rattle.creation.specs.Judged.{scaled}
use Rattle.creation.proofs.judge.scaled.Goals as goal

pub returns : goal.returns
unfolding scaled
returns c = simp (c.unless-2.ensures, c.unless.ensures) refl
