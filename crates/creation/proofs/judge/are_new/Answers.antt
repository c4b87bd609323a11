use Rattle.std.proofs.Common.{refl}
use Rattle.creation.specs.Judged.{are_new}
use Rattle.creation.proofs.judge.are_new.Goals as goal

pub returns : goal.returns
unfolding are_new
returns c = simp (c.is_task-2.ensures, c.is_task.ensures) refl
