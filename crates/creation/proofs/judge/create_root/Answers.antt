use Rattle.model.specs.State.{marked}
use Rattle.creation.specs.CreationLaws.{root_verdict}
use Rattle.creation.proofs.judge.create_root.Goals as goal

pub returns : goal.returns
unfolding marked
returns c = rw root_verdict (cc)
