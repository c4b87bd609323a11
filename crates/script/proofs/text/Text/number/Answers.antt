use Rattle.script.specs.StoredLaws.{stored_printed}
use Rattle.script.proofs.text.Text.number.Goals as goal

pub returns : goal.returns
returns g c = stored_printed c.number-self.ensures
