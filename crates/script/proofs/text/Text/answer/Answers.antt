use Rattle.script.specs.StoredLaws.{stored_printed}
use Rattle.script.proofs.text.Text.answer.Goals as goal

pub returns : goal.returns
returns g c = stored_printed c.answer-self.ensures
