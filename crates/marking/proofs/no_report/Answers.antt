use Rattle.model.specs.Monitor.{no_report}
use Rattle.marking.proofs.no_report.Goals as goal

pub returns : goal.returns
unfolding no_report
returns c = rw c.number.ensures
