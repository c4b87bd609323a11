use Rattle.script.specs.Print.{reply_line}
use Rattle.script.specs.StoredLaws.{stored_then}
use Rattle.script.proofs.print.answer.Goals as goal

pub returns-in-Bad : goal.returns-in-Bad
unfolding reply_line
returns-in-Bad c = rw c.in-Bad.is c.text.ensures

pub returns-in-Verdict : goal.returns-in-Verdict
unfolding reply_line
returns-in-Verdict c = rw c.in-Verdict.is (stored_then c.number-end.ensures c.byte.ensures)

pub returns-in-Rounds : goal.returns-in-Rounds
unfolding reply_line
returns-in-Rounds c = rw c.in-Rounds.is (stored_then (stored_then (stored_then c.number-end-in-Rounds.ensures c.byte-next.ensures) c.number-last.ensures) c.byte-in-Rounds.ensures)
