use Rattle.script.specs.PrintLaws.{one_digit, two_digits, three_digits}
use Rattle.script.specs.StoredLaws.{stored_then}
use Rattle.script.proofs.print.number.Goals as goal

pub returns-then-n-lt10 : goal.returns-then-n-lt10
returns-then-n-lt10 c = rw (one_digit _ c.if-n-lt10.true) c.byte.ensures

pub returns-then-n-lt100 : goal.returns-then-n-lt100
returns-then-n-lt100 c = rw (two_digits _ c.if-n-lt10.false c.if-n-lt100.true) (stored_then c.byte-end.ensures c.byte-then-n-lt100.ensures)

pub returns-else-n-lt100 : goal.returns-else-n-lt100
returns-else-n-lt100 c = rw (three_digits _ c.if-n-lt10.false c.if-n-lt100.false) (stored_then (stored_then c.byte-end-else-n-lt100.ensures c.byte-next.ensures) c.byte-else-n-lt100.ensures)
