use Rattle.std.proofs.Common.{arith, rules}
use Rattle.sets.specs.WalkLaws.{in_none, in_next}
use Rattle.sets.proofs.numbers.NumbersIterator.next.Goals as goal

pub returns-then-self-eq0-clause-steps : goal.returns-then-self-eq0-clause-steps
returns-then-self-eq0-clause-steps c y = rw c.if-self-eq0.true (in_none c.args.self.now.first y)

pub returns-clause-steps : goal.returns-clause-steps
returns-clause-steps c =
    let s = c.args.self.now in
    let e = c.lowest_number-x.ensures in
    (e.1, λ y. rw e.0 (in_next s.rest s.first y (search rules) (omega arith)))
