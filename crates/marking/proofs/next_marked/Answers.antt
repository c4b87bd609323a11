use Rattle.std.specs.Prelude.{refl}
use Rattle.std.proofs.Common.{arith}
use Rattle.marking.specs.LowestLaws.{next_low, next_high, next_none}
use Rattle.marking.proofs.next_marked.Goals as goal

pub returns-then-from-ge-NUMBERS : goal.returns-then-from-ge-NUMBERS
returns-then-from-ge-NUMBERS c = next_none _ _ (λ j a b. absurd (omega (arith, c.if-from-ge-NUMBERS.true))) refl (λ j a b. absurd (omega (arith, c.if-from-ge-NUMBERS.true)))

pub returns-in-Some : goal.returns-in-Some
returns-in-Some c = next_high _ _ (λ j a b. absurd (omega (arith, c.if-from-ge64.true))) refl _ c.in-Some.ensures

pub returns-in-None : goal.returns-in-None
returns-in-None c = next_none _ _ (λ j a b. absurd (omega (arith, c.if-from-ge64.true))) refl c.in-None.ensures

pub returns-in-Some-lowest_from : goal.returns-in-Some-lowest_from
returns-in-Some-lowest_from c = next_low _ _ _ c.in-Some-lowest_from.ensures

pub returns-in-Some-lowest_from-2 : goal.returns-in-Some-lowest_from-2
returns-in-Some-lowest_from-2 c = next_high _ _ c.in_default.ensures (omega (arith, c.if-from-ge64.false)) _ c.in-Some-lowest_from-2.ensures

pub returns-in-None-lowest_from : goal.returns-in-None-lowest_from
returns-in-None-lowest_from c = next_none _ _ c.in_default.ensures (omega (arith, c.if-from-ge64.false)) c.in-None-lowest_from.ensures
