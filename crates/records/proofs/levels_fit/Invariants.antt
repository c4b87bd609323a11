-- Before turn x the two bits of `any` are clear where the levels of the first x records fit.
use Rattle.std.proofs.Common.{◌≡◌}
use Rattle.bits.specs.All.{all_b}
use Rattle.records.specs.WordLaws.{word, raised, below}
use Rattle.records.proofs.levels_fit.Given as goal

abbrev pub invariant-loop-x : goal.invariant-loop-x
invariant-loop-x l = below l.any ≡ all_b l.x (λ y. below (raised l.count (word l.bytes y)))
