-- Before each turn the word has the tests from i on.
use Rattle.std.proofs.Common.{◌≡◌, ◌+◌, ◌-◌, not, eqb}
use Rattle.bits.specs.BitLaws.{low_word}
use Rattle.records.specs.Records.{field}
use Rattle.sets.proofs.eight_with.Given as goal

abbrev pub invariant-loop-i : goal.invariant-loop-i
invariant-loop-i l = l.w ≡ low_word (λ j. not (eqb (field l.bytes (l.first + (l.i + j)) l.f) 0)) (8 - l.i)
