-- Before turn g the word has the tests of the first g eights.
use Rattle.std.proofs.Common.{◌≡◌, ◌+◌, ◌*◌, not, eqb}
use Rattle.bits.specs.BitLaws.{low_word}
use Rattle.records.specs.Records.{field}
use Rattle.sets.proofs.word_with.Given as goal

abbrev pub invariant-loop-g : goal.invariant-loop-g
invariant-loop-g l = l.w ≡ low_word (λ i. not (eqb (field l.bytes (l.first + i) l.f) 0)) (8 * l.g)
