use Rattle.std.proofs.Common.{◌≡◌, ℕ, ◌^◌, ◌<◌, ◌||◌}
use Rattle.bits.specs.WordsLaws.{Fit}
use Rattle.rows.specs.Size.{row_size, numbers}
use Rattle.sets.specs.Sets.{words, has, in_word, joined}
use Rattle.sets.specs.SetLaws.{pair, turned}
use Rattle.sets.proofs.join_word.Given as goal

abbrev pub invariant-loop-rest : goal.invariant-loop-rest
invariant-loop-rest l =
    (l.rest < 2 ^ 64) × Fit (words (pair l.low l.missed))
    × ((x : ℕ) → x < numbers → (has (turned l.low l.missed) x || joined row_size l.words (in_word l.rest l.first) x) ≡ (has (turned l.initial.low l.initial.missed) x || joined row_size l.words (in_word l.word l.first) x))

abbrev pub decreases-loop-rest : goal.decreases-loop-rest
decreases-loop-rest l = l.rest
