-- Before turn k `any` is zero where the first k records are free.
use Rattle.std.proofs.Common.{◌≡◌, ◌+◌, eqb}
use Rattle.bits.specs.All.{all_b}
use Rattle.records.specs.WordLaws.{word}
use Rattle.records.proofs.group_free.Given as goal

abbrev pub invariant-loop-k : goal.invariant-loop-k
invariant-loop-k l = eqb l.any 0 ≡ all_b l.k (λ j. eqb (word l.bytes (l.x + j)) 0)
