use Rattle.std.proofs.Common.{◌≡◌, refl, ap, ◌∙◌, Bool, not, List, ℕ, ◌+◌, ◌*◌, bit_or, eqb, arith}
use Rattle.std.proofs.Math.Nat.{add_assoc}
use Rattle.std.specs.Int.Bits.{or_shifted_r}
use Rattle.std.proofs.Math.Pow.{shl_exact}
use Rattle.bits.specs.Bit.{word_of}
use Rattle.bits.specs.BitLaws.{low_word, low_lt}
use Rattle.records.specs.Records.{field}
use Rattle.sets.specs.WordLaws.{low_join}
use Rattle.sets.proofs.word_with.Goals as goal

abbrev test : List ℕ → ℕ → ℕ → ℕ → Bool
test bytes first f i = not (eqb (field bytes (first + i) f) 0)

pub loop-g-init : goal.loop-g-init
unfolding low_word Rattle.bits.specs.All.up_to
loop-g-init c = refl

pub loop-g-preserved : goal.loop-g-preserved
loop-g-preserved c =
    let l = c.loop-g in
    let a = c.args in
    let p = test a.bytes.now a.first a.f in
    let k = 8 * l.g in
    let r : c.eight_with.result ≡ low_word (λ i. p (k + i)) 8 = c.eight_with.ensures ∙ (λ t. low_word (λ i. not (eqb (field a.bytes.now (add_assoc a.first k i t) a.f) 0)) 8) in
    let e : 8 * (l.g + 1) ≡ k + 8 = omega arith in
    rw (l.invariant, r, e)
    (ap (bit_or (low_word p k)) (shl_exact 8 k 64 (low_lt (λ i. p (k + i)) 8) (omega arith)) ∙ or_shifted_r (low_word (λ i. p (k + i)) 8) k (low_word p k) (low_lt p k) ∙ low_join p k 8)

pub returns : goal.returns
unfolding word_of low_word
returns c =
    let e : c.loop-g.g ≡ 8 = omega arith in
    rw e at c.loop-g.invariant
