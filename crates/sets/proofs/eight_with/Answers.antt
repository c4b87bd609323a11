use Rattle.std.proofs.Common.{◌≡◌, refl, ap, ◌∙◌, Bool, not, List, ℕ, suc, ◌+◌, ◌-◌, ◌*◌, ◌^◌, ◌≤◌, ◌<◌, eqb, arith}
use Rattle.std.proofs.Math.Pow.{pow_mono}
use mir.Val.{bool_byte}
use Rattle.bits.specs.BitLaws.{low_word, low_lt}
use Rattle.records.specs.Records.{field}
use Rattle.sets.specs.WordLaws.{low_first}
use Rattle.sets.proofs.eight_with.Goals as goal

abbrev test : List ℕ → ℕ → ℕ → ℕ → Bool
test bytes first f i = not (eqb (field bytes (first + i) f) 0)

-- with the test before i too
next : (p : ℕ → Bool) (w i : ℕ) → 0 < i → i ≤ 8 → w ≡ low_word (λ j. p (i + j)) (8 - i) → 2 * w + bool_byte (p (i - 1)) ≡ low_word (λ j. p (i - 1 + j)) (8 - (i - 1))
next p w i some few h =
    let e : i ≡ suc (i - 1) = omega arith in
    let k : 8 - (i - 1) ≡ suc (8 - i) = omega arith in
    rw (h ∙ ap (λ (n : ℕ). low_word (λ j. p (n + j)) (8 - i)) e, k) (low_first p (i - 1) (8 - i))

small : (p : ℕ → Bool) (w i : ℕ) → 0 < i → i ≤ 8 → w ≡ low_word (λ j. p (i + j)) (8 - i) → 2 * w + bool_byte (p (i - 1)) < 2 ^ 8
small p w i some few h =
    let k = 8 - (i - 1) in
    let m : 2 ^ k ≤ 2 ^ 8 = pow_mono {j = 8} (omega arith) in
    omega (arith, next p w i some few h, low_lt (λ j. p (i - 1 + j)) k)

pub loop-i-init : goal.loop-i-init
unfolding low_word Rattle.bits.specs.All.up_to
loop-i-init c = refl

pub overflow_mul-w : goal.overflow_mul-w
overflow_mul-w c =
    let l = c.loop-i in
    omega (arith, small (test c.args.bytes.now c.args.first c.args.f) l.w l.i (omega arith) (omega arith) l.invariant)

pub overflow_add-w-in-loop-i-2 : goal.overflow_add-w-in-loop-i-2
unfolding field
overflow_add-w-in-loop-i-2 c =
    let l = c.loop-i in
    omega (arith, small (test c.args.bytes.now c.args.first c.args.f) l.w l.i (omega arith) (omega arith) l.invariant)

pub loop-i-preserved : goal.loop-i-preserved
unfolding field
loop-i-preserved c =
    let l = c.loop-i in
    next (test c.args.bytes.now c.args.first c.args.f) l.w l.i (omega arith) (omega arith) l.invariant
