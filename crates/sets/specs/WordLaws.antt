-- A word of tests, some at a time.
-- Assumes nothing.
use Rattle.std.specs.Prelude.{◌≡◌, Bool, true, false, cond, ℕ, zero, suc, ◌+◌, ◌*◌, ◌^◌}
use Rattle.std.proofs.Common.{sym, ap, ◌∙◌, add-zero, add-suc, arith, pow-add}
use mir.Val.{bool_byte}
use Rattle.bits.specs.All.{up_to}
use Rattle.bits.specs.BitLaws.{low_word}

-- the tests from n on, the first of them last
pub low_first : (p : ℕ → Bool) (n k : ℕ) → 2 * low_word (λ i. p (suc n + i)) k + bool_byte (p n) ≡ low_word (λ i. p (n + i)) (suc k)
unfolding low_word up_to
low_first p n zero = rw (add-zero n) (go (p n))
  where
    go : (b : Bool) → 2 * 0 + bool_byte b ≡ cond b (0 + 2 ^ 0) 0
    go true = omega arith
    go false = omega arith
low_first p n (suc k) =
    let e : suc n + k ≡ n + suc k = omega arith in
    go (p (suc n + k)) (low_first p n k) ∙ ap (λ (i : ℕ). cond (p i) (low + 2 ^ suc k) low) e
  where
    low : ℕ
    low = low_word (λ i. p (n + i)) (suc k)

    high : ℕ
    high = low_word (λ i. p (suc n + i)) k

    go : (b : Bool) → 2 * high + bool_byte (p n) ≡ low → 2 * cond b (high + 2 ^ k) high + bool_byte (p n) ≡ cond b (low + 2 ^ suc k) low
    go true e = omega arith
    go false e = e

-- those from k on, above the first k
pub low_join : (p : ℕ → Bool) (k n : ℕ) → low_word (λ i. p (k + i)) n * 2 ^ k + low_word p k ≡ low_word p (k + n)
unfolding low_word up_to
low_join p k zero = rw (add-zero k) (omega arith)
low_join p k (suc n) = go (p (k + n)) (low_join p k n) ∙ ap (low_word p) (sym (add-suc k n))
  where
    go : (b : Bool) → low_word (λ i. p (k + i)) n * 2 ^ k + low_word p k ≡ low_word p (k + n)
        → cond b (low_word (λ i. p (k + i)) n + 2 ^ n) (low_word (λ i. p (k + i)) n) * 2 ^ k + low_word p k ≡ cond b (low_word p (k + n) + 2 ^ (k + n)) (low_word p (k + n))
    go true e = omega (arith, pow-add 2 k n)
    go false e = e
