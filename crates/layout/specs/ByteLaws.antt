-- Whether every entry of a list is a byte.
-- Assumes nothing.
use Rattle.std.specs.Prelude.{◌≡◌, Bool, true, ◌&&◌, List, [], ◌∷◌, ℕ, zero, suc, ◌<◌, ltb, get_or}
use Rattle.std.proofs.Common.{arith, ltb-true}
use Rattle.bits.specs.AllLaws.{and_l, and_r}

-- every byte of a word is one: of a word, this computes to true
abbrev pub are_bytes : List ℕ → Bool
are_bytes [] = true
are_bytes (b ∷ w) = ltb b 0x100 && are_bytes w

pub bytes_fit : (w : List ℕ) → are_bytes w ≡ true → (i : ℕ) → get_or w i 0 < 0x100
bytes_fit [] h i = omega arith
bytes_fit (b ∷ w) h zero = ltb-true b 0x100 (and_l (ltb b 0x100) (are_bytes w) h)
bytes_fit (b ∷ w) h (suc i) = bytes_fit w (and_r (ltb b 0x100) (are_bytes w) h) i
