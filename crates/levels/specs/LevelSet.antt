-- A set of levels in sixteen bits: bit l says that level l is in it.
-- Assumes nothing.
use Rattle.std.specs.Prelude.{Bool, ℕ, ◌^◌, ltb}
use Rattle.std.specs.Int.Bits.{bit_or}
use Rattle.bits.specs.Bit.{bit}
use Rattle.bits.specs.All.{all_b, ◌⇒◌}
use Rattle.levels.specs.Order.{most_levels}

-- with level l in it
unfoldable pub with_level : ℕ → ℕ → ℕ
with_level set l = bit_or set (2 ^ l)

-- no bit stands at or past the count
unfoldable pub set_fits : ℕ → ℕ → Bool
set_fits count set = all_b most_levels (λ l. bit set l ⇒ ltb l count)
