-- Levels of sound bytes under an order that passes: each has a row and stands in rows, and a comparison is a bit of a row.
-- Assumes nothing.
use Rattle.std.specs.Prelude.{◌≡◌, Bool, List, ℕ, ◌<◌}
use Rattle.std.proofs.Common.{sym, ◌∙◌, arith}
use Rattle.bits.specs.Bit.{bit}
use Rattle.rows.specs.Size.{present}
use Rattle.levels.specs.declared.Order.{Order}
use Rattle.levels.specs.Order.{most_levels, row_of, related, at_or_below}
use Rattle.levels.specs.OrderLaws.{is_order, by_row}
use Rattle.records.specs.Records.{level, read_level}
use Rattle.records.specs.RecordLaws.{level_below, read_below}
use Rattle.model.specs.Ready.{Ready}
use Rattle.decisions.specs.Facts.{Levelled}

-- a state that is ready has such bytes
pub levelled : (o : Order) (bs ws : List ℕ) → Ready o bs ws → Levelled o bs
levelled o bs ws r = (r.2, r.3)

module _ (o : Order) (bs : List ℕ) (ok : Levelled o bs) where
  pub level_has_row : (x : ℕ) → level bs x < most_levels
  level_has_row x = omega (arith, (is_order o ok.0).few, level_below present o bs ok.1 x)

  pub read_has_row : (x : ℕ) → read_level bs x < most_levels
  read_has_row x = omega (arith, (is_order o ok.0).few, read_below present o bs ok.1 x)

  pub level_by_row : (x y : ℕ) → at_or_below o (level bs x) (level bs y) ≡ related o (level bs x) (level bs y)
  level_by_row x y = by_row o _ _ (level_below present o bs ok.1 x) (level_below present o bs ok.1 y)

  pub read_by_row : (x y : ℕ) → at_or_below o (read_level bs x) (level bs y) ≡ related o (read_level bs x) (level bs y)
  read_by_row x y = by_row o _ _ (read_below present o bs ok.1 x) (level_below present o bs ok.1 y)

  -- what a row tells of a level in it
  pub row_tells : {row : ℕ} {b : Bool} (x y : ℕ) → row ≡ row_of o (level bs x) → b ≡ bit row (level bs y) → b ≡ at_or_below o (level bs x) (level bs y)
  row_tells x y r e = e ∙ rw r (sym (level_by_row x y))
