-- What a read that is not risky tells: it passed by the level, at the object and at the driver.
-- Assumes nothing.
use Rattle.std.specs.Prelude.{◌≡◌, refl, Bool, true, false, not, ◌&&◌, ◌||◌, ℕ}
use Rattle.std.proofs.Common.{◌∙◌, true≢false}
use Rattle.bits.specs.AllLaws.{or_false}
use Rattle.rows.specs.Size.{Size}
use Rattle.levels.specs.declared.Order.{Order}
use Rattle.levels.specs.Order.{at_or_below}
use Rattle.model.specs.State.{MemoryOf, level_of, read_level_of, driver_of}
use Rattle.model.specs.Events.{risky}

by_first : (a b r : Bool) → ((not a && b) || r) ≡ false → (a || b) ≡ true → a ≡ true
by_first true b r h e = refl
by_first false true r h e = absurd (true≢false h)
by_first false false r h e = e

by_second : (a b r : Bool) → (r || (not a && b)) ≡ false → (a || b) ≡ true → a ≡ true
by_second a b true h e = absurd (true≢false h)
by_second a b false h e = by_first a b false (or_false (not a && b) ∙ h) e

module _ {size : Size} (o : Order) (m : MemoryOf size) (z x : ℕ) (safe : risky o m z x ≡ false) where
  pub past_object : (at_or_below o (level_of m z) (level_of m x) || at_or_below o (read_level_of m z) (level_of m x)) ≡ true → at_or_below o (level_of m z) (level_of m x) ≡ true
  unfolding risky
  past_object = by_first (at_or_below o (level_of m z) (level_of m x)) (at_or_below o (read_level_of m z) (level_of m x)) _ safe

  pub past_driver : (at_or_below o (level_of m z) (level_of m (driver_of m x)) || at_or_below o (read_level_of m z) (level_of m (driver_of m x))) ≡ true
      → at_or_below o (level_of m z) (level_of m (driver_of m x)) ≡ true
  unfolding risky
  past_driver = by_second (at_or_below o (level_of m z) (level_of m (driver_of m x))) (at_or_below o (read_level_of m z) (level_of m (driver_of m x)))
      (not (at_or_below o (level_of m z) (level_of m x)) && at_or_below o (read_level_of m z) (level_of m x)) safe
