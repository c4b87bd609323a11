-- The spread: rounds of marking along the recorded flows, until one marks nothing.
-- Assumes nothing.
use Rattle.std.specs.Prelude.{Bool, cond, not, ◌&&◌, ℕ, zero, suc, ◌+◌}
use Rattle.bits.specs.All.{any_b}
use Rattle.rows.specs.Size.{Size, numbers_of}
use Rattle.model.specs.Verdicts.{granted}
use Rattle.model.specs.State.{MemoryOf, in_use, object, driver_of, marked, has_flow}
use Rattle.model.specs.Effects.{mark_where}
use Rattle.model.specs.Events.{OutcomeOf}

module _ {size : Size} where
  -- an unmarked thing in use with a flow from a thing marked before the round
  unfoldable pub reached : MemoryOf size → ℕ → Bool
  reached m x = not (marked m x) && in_use m x && any_b (numbers_of size) (λ y. marked m y && has_flow m y x)

  -- an object whose driver is marked
  unfoldable pub driven : MemoryOf size → ℕ → Bool
  driven m x = object m x && marked m (driver_of m x)

  -- a round marks each thing so reached, then each object whose driver is now marked
  unfoldable pub round : MemoryOf size → MemoryOf size
  round m = let n = mark_where (reached m) m in mark_where (driven n) n

  -- a round on this memory marks something
  unfoldable pub marks_some : MemoryOf size → Bool
  marks_some m = any_b (numbers_of size) (λ x. marked (round m) x && not (marked m x))

  -- at most k rounds that mark something, and how many they were
  unfoldable pub rounds : ℕ → MemoryOf size → ℕ
  rounds zero m = 0
  rounds (suc k) m = cond (marks_some m) (1 + rounds k (round m)) 0

  unfoldable pub after_rounds : ℕ → MemoryOf size → MemoryOf size
  after_rounds zero m = m
  after_rounds (suc k) m = cond (marks_some m) (after_rounds k (round m)) m

  -- as many rounds as there are numbers are enough: the law `spread_rests` says that one more marks nothing
  unfoldable pub spread : MemoryOf size → OutcomeOf size
  spread m = record { verdict = granted; rounds = rounds (numbers_of size) m; memory = after_rounds (numbers_of size) m }
