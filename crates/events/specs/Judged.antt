-- The tests and rows of the events on objects, the facts that each goes by, its decision with the verdict of all its rows, and what it leaves by a decision.
-- Assumes nothing.
use Rattle.std.specs.Prelude.{Bool, not, ◌&&◌, ◌||◌, List, [], ◌∷◌, ℕ, eqb}
use Rattle.bits.specs.All.{any_b}
use Rattle.rows.specs.Size.{numbers}
use Rattle.records.specs.Records.{driver, container, is_task, is_object}
use Rattle.levels.specs.declared.Order.{Order}
use Rattle.levels.specs.Order.{at_or_below}
use Rattle.model.specs.Verdicts.{granted, row_number, row_driver, row_place, row_held, row_filled, row_feeding}
use Rattle.model.specs.State.{Memory, memory, level_of, read_level_of, marked}
use Rattle.model.specs.Effects.{Effect, flow_if, read_access, write_access, move_to, bridge, clear}
use Rattle.model.specs.Events.{unless, feeds_unmarked, read, write, move, delete}
use Rattle.places.specs.Places.{bytes_inside}
use Rattle.decisions.specs.Decisions.{Decision}
use Rattle.decisions.specs.Facts.{writes, both_write}
use Rattle.decisions.specs.Decisions.{settled, judged, read_decision, write_decision, move_decision, delete_decision}

-- ---- tests that the code makes in a function of their own

unfoldable pub all_write : List ℕ → ℕ → ℕ → ℕ → ℕ → Bool
all_write ws e d f t = writes ws e f && writes ws e t && writes ws d f && writes ws d t

unfoldable pub may_move : List ℕ → ℕ → ℕ → ℕ → Bool
may_move bs x f t = not (eqb x f) && not (eqb x t) && not (eqb f t) && eqb (container bs x) f

-- two tasks, an object and two containers
unfoldable pub move_named : List ℕ → ℕ → ℕ → ℕ → ℕ → ℕ → Bool
move_named bs e d x f t = is_task bs e && is_task bs d && is_object bs x && is_object bs f && is_object bs t

unfoldable pub is_empty : List ℕ → ℕ → Bool
is_empty bs x = not (any_b numbers (λ y. is_object bs y && eqb (container bs y) x))

-- ---- rows that several tables share, above the rest of the table

-- the numbers, and the driver of x
unfoldable pub driven : List ℕ → Bool → ℕ → ℕ → ℕ → ℕ
driven bs named d x rest = unless named row_number (unless (eqb (driver bs x) d) row_driver rest)

-- the two rows below the rule, where no row above them applies: a container that has to be empty, and a marked object that feeds an unmarked thing
unfoldable pub last_rows : Bool → Bool → ℕ → ℕ
last_rows empty feeds v = unless (not (eqb v granted) || empty) row_filled (unless (not (eqb v granted && feeds)) row_feeding v)

-- ---- the rows of move and delete but for the level tests

unfoldable pub move_rows : List ℕ → List ℕ → ℕ → ℕ → ℕ → ℕ → ℕ → ℕ → ℕ
move_rows bs ws e d x f t rest =
    driven bs (move_named bs e d x f t) d x
    (unless (may_move bs x f t && not (bytes_inside bs t x)) row_place (unless (all_write ws e d f t) row_held rest))

unfoldable pub delete_rows : List ℕ → List ℕ → ℕ → ℕ → ℕ → ℕ → ℕ → ℕ
delete_rows bs ws e d x k rest =
    last_rows (is_empty bs x) (feeds_unmarked (memory bs ws) x)
    (driven bs (is_task bs e && is_task bs d && is_object bs x && is_object bs k) d x
    (unless (eqb (container bs x) k) row_place (unless (both_write ws e d k) row_held rest)))

-- ---- what each event does where it is done, and its flows in document 01's order: whether the first is recorded, and the second

abbrev pub read_does : ℕ → ℕ → ℕ → Bool → Bool → List Effect
read_does e d x first second = read_access e x ∷ flow_if first x e ∷ flow_if second d e ∷ []

abbrev pub write_does : ℕ → ℕ → ℕ → Bool → Bool → List Effect
write_does e d x first second = write_access e x ∷ flow_if first e x ∷ flow_if second e d ∷ []

abbrev pub move_does : ℕ → ℕ → ℕ → ℕ → Bool → Bool → List Effect
move_does e d x t first second = move_to x t ∷ flow_if first e x ∷ flow_if second e d ∷ []

-- one flow alone
abbrev pub delete_does : ℕ → ℕ → ℕ → Bool → Bool → List Effect
delete_does e d x first second = bridge x ∷ clear x ∷ flow_if first e d ∷ []

module _ (o : Order) (m : Memory) where
  infix 40 ◌⊑◌
  abbrev ◌⊑◌ : ℕ → ℕ → Bool
  a ⊑ b = at_or_below o a b

  abbrev L : ℕ → ℕ
  L x = level_of m x

  abbrev R : ℕ → ℕ
  R x = read_level_of m x

  unfoldable pub read_ruled : ℕ → ℕ → ℕ → Decision
  read_ruled e d x = read_decision (L e ⊑ L d) (R e ⊑ L d) (L e ⊑ L x) (R e ⊑ L x) (marked m d) (marked m e)

  abbrev pub read_judged : ℕ → ℕ → ℕ → Decision
  read_judged e d x = judged (read o m e d x) (settled (read_ruled e d x))

  unfoldable pub write_ruled : ℕ → ℕ → ℕ → Decision
  write_ruled e d x = write_decision (L x ⊑ L e) (marked m d)

  abbrev pub write_judged : ℕ → ℕ → ℕ → Decision
  write_judged e d x = judged (write o m e d x) (settled (write_ruled e d x))

  unfoldable pub move_ruled : ℕ → ℕ → ℕ → ℕ → Decision
  move_ruled e d x t = move_decision (L x ⊑ L e) (L x ⊑ L t) (marked m d)

  abbrev pub move_judged : ℕ → ℕ → ℕ → ℕ → ℕ → Decision
  move_judged e d x f t = judged (move o m e d x f t) (settled (move_ruled e d x t))

  unfoldable pub delete_ruled : ℕ → ℕ → ℕ → Decision
  delete_ruled e d x = delete_decision (L x ⊑ L e) (marked m d)

  abbrev pub delete_judged : ℕ → ℕ → ℕ → ℕ → Decision
  delete_judged e d x k = judged (delete o m e d x k) (settled (delete_ruled e d x))
