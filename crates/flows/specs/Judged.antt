-- The facts that each event of flows goes by, its decision with the verdict of all its rows, and what it leaves by a decision.
-- Assumes nothing.
use Rattle.std.specs.Prelude.{Bool, true, false, List, [], ◌∷◌, ℕ}
use Rattle.levels.specs.declared.Order.{Order}
use Rattle.levels.specs.Order.{at_or_below}
use Rattle.model.specs.State.{Memory, level_of, read_level_of, driver_of, marked}
use Rattle.model.specs.Effects.{Effect, flow_if}
use Rattle.model.specs.Events.{verdict_of, call_task, invoke, pass, post, find}
use Rattle.decisions.specs.Decisions.{Decision}
use Rattle.table.specs.declared.Operation.{Operation}
use Rattle.table.specs.Table.{decided}
use Rattle.decisions.specs.Decisions.{settled, judged, call_decision, invoke_decision, relay_decision}

-- ---- the flows of each event, in document 01's order: whether the first is recorded, and the second

abbrev pub call_does : ℕ → ℕ → Bool → Bool → List Effect
call_does a b first second = flow_if first b a ∷ flow_if second a b ∷ []

abbrev pub invoke_does : ℕ → ℕ → Bool → Bool → List Effect
invoke_does a b first second = flow_if first a b ∷ flow_if second b a ∷ []

-- one flow alone: of a pass, a post and a find
abbrev pub relay_does : ℕ → ℕ → Bool → Bool → List Effect
relay_does x y first second = flow_if first x y ∷ []

module _ (o : Order) (m : Memory) where
  infix 40 ◌⊑◌
  abbrev ◌⊑◌ : ℕ → ℕ → Bool
  a ⊑ b = at_or_below o a b

  abbrev L : ℕ → ℕ
  L x = level_of m x

  abbrev R : ℕ → ℕ
  R x = read_level_of m x

  unfoldable pub call_ruled : ℕ → ℕ → Decision
  call_ruled a b = call_decision (L a ⊑ L b) (R a ⊑ L b) (marked m a) (marked m b)

  abbrev pub call_judged : ℕ → ℕ → Decision
  call_judged a b = judged (call_task o m a b) (settled (call_ruled a b))

  unfoldable pub invoke_ruled : ℕ → ℕ → Decision
  invoke_ruled a b = invoke_decision (L b ⊑ L a) (marked m a)

  abbrev pub invoke_judged : ℕ → ℕ → Decision
  invoke_judged a b = judged (invoke o m a b) (settled (invoke_ruled a b))

  -- whether what the task z read of the object x goes on, by a pass or a post
  unfoldable pub relay_ruled : ℕ → ℕ → Decision
  relay_ruled z x = relay_decision (L z ⊑ L x) (R z ⊑ L x) (L z ⊑ L (driver_of m x)) (R z ⊑ L (driver_of m x)) (marked m z)

  -- the same, as either engine decides it for a pass or for a post: both have the rule, and no sixth fact
  unfoldable pub relay_decided : Operation → ℕ → ℕ → Decision
  relay_decided op z x = decided op (L z ⊑ L x) (R z ⊑ L x) (L z ⊑ L (driver_of m x)) (R z ⊑ L (driver_of m x)) (marked m z) false

  abbrev pub pass_judged : ℕ → ℕ → ℕ → Decision
  pass_judged z x y = judged (pass o m z x y) (settled (relay_ruled z x))

  abbrev pub post_judged : ℕ → ℕ → ℕ → Decision
  post_judged x z y = judged (post o m x z y) (settled (relay_ruled y z))

  abbrev pub find_judged : ℕ → ℕ → ℕ → Decision
  find_judged x z y = record { verdict = verdict_of (find o m x z y); first = true; second = false }
