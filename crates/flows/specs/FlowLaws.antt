-- The tables of the events of flows: each verdict is its decision's under the rows above it, and each list of effects is the code's.
-- Assumes nothing.
use Rattle.std.specs.Prelude.{◌≡◌, Bool, true, false, not, ◌&&◌, ℕ, ltb, eqb}
use Rattle.std.proofs.Math.Path.{refl}
use Rattle.std.proofs.Common.{ap, lt-ltb}
use Rattle.bits.specs.AllLaws.{and_l, and_r}
use Rattle.rows.specs.Size.{numbers}
use Rattle.levels.specs.declared.Order.{Order}
use Rattle.records.specs.Records.{BytesLent}
use Rattle.model.specs.Verdicts.{granted, row_number, row_place, row_held}
use Rattle.model.specs.State.{Memory, in_use, task, object, has_flow, has_read}
use Rattle.model.specs.Effects.{effect, effects}
use Rattle.model.specs.Events.{unless, first_failing, verdict_of, call_task, invoke, pass, post, find, risky}
use Rattle.decisions.specs.Decisions.{call_decision, invoke_decision, relay_decision}
use Rattle.decisions.specs.DecisionLaws.{Told, told_by, under, task_small}
use Rattle.flows.specs.Judged.{call_ruled, invoke_ruled, relay_ruled, call_judged, invoke_judged, pass_judged, post_judged, find_judged, call_does, invoke_does, relay_does}

-- the rows that a pass and a post have above the rule, where the numbers are right
pub relay_rows : {named : Bool} → named ≡ true → (others held : Bool) {v w : ℕ} → v ≡ w
    → unless others row_place (unless held row_held v) ≡ unless named row_number (unless others row_place (unless held row_held w))
unfolding unless
relay_rows n others held e = rw (n, e) refl

module _ (o : Order) (m : Memory) where
  pub call_verdict : (a b : ℕ) → verdict_of (call_task o m a b) ≡ unless (task m a && task m b) row_number (call_ruled o m a b).verdict
  unfolding verdict_of first_failing unless call_task call_decision call_ruled
  call_verdict a b = refl

  pub invoke_verdict : (a b : ℕ) → verdict_of (invoke o m a b) ≡ unless (task m a && task m b) row_number (invoke_ruled o m a b).verdict
  unfolding verdict_of first_failing unless invoke invoke_decision invoke_ruled
  invoke_verdict a b = refl

  -- from the test of the numbers and the rows below it
  pub find_is : (x z y : ℕ) {named : Bool} {v row : ℕ} → v ≡ unless named row_number row → named ≡ (task m x && task m z && in_use m y)
      → row ≡ unless (not (eqb x y)) row_place (unless (has_flow m x z && has_flow m z y) row_held granted)
      → record { verdict = v; first = true; second = false } ≡ find_judged o m x z y
  unfolding verdict_of first_failing unless find
  find_is x z y v named row = rw (v, named, row)

  -- an access is looked for in its table, past which there is none
  module _ (l : BytesLent m.bytes) where
    pub pass_verdict : (z x y : ℕ) → verdict_of (pass o m z x y)
        ≡ unless (task m z && object m x && in_use m y) row_number
        (unless (not (eqb y x)) row_place
        (unless (has_flow m z y && (ltb z numbers && has_read m z x)) row_held (relay_ruled o m z x).verdict))
    unfolding verdict_of first_failing unless pass risky relay_decision relay_ruled
    pass_verdict z x y =
        under (task m z && object m x && in_use m y) _ _ _
        (λ e. rw (lt-ltb z numbers (task_small m z l (and_l _ _ (and_l (task m z && object m x) (in_use m y) e)))))

    pub post_verdict : (x z y : ℕ) → verdict_of (post o m x z y)
        ≡ unless (task m x && object m z && task m y) row_number
        (unless (not (eqb x y)) row_place
        (unless (has_flow m x z && (ltb y numbers && has_read m y z)) row_held (relay_ruled o m y z).verdict))
    unfolding verdict_of first_failing unless post risky relay_decision relay_ruled
    post_verdict x z y =
        under (task m x && object m z && task m y) _ _ _
        (λ e. rw (lt-ltb y numbers (task_small m y l (and_r (task m x && object m z) (task m y) e))))

  -- ---- effects
  pub call_told : (a b : ℕ) → Told m (call_task o m a b) (call_judged o m a b) (λ d. call_does a b d.first d.second)
  unfolding call_task call_decision call_ruled unless effects effect
  call_told a b = told_by (call_ruled o m a b) refl (call_does a b) (λ t. rw t.1.0) refl

  pub invoke_told : (a b : ℕ) → Told m (invoke o m a b) (invoke_judged o m a b) (λ d. invoke_does a b d.first d.second)
  unfolding invoke invoke_decision invoke_ruled unless effects effect
  invoke_told a b = told_by (invoke_ruled o m a b) refl (invoke_does a b) (λ t. rw t.1.0) refl

  pub pass_told : (z x y : ℕ) → Told m (pass o m z x y) (pass_judged o m z x y) (λ d. relay_does x y d.first d.second)
  unfolding pass risky relay_decision relay_ruled unless effects effect
  pass_told z x y = told_by (relay_ruled o m z x) refl (relay_does x y) (λ t. rw t.1.1.1.0) refl

  pub post_told : (x z y : ℕ) → Told m (post o m x z y) (post_judged o m x z y) (λ d. relay_does x y d.first d.second)
  unfolding post risky relay_decision relay_ruled unless effects effect
  post_told x z y = told_by (relay_ruled o m y z) refl (relay_does x y) (λ t. rw t.1.1.1.0) refl

  pub find_told : (x z y : ℕ) → Told m (find o m x z y) (find_judged o m x z y) (λ d. relay_does x y d.first d.second)
  unfolding find effects effect
  find_told x z y = record { verdict = refl; leaves = λ h. refl }
