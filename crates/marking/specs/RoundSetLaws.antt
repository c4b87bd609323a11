-- A round by operations on sets, one after the other.
-- Assumes nothing.
use Rattle.std.specs.Prelude.{◌≡◌, Bool, ◌&&◌, ◌||◌, List, ℕ, ◌+◌, ◌*◌, ◌<◌, get_or}
use Rattle.std.proofs.Math.Path.{ap, ap₂}
use Rattle.std.proofs.Common.{◌∙◌}
use Rattle.rows.specs.Size.{row_size, numbers}
use Rattle.rows.specs.Rows.{cell}
use Rattle.sets.specs.declared.Set.{Set}
use Rattle.sets.specs.Sets.{has, set_of, joined}
use Rattle.sets.specs.SetLaws.{pair, in_set, set_ext, has_row}
use Rattle.sets.specs.WalkLaws.{joined_ext}
use Rattle.marking.specs.Rounds.{by_flow, by_driver, round_set}

module _ (flows owned : List ℕ) (unmarked sources : Set) {fed reached either driving theirs driven : Set}
    (a : fed ≡ set_of (λ x. joined row_size flows (has sources) x))
    (b : reached ≡ set_of (λ x. has fed x && has unmarked x))
    (c : either ≡ set_of (λ x. has sources x || has reached x))
    (d : driving ≡ set_of (λ x. has either x && has (pair (get_or owned (row_size * numbers) 0) (get_or owned (row_size * numbers + 1) 0)) x))
    (e : theirs ≡ set_of (λ x. joined row_size owned (has driving) x))
    (f : driven ≡ set_of (λ x. has theirs x && has unmarked x)) where
  flow_in : (x : ℕ) → x < numbers → has reached x ≡ by_flow row_size flows owned (has unmarked) (has sources) x
  unfolding by_flow
  flow_in x l = in_set _ b x l ∙ ap (λ (q : Bool). q && has unmarked x) (in_set _ a x l)

  driving_in : (y : ℕ) → y < numbers → has driving y ≡ ((has sources y || by_flow row_size flows owned (has unmarked) (has sources) y) && cell row_size owned numbers y)
  driving_in y l =
      in_set _ d y l ∙ ap₂ (λ (p q : Bool). p && q) (in_set _ c y l ∙ ap (λ (q : Bool). has sources y || q) (flow_in y l)) (has_row owned numbers y l)

  driver_in : (x : ℕ) → x < numbers → has driven x ≡ by_driver row_size flows owned (has unmarked) (has sources) x
  unfolding by_driver
  driver_in x l = in_set _ f x l ∙ ap (λ (q : Bool). q && has unmarked x) (in_set _ e x l ∙ joined_ext row_size owned _ _ x driving_in)

  pub round_set_law : {r : Set} → r ≡ set_of (λ x. has reached x || has driven x) → r ≡ round_set flows owned unmarked sources
  unfolding round_set
  round_set_law g = g ∙ set_ext _ _ (λ x l. ap₂ (λ (p q : Bool). p || q) (flow_in x l) (driver_in x l))
