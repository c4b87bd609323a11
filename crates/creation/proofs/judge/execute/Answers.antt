use Rattle.std.proofs.Common.{◌≡◌, refl, Bool, false, ◌&&◌, ℕ, ltb}
use Rattle.rows.specs.Size.{numbers}
use Rattle.levels.specs.declared.Order.{Order}
use Rattle.levels.specs.Order.{in_order, at_or_below}
use Rattle.model.specs.Verdicts.{granted, row_scale, row_rule}
use Rattle.model.specs.State.{Memory, task, object, level_of, marked}
use Rattle.model.specs.Events.{unless}
use Rattle.creation.specs.Judged.{given, execute_judged}
use Rattle.creation.specs.CreationLaws.{execute_verdict}
use Rattle.creation.proofs.judge.execute.Goals as goal

-- the decision, from its parts: the numbers, the rows below, and the flow
execute_is : (o : Order) (m : Memory) (c i n l r : ℕ) {v row : ℕ} {named flow : Bool}
    → v ≡ given m.bytes named n row
    → named ≡ (task m c && object m i && ltb n numbers)
    → row ≡ unless (in_order o l && in_order o r) row_scale (unless (at_or_below o l (level_of m i) && at_or_below o r l) row_rule granted)
    → flow ≡ marked m i
    → record { verdict = v; first = flow; second = false } ≡ execute_judged o m c i n l r
execute_is o m c i n l r v named row flow = rw (v, named, row, flow, execute_verdict o m c i n l r)

pub returns : goal.returns
unfolding task object marked
returns c =
    execute_is _ _ _ _ _ _ _ c.given.ensures
    (simp (c.is_object.ensures, c.is_task.ensures) refl)
    (simp (c.unless-row.ensures, c.unless.ensures, c.at_or_below.ensures, c.level_below.ensures) refl)
    c.is_marked.ensures
