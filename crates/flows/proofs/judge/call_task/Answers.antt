use Rattle.std.proofs.Common.{refl}
use Rattle.model.specs.Events.{unless}
use Rattle.model.specs.State.{task, marked}
use Rattle.decisions.specs.FactLaws.{levelled, level_by_row, read_by_row}
use Rattle.decisions.specs.DecisionLaws.{judged_is}
use Rattle.flows.specs.Judged.{call_ruled}
use Rattle.flows.specs.FlowLaws.{call_verdict}
use Rattle.flows.proofs.judge.call_task.Goals as goal

pub returns : goal.returns
unfolding task marked call_ruled unless
returns g c =
    let ok = levelled _ _ _ c.args.view.now.ready in
    judged_is _ _
    (simp (
      c.call_task.ensures,
      c.is_marked-2.ensures,
      c.is_marked.ensures,
      c.reaches-2.ensures,
      c.reaches.ensures,
      c.level_row.ensures,
      c.read_row.ensures,
      level_by_row _ _ ok,
      read_by_row _ _ ok,
    ) refl)
    (λ v. rw (call_verdict, c.requires) v)
