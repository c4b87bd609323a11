use Rattle.std.proofs.Common.{refl}
use Rattle.model.specs.State.{marked}
use Rattle.decisions.specs.FactLaws.{levelled, level_by_row, read_by_row}
use Rattle.events.specs.Judged.{read_ruled}
use Rattle.events.proofs.judge.read_decided.Goals as goal

pub returns : goal.returns
unfolding marked read_ruled
returns g c =
    let ok = levelled _ _ _ c.args.view.now.ready in
    simp (
      c.read.ensures,
      c.is_marked-2.ensures,
      c.is_marked.ensures,
      c.reaches-4.ensures,
      c.reaches-3.ensures,
      c.reaches-2.ensures,
      c.reaches.ensures,
      c.level_row-level.ensures,
      c.read_row-read.ensures,
      level_by_row _ _ ok,
      read_by_row _ _ ok,
    ) refl
