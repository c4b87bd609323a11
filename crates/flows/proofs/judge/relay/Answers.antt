use Rattle.std.proofs.Common.{refl}
use Rattle.model.specs.State.{marked}
use Rattle.decisions.specs.FactLaws.{levelled, level_by_row, read_by_row}
use Rattle.flows.specs.Judged.{relay_decided}
use Rattle.flows.proofs.judge.relay.Goals as goal

-- the facts are those of the rule
pub returns : goal.returns
unfolding marked relay_decided
returns g c =
    let ok = levelled _ _ _ c.args.view.now.ready in
    simp (
      c.decide.ensures,
      c.is_marked.ensures,
      c.reaches-4.ensures,
      c.reaches-3.ensures,
      c.reaches-2.ensures,
      c.reaches.ensures,
      c.level_row-level.ensures,
      c.read_row-read.ensures,
      c.driver_of-driver.ensures,
      level_by_row _ _ ok,
      read_by_row _ _ ok,
    ) refl
