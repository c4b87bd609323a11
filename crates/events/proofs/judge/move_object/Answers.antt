use Rattle.model.specs.State.{marked}
use Rattle.decisions.specs.FactLaws.{levelled, level_by_row, row_tells}
use Rattle.events.specs.Judged.{move_ruled, move_rows}
use Rattle.events.specs.EventLaws.{move_verdict}
use Rattle.events.proofs.JudgedLaws.{apart_is}
use Rattle.events.proofs.judge.move_object.Goals as goal

pub returns : goal.returns
unfolding marked move_ruled
returns g c =
    let ready = c.args.view.now.ready in
    let ok = levelled _ _ _ ready in
    apart_is _ _ (move_rows _ _ _ _ _ _ _) (move_verdict _ _ ready _ _ _ _ _)
    (simp (c.move_object-judged.ensures, c.is_marked.ensures, c.reaches-2.ensures, c.reaches.ensures, c.level_row-row.ensures, level_by_row _ _ ok))
    (row_tells _ _ ok _ _ c.level_row-row.ensures c.reaches-fits.ensures)
    c.apart-rule.ensures c.move_rows.ensures
