use Rattle.std.proofs.Common.{true}
use Rattle.model.specs.State.{task, object, marked}
use Rattle.decisions.specs.FactLaws.{levelled, level_by_row, row_tells}
use Rattle.events.specs.Judged.{driven, write_ruled}
use Rattle.events.specs.EventLaws.{write_verdict}
use Rattle.events.proofs.JudgedLaws.{apart_is}
use Rattle.events.proofs.judge.write.Goals as goal

pub returns : goal.returns
unfolding task object marked write_ruled
returns g c =
    let ok = levelled _ _ _ c.args.view.now.ready in
    apart_is _ _ (driven _ true _ _) (rw (write_verdict, c.requires))
    (simp (c.write-judged.ensures, c.is_marked.ensures, c.reaches.ensures, c.level_row-row.ensures, level_by_row _ _ ok))
    (row_tells _ _ ok _ _ c.level_row-row.ensures c.reaches-fits.ensures)
    c.apart-rule.ensures c.driven.ensures
