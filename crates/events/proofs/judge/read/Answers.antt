use Rattle.std.proofs.Common.{refl, true}
use Rattle.model.specs.State.{task, object}
use Rattle.events.specs.Judged.{driven}
use Rattle.events.specs.EventLaws.{read_verdict}
use Rattle.events.proofs.JudgedLaws.{apart_is}
use Rattle.events.proofs.judge.read.Goals as goal

pub returns : goal.returns
unfolding task object
returns g c =
    apart_is _ _ (driven _ true _ _) (rw (read_verdict, c.requires) refl) c.read_decided-judged.ensures c.is_below.ensures c.apart-rule.ensures c.driven.ensures
