use Rattle.std.proofs.Common.{◌∙◌, sym}
use Rattle.model.specs.State.{task, object}
use Rattle.decisions.specs.DecisionLaws.{passed, failed, done, refused, unnamed}
use Rattle.events.specs.Judged.{driven}
use Rattle.events.specs.EventLaws.{read_verdict, read_told, read_fits}
use Rattle.events.proofs.read.Goals as goal

pub returns-then-not-are_named : goal.returns-then-not-are_named
unfolding task object driven
returns-then-not-are_named g c = unnamed _ _ _ _ (read_verdict _ _ _ _ _) (sym c.are_named.ensures ∙ c.if-not-are_named.true)

pub read-requires : goal.read-requires
read-requires g c = read_fits _ _ c.requires.0 _ _ _ c.read-judged.ensures (passed c.is_done.ensures c.if-is_done.true)

pub returns-then-is_done : goal.returns-then-is_done
returns-then-is_done g c = done (read_told _ _ _ _ _) c.read-judged.ensures (passed c.is_done.ensures c.if-is_done.true) (c.read.ensures _)

pub returns-else-is_done : goal.returns-else-is_done
returns-else-is_done g c = refused (read_told _ _ _ _ _) c.read-judged.ensures (failed c.is_done.ensures c.if-is_done.false)
