use Rattle.std.proofs.Common.{◌∙◌, sym}
use Rattle.model.specs.State.{task, object}
use Rattle.decisions.specs.DecisionLaws.{passed, failed, done, refused, unnamed}
use Rattle.events.specs.Judged.{driven}
use Rattle.events.specs.EventLaws.{write_verdict, write_told, write_fits}
use Rattle.events.proofs.write.Goals as goal

pub returns-then-not-are_named : goal.returns-then-not-are_named
unfolding task object driven
returns-then-not-are_named g c = unnamed _ _ _ _ (write_verdict _ _ _ _ _) (sym c.are_named.ensures ∙ c.if-not-are_named.true)

pub write-requires : goal.write-requires
write-requires g c = write_fits _ _ c.requires.0 _ _ _ c.write-judged.ensures (passed c.is_done.ensures c.if-is_done.true)

pub returns-then-is_done : goal.returns-then-is_done
returns-then-is_done g c = done (write_told _ _ _ _ _) c.write-judged.ensures (passed c.is_done.ensures c.if-is_done.true) (c.write.ensures _)

pub returns-else-is_done : goal.returns-else-is_done
returns-else-is_done g c = refused (write_told _ _ _ _ _) c.write-judged.ensures (failed c.is_done.ensures c.if-is_done.false)
