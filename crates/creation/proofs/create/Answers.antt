use Rattle.std.proofs.Common.{refl}
use Rattle.records.specs.Records.{within}
use Rattle.decisions.specs.DecisionLaws.{passed, failed, done, refused}
use Rattle.creation.specs.CreationLaws.{create_told, create_fits}
use Rattle.creation.proofs.create.Goals as goal

pub create-requires : goal.create-requires
create-requires c = create_fits _ _ c.requires.0 c.requires.2 _ _ _ _ _ c.create-judged.ensures (passed c.is_done.ensures c.if-is_done.true)

pub returns-then-is_done : goal.returns-then-is_done
returns-then-is_done c = done (create_told _ _ _ _ _ _ _) c.create-judged.ensures (passed c.is_done.ensures c.if-is_done.true) (c.create.ensures (within _) refl)

pub returns-else-is_done : goal.returns-else-is_done
returns-else-is_done c = refused (create_told _ _ _ _ _ _ _) c.create-judged.ensures (failed c.is_done.ensures c.if-is_done.false)
