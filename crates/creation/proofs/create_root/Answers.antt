use Rattle.std.proofs.Common.{refl}
use Rattle.records.specs.Records.{root}
use Rattle.decisions.specs.DecisionLaws.{passed, failed, done, refused}
use Rattle.creation.specs.CreationLaws.{root_told, root_fits}
use Rattle.creation.proofs.create_root.Goals as goal

pub create-requires : goal.create-requires
create-requires c = root_fits _ _ c.requires.0 c.requires.2 _ _ _ _ c.create_root-judged.ensures (passed c.is_done.ensures c.if-is_done.true)

pub returns-then-is_done : goal.returns-then-is_done
returns-then-is_done c = done (root_told _ _ _ _ _ _) c.create_root-judged.ensures (passed c.is_done.ensures c.if-is_done.true) (c.create.ensures root refl)

pub returns-else-is_done : goal.returns-else-is_done
returns-else-is_done c = refused (root_told _ _ _ _ _ _) c.create_root-judged.ensures (failed c.is_done.ensures c.if-is_done.false)
