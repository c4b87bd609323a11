use Rattle.decisions.specs.DecisionLaws.{passed, failed, done, refused}
use Rattle.events.specs.EventLaws.{delete_told, delete_fits}
use Rattle.events.proofs.delete.Goals as goal

pub delete-requires : goal.delete-requires
delete-requires g c =
    let fits = delete_fits _ _ c.requires.0 _ _ _ _ c.delete-judged.ensures (passed c.is_done.ensures c.if-is_done.true) in
    (fits.0, fits.1)

pub returns-then-is_done : goal.returns-then-is_done
returns-then-is_done g c = done (delete_told _ _ _ _ _ _) c.delete-judged.ensures (passed c.is_done.ensures c.if-is_done.true) c.delete.ensures

pub returns-else-is_done : goal.returns-else-is_done
returns-else-is_done g c = refused (delete_told _ _ _ _ _ _) c.delete-judged.ensures (failed c.is_done.ensures c.if-is_done.false)
