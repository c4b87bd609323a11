use Rattle.std.proofs.Common.{refl}
use Rattle.model.specs.State.{marked}
use Rattle.creation.specs.CreationLaws.{create_is}
use Rattle.creation.proofs.judge.create.Goals as goal

pub returns : goal.returns
unfolding marked
returns c =
    create_is _ _ c.args.view.now.ready.0 _ _ _ _ _
    (simp (c.create_rows.ensures, c.scaled.ensures, c.level_below-3.ensures, c.level_below-2.ensures, c.level_below.ensures) refl)
    c.is_marked-flows.ensures
