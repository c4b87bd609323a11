use Rattle.std.proofs.Common.{sym, ◌∙◌}
use borrow.Author.Tests.{not-true, not-false}
use Rattle.model.specs.State.{marked}
use Rattle.marking.specs.OwnedLaws.{sound_driven}
use Rattle.marking.specs.SpreadingLaws.{spread_none, spread_is}
use Rattle.marking.proofs.spread.Goals as goal

pub returns-then-is_empty : goal.returns-then-is_empty
unfolding marked
returns-then-is_empty c = spread_none _ c.requires.0 c.with_field-sources.ensures (not-true _ (sym c.is_empty.ensures ∙ c.if-is_empty.true))

pub spread_sets-rounds-requires : goal.spread_sets-rounds-requires
unfolding marked
spread_sets-rounds-requires c =
    (sound_driven c.args.order.now c.args.bytes.now c.requires.3, c.with_field-sources.ensures, not-false _ (sym c.is_empty.ensures ∙ c.if-is_empty.false))

pub returns : goal.returns
returns c = spread_is _ c.requires.0 c.spread_sets-rounds.ensures (c.mark_set.ensures _)
