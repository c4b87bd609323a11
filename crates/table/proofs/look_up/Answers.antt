use Rattle.std.proofs.Common.{◌∙◌}
use Rattle.table.specs.TableLaws.{looked_up}
use Rattle.table.proofs.look_up.Goals as goal

pub returns : goal.returns
returns c = c.meaning.ensures ∙ looked_up _ c.whole_table-table.ensures _ c.place.ensures _ _ _ _ _ _ c.setting-s.ensures
