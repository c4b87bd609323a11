use Rattle.std.proofs.Common.{◌≡◌}
use Rattle.rows.specs.Rows.{clear_column}
use Rattle.rows.specs.Size.{row_size}
use Rattle.rows.proofs.clear_column.Given as goal

abbrev pub invariant-loop-row : goal.invariant-loop-row
invariant-loop-row l = l.words ≡ clear_column row_size l.row l.col l.fn.words
