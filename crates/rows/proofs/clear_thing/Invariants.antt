use Rattle.std.proofs.Common.{◌≡◌, ◌+◌, ◌*◌}
use Rattle.bits.specs.All.{up_to}
use Rattle.rows.specs.Size.{row_size, numbers}
use Rattle.rows.specs.Rows.{clear_row}
use Rattle.rows.proofs.clear_thing.Given as goal

abbrev pub invariant-loop-i : goal.invariant-loop-i
invariant-loop-i l = l.words ≡ up_to (λ j v. clear_row row_size (numbers * j + l.k) v) l.i l.fn.words
