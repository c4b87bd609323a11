use Rattle.std.proofs.Common.{refl, sym, ◌∙◌, ◌*◌, replicate, arith, rules}
use Rattle.std.proofs.lemmas.Slice.{put_mid-paste}
use Rattle.rows.specs.Rows.{clear_row}
use Rattle.rows.specs.Size.{row_size}
use Rattle.rows.proofs.RowLaws.{up_fill}
use Rattle.rows.proofs.clear_row.Goals as goal

pub returns : goal.returns
unfolding clear_row
returns c =
    put_mid-paste _ _ _ _ (replicate row_size 0) row_size (search rules) (omega arith) refl
    ∙ sym (up_fill c.args.words.now (row_size * c.args.row) 0 row_size c.requires)
