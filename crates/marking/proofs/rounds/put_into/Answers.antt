use Rattle.std.proofs.Common.{◌≡◌, ◌*◌, ◌/◌, ◌%◌, arith}
use Rattle.bits.specs.BitLaws.{one_shl}
use Rattle.rows.specs.Size.{row_size}
use Rattle.rows.specs.Rows.{add_cell}
use Rattle.marking.proofs.rounds.put_into.Goals as goal

pub returns : goal.returns
unfolding add_cell
returns c =
    let a = c.args in
    let e : row_size * (a.start / row_size) ≡ a.start = omega arith in
    rw (e, one_shl 64 (a.x % 64) (omega arith))
