-- The numbers of all records are filled with zeros, and those left over stand behind them.
use Rattle.std.proofs.Common.{◌≡◌, ◌++◌, ℕ, ap, ◌∙◌, take, drop, length, length-take, replicate, arith}
use Rattle.rows.specs.Size.{numbers}
use Rattle.model.specs.Tallies.{zeroed}
use Rattle.tallies.specs.Counts.{records_in, left_over}
use Rattle.tallies.specs.CountLaws.{records_count, all_zeroed, zeroed_over}
use Rattle.tallies.proofs.U32Element.zero.Goals as goal

pub slice_bounds-fill-end-2 : goal.slice_bounds-fill-end-2
slice_bounds-fill-end-2 c = omega (arith, length-take {A = ℕ}, records_count c.args.list.now)

pub returns : goal.returns
unfolding zeroed
returns c =
    let ns = c.args.list.now in
    let cut : length (take 384 ns) ≡ 384 = omega (arith, length-take {A = ℕ}, records_count ns) in
    let left : c.fill.new.self ++ drop 384 ns ≡ replicate 384 0 ++ drop 384 ns = rw (c.fill.ensures.after (λ y e. e), cut) in
    (ap records_in left ∙ all_zeroed numbers ns c.requires, ap left_over left ∙ zeroed_over numbers ns (omega arith))
