use Rattle.std.proofs.Common.{Bool, true, false, sym, ◌∙◌, arith}
use Rattle.std.specs.Bool.{MatchBool}
use Rattle.bits.specs.BitLaws.{one_shl}
use Rattle.levels.specs.OrderRows.{above, level_passes}
use Rattle.levels.proofs.Order.level_passes.Goals as goal

-- what both outcomes of a test show, changed at each
match_map : {P P' Q Q' : Type 0} (b : Bool) → (P → P') → (Q → Q') → MatchBool b P Q → MatchBool b P' Q'
match_map true f g h = f h
match_map false f g h = g h

pub returns-then-row_fits : goal.returns-then-row_fits
unfolding level_passes above
returns-then-row_fits c =
    let e = one_shl 16 c.args.a (omega arith) in
    let f = sym c.row_fits.ensures ∙ c.if-row_fits.true in
    match_map c.is_closed.result (λ t. rw (← c.row_of-row.ensures) (f, rw e at t)) (λ t. rw (← c.row_of-row.ensures, f) (rw e at t)) c.is_closed.ensures

pub returns-else-row_fits : goal.returns-else-row_fits
unfolding level_passes
returns-else-row_fits c = rw (← c.row_of-row.ensures, ← c.row_fits.ensures, c.if-row_fits.false)
