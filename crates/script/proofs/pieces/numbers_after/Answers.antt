use Rattle.std.proofs.Common.{sym, ◌∙◌, arith}
use Rattle.std.proofs.Math.ListN.{length-set}
use Rattle.script.specs.Pieces.{numbers_from}
use Rattle.script.specs.PiecesLaws.{after_at, after_end}
use Rattle.script.specs.NumbersLaws.{Next, next_number, no_next, numbers_more, numbers_full, numbers_stop}
use Rattle.script.proofs.pieces.numbers_after.Goals.{In_ok-found}
use Rattle.script.proofs.pieces.numbers_after.Goals as goal

pub returns-then-count-eq-MOST_NUMBERS-clause-numbers : goal.returns-then-count-eq-MOST_NUMBERS-clause-numbers
returns-then-count-eq-MOST_NUMBERS-clause-numbers c =
    sym (c.loop-end.invariant.so_far ∙ rw (after_at c.args.line.now c.loop-end.end (omega arith)) (numbers_full _ _ _ _ c.if-count-eq-MOST_NUMBERS.true))

pub returns-in_err-found-clause-numbers : goal.returns-in_err-found-clause-numbers
returns-in_err-found-clause-numbers c =
    let missed = no_next c.args.line.now c.loop-end.end (sym c.number_after.ensures ∙ c.in_err-found.was) (omega arith) in
    c.from_residual.ensures ∙ sym (c.loop-end.invariant.so_far ∙ rw (after_at c.args.line.now c.loop-end.end (omega arith)) (numbers_stop _ _ _ _ missed))

-- the number that this turn reads
next : (c : In_ok-found) → Next c.args.line.now c.loop-end.end c.in_ok-found.found.value c.in_ok-found.found.end
next c = next_number _ _ _ _ (sym c.number_after.ensures ∙ c.in_ok-found.was)

pub loop-end-smaller : goal.loop-end-smaller
loop-end-smaller c = omega (arith, (next c).later)

pub loop-end-preserved : goal.loop-end-preserved
loop-end-preserved c =
    let p = next c in
    record {
      room = omega arith;
      as_long = simp (length-set, c.loop-end.invariant.as_long);
      so_far = c.loop-end.invariant.so_far ∙ rw p.follows (numbers_more _ _ p.piece _ (omega arith) p.number ∙ rw p.is);
    }

pub returns-clause-numbers : goal.returns-clause-numbers
unfolding numbers_from
returns-clause-numbers c = sym (c.loop-end.invariant.so_far ∙ rw (after_end c.args.line.now c.loop-end.end (omega arith)))
