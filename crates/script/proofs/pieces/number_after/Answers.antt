use Rattle.std.proofs.Common.{sym, ap, ◌∙◌, ◌≡◌, ◌+◌, ◌≤◌, length, drop, le-ltb, arith}
use Rattle.script.specs.Pieces.{first, ending_at, number_after}
use Rattle.script.specs.PiecesLaws.{rest_from, piece_within}
use Rattle.script.specs.NumbersLaws.{number_after_law}
use Rattle.script.proofs.pieces.number_after.Goals.{After-end_of, After-number_of}
use Rattle.script.proofs.pieces.number_after.Goals as goal

pub returns-then-at-line : goal.returns-then-at-line
unfolding number_after
returns-then-at-line c = rw (le-ltb _ _ c.if-at-line.true)

-- where the piece ends
ends : (c : After-end_of) → c.end_of.result ≡ length (first (drop (c.args.at + 1) c.args.line.now))
ends c = rw rest_from at c.end_of.ensures

within : (c : After-end_of) → c.args.at + 1 + c.end_of.result ≤ length c.args.line.now
within c = omega (arith, ends c, piece_within c.args.line.now (c.args.at + 1) (omega arith))

pub overflow_add-end : goal.overflow_add-end
overflow_add-end c = omega (arith, within c)

pub slice_bounds-number_of-end : goal.slice_bounds-number_of-end
slice_bounds-number_of-end c = omega (arith, within c)

-- what the piece is read as
found : (c : After-number_of) → number_after c.args.line.now c.args.at ≡ ending_at c.number_of.result (c.args.at + 1 + c.end_of.result)
found c = number_after_law c.args.line.now c.args.at (c.args.at + 1 + c.end_of.result) c.number_of.result (omega arith) (ap (λ n. c.args.at + 1 + n) (rw rest_from at c.end_of.ensures)) c.number_of.ensures

pub returns-in_err-value : goal.returns-in_err-value
unfolding ending_at
returns-in_err-value c = c.from_residual.ensures ∙ sym (found (goal.at.returns-in_err-value c).After-number_of ∙ rw c.in_err-value.was)

pub returns : goal.returns
unfolding ending_at
returns c = sym (found (goal.at.returns c).After-number_of ∙ rw c.in_ok-value.was)
