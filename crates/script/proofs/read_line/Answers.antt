use Rattle.std.proofs.Common.{◌≡◌, sym, ◌∙◌, take, arith}
use Rattle.std.proofs.Math.Seq.{length-take-le}
use Rattle.script.specs.Script.{start_word, read_line}
use Rattle.script.specs.PiecesLaws.{first_within}
use Rattle.script.specs.LineLaws.{line_start, line_call, call_with}
use Rattle.script.proofs.read_line.Goals.{After-numbers_after}
use Rattle.script.proofs.read_line.Goals as goal

pub slice_bounds-word-end : goal.slice_bounds-word-end
slice_bounds-word-end c = sym (length-take-le c.end_of-end.result c.args.line.now (omega (arith, c.end_of-end.ensures, first_within c.args.line.now)))

pub returns-then-is : goal.returns-then-is
unfolding start_word
returns-then-is c = c.start_after.ensures ∙ sym (line_start c.args.line.now c.end_of-end.result c.end_of-end.ensures (sym c.if-is.ensures))

-- a line that is no start, by the numbers that were read
read : (c : After-numbers_after) → read_line c.args.line.now ≡ call_with (take c.end_of-end.result c.args.line.now) c.numbers_after.result
unfolding start_word
read c = line_call c.args.line.now c.end_of-end.result c.end_of-end.ensures (sym c.if-is.ensures) ∙ rw c.numbers_after.ensures.numbers

pub returns-in_err-numbers : goal.returns-in_err-numbers
unfolding call_with
returns-in_err-numbers c = c.from_residual.ensures ∙ sym (read (goal.at.returns-in_err-numbers c).After-numbers_after ∙ rw c.in_err-numbers.was)

pub returns : goal.returns
unfolding call_with
returns c = c.call_of.ensures ∙ sym (read (goal.at.returns c).After-numbers_after ∙ rw (c.in_ok-numbers.was, c.as_slice.ensures))
