use Rattle.std.proofs.Common.{◌≡◌, sym, ◌∙◌, drop, eq-eqb, ne_eqb}
use Rattle.script.specs.Script.{start_of}
use Rattle.script.specs.Pieces.{afterwards}
use Rattle.script.specs.NumbersLaws.{Next, next_number, missed}
use Rattle.script.specs.LineLaws.{no_count, count_over, no_top, start_with, start_read}
use Rattle.script.proofs.start_after.Goals.{In_ok-count, After-numbers_after}
use Rattle.script.proofs.start_after.Goals as goal

pub returns-in_err-count : goal.returns-in_err-count
returns-in_err-count c = c.from_residual.ensures ∙ sym (no_count (missed _ _ (sym c.number_after.ensures ∙ c.in_err-count.was)))

-- the count
first : (c : In_ok-count) → Next c.args.line.now c.args.at c.in_ok-count.field-0.value c.in_ok-count.field-0.end
first c = next_number _ _ _ _ (sym c.number_after.ensures ∙ c.in_ok-count.was)

pub returns-then-count-gt-MOST_LEVELS : goal.returns-then-count-gt-MOST_LEVELS
returns-then-count-gt-MOST_LEVELS c = sym (count_over (first (goal.at.returns-then-count-gt-MOST_LEVELS c).In_ok-count) c.if-count-gt-MOST_LEVELS.true)

pub returns-in_err-top : goal.returns-in_err-top
returns-in_err-top c =
    let missing = missed _ _ (sym c.number_after-2.ensures ∙ c.in_err-top.was) in
    c.from_residual-in_err-top.ensures ∙ sym (no_top (first (goal.at.returns-in_err-top c).In_ok-count) c.if-count-gt-MOST_LEVELS.false missing)

-- what the start is by the rows that were read
read : (c : After-numbers_after) → start_of (afterwards (drop c.args.at c.args.line.now)) ≡ start_with c.in_ok-count.field-0.value c.in_ok-top.field-0.value c.numbers_after.result
read c =
    let count = next_number _ _ _ _ (sym c.number_after.ensures ∙ c.in_ok-count.was) in
    let top = next_number _ _ _ _ (sym c.number_after-2.ensures ∙ c.in_ok-top.was) in
    start_read count c.if-count-gt-MOST_LEVELS.false top c.numbers_after.ensures.numbers

pub returns-in_err-rows : goal.returns-in_err-rows
unfolding start_with
returns-in_err-rows c = c.from_residual-in_err-rows.ensures ∙ sym (read (goal.at.returns-in_err-rows c).After-numbers_after ∙ rw c.in_err-rows.was)

pub returns-then-given-from : goal.returns-then-given-from
unfolding start_with
returns-then-given-from c =
    sym (read (goal.at.returns-then-given-from c).After-numbers_after ∙ rw (c.in_ok-rows.was, ne_eqb c.in_ok-rows.field-0.count c.in_ok-count.field-0.value (λ e. c.if-given-from.true (e ∙ sym c.from.ensures))))

pub returns : goal.returns
unfolding start_with
returns c = sym (read (goal.at.returns c).After-numbers_after ∙ rw (c.in_ok-rows.was, eq-eqb _ _ (c.if-given-from.false ∙ c.from.ensures)))
