use Rattle.std.proofs.Common.{rules, Some, None, Result, Ok, Err, ℕ, ◌≡◌, ◌<◌, cond, leb, le-leb, sym, ◌∙◌, ◌-◌, ◌≤◌, length, get_or, arith}
use Rattle.std.specs.Result.{OkIff, result_ok}
use Rattle.std.proofs.lemmas.Bool.{lt-leb}
use Rattle.script.specs.Pieces.{number_of}
use Rattle.script.specs.PiecesLaws.{no_digits, digits_at, value_at, digit_fits, number_read, too_short, too_long}
use Rattle.script.proofs.pieces.number_of.Goals.{then-is_empty-via-then-is_empty, then-is_empty-via-else-is_empty+then-piece-gt-MOST_DIGITS}
use Rattle.script.proofs.pieces.number_of.Goals as goal

pub returns-then-is_empty : goal.returns-then-is_empty
unfolding number_of
returns-then-is_empty c =
    elim c.then-is_empty.branch [
      | then-is_empty-via-then-is_empty w ↦ rw (too_short c.args.piece.now (search rules))
      | then-is_empty-via-else-is_empty+then-piece-gt-MOST_DIGITS w ↦ rw (too_long c.args.piece.now (omega arith))
    ]

pub returns-then-not-is_ascii_digit : goal.returns-then-not-is_ascii_digit
unfolding number_of
returns-then-not-is_ascii_digit c =
    let p = c.args.piece.now in
    rw (no_digits p (c.loop-b.invariant.are_digits ∙ digits_at p c.loop-b.b-index (omega arith) ∙ rw (← c.if-not-is_ascii_digit.ensures.value)))

pub loop-b-preserved : goal.loop-b-preserved
loop-b-preserved c =
    let p = c.args.piece.now in
    let i = c.loop-b.b-index in
    record {
      small = rw c.from.ensures (digit_fits {d = get_or p i 0 - 48} c.loop-b.invariant.small (omega (arith, c.if-not-is_ascii_digit.ensures.cases)) (omega arith)).0;
      are_digits = c.loop-b.invariant.are_digits ∙ digits_at p i (omega arith) ∙ rw (← c.if-not-is_ascii_digit.ensures.value);
      valued = c.loop-b.invariant.valued ∙ value_at c.loop-b.v p i (omega arith) ∙ rw (c.from.ensures);
    }

-- the last test: the number fits
told : {E : Type 0} (v : ℕ) (r : Result ℕ E) → OkIff r (v < 65536) v → cond (leb v 65535) (Some v) None ≡ result_ok r
told v (Ok x) h = rw (le-leb v 65535 (omega arith), h.1)
told v (Err e) h = rw (lt-leb v 65535 (omega arith))

pub returns : goal.returns
returns c =
    let p = c.args.piece.now in
    let some : 1 ≤ length p = search rules in
    let e = number_read p c.loop-b.v c.loop-b.b-index some (omega arith) (omega arith) c.loop-b.invariant.are_digits c.loop-b.invariant.valued in
    c.ok.ensures.value ∙ sym (e ∙ told c.loop-b.v _ c.try_from.ensures)
