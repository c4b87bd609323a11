use Rattle.std.proofs.Common.{◌≡◌, get_or, sym, ◌∙◌, ltb-true, ltb-false, arith}
use Rattle.std.proofs.lemmas.List.{get_or_read}
use Rattle.layout.proofs.PlaceLaws.{digit_past, digit_low, digit_high, digit_here}
use Rattle.layout.proofs.fields.digit_at.Goals as goal

pub returns-in_err-b-clause-value : goal.returns-in_err-b-clause-value
returns-in_err-b-clause-value c = c.from_residual.ensures ∙ digit_past c.args.text.now c.args.at (ltb-false _ _ (sym c.in_err-b.ensures.lookup.0))

pub returns-then-b-lt48-clause-value : goal.returns-then-b-lt48-clause-value
returns-then-b-lt48-clause-value c =
    let l = c.args.text.now in
    let within = ltb-true _ _ (sym c.in_ok-b.ensures.lookup.0) in
    let b : c.in_ok-b.field-0.now ≡ get_or l c.args.at 0 = get_or_read l _ _ within c.in_ok-b.ensures.lookup.1 0 in
    digit_low l c.args.at within (omega arith)

pub returns-then-b-gt57-clause-value : goal.returns-then-b-gt57-clause-value
returns-then-b-gt57-clause-value c =
    let l = c.args.text.now in
    let within = ltb-true _ _ (sym c.in_ok-b.ensures.lookup.0) in
    let b : c.in_ok-b.field-0.now ≡ get_or l c.args.at 0 = get_or_read l _ _ within c.in_ok-b.ensures.lookup.1 0 in
    digit_high l c.args.at within (omega arith)

pub returns-clause-value : goal.returns-clause-value
returns-clause-value c =
    let l = c.args.text.now in
    let within = ltb-true _ _ (sym c.in_ok-b.ensures.lookup.0) in
    let b : c.in_ok-b.field-0.now ≡ get_or l c.args.at 0 = get_or_read l _ _ within c.in_ok-b.ensures.lookup.1 0 in
    rw b (digit_here l c.args.at within (omega arith) (omega arith))
