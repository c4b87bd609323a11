use Rattle.std.proofs.Common.{◌+◌, refl, drop, sym, ◌∙◌, arith}
use Rattle.layout.proofs.PlaceLaws.{leaves_at, found_is, lost_is, number_none, none_here, here, zero_digit, one_digit, two_digits, three_digits}
use Rattle.layout.proofs.fields.number_at.Goals as goal

pub returns-in_default : goal.returns-in_default
returns-in_default c =
    let l = c.args.text.now in
    lost_is _ _ _ (leaves_at l _ c.args.at (number_none (drop c.args.at l) (none_here l c.args.at (sym c.digit_at.ensures.value ∙ c.in_default.is))) c.requires)

pub returns-then-a-eq0 : goal.returns-then-a-eq0
returns-then-a-eq0 c =
    let a = here c.args.text.now c.args.at (c.args.at + 1) c.in-Some.a refl (sym c.digit_at.ensures.value ∙ c.in-Some.is) in
    found_is _ _ _ _ (zero_digit _ _ _ _ a c.if-a-eq0.true) a.within

pub returns-in_default-digit_at : goal.returns-in_default-digit_at
returns-in_default-digit_at c =
    let l = c.args.text.now in
    let a = here l c.args.at (c.args.at + 1) c.in-Some.a refl (sym c.digit_at.ensures.value ∙ c.in-Some.is) in
    found_is _ _ _ _ (one_digit _ _ _ _ a (omega arith) (none_here l (c.args.at + 1) (sym c.digit_at-2.ensures.value ∙ c.in_default-digit_at.is))) a.within

pub returns-in_default-digit_at-2 : goal.returns-in_default-digit_at-2
returns-in_default-digit_at-2 c =
    let l = c.args.text.now in
    let p = c.args.at in
    let a = here l p (p + 1) c.in-Some.a refl (sym c.digit_at.ensures.value ∙ c.in-Some.is) in
    let b = here l (p + 1) (p + 2) c.in-Some-digit_at.b (omega arith) (sym c.digit_at-2.ensures.value ∙ c.in-Some-digit_at.is) in
    found_is _ _ _ _ (two_digits _ _ _ _ _ _ a (omega arith) b (none_here l (p + 2) (sym c.digit_at-3.ensures.value ∙ c.in_default-digit_at-2.is))) b.within

pub returns : goal.returns
returns c =
    let l = c.args.text.now in
    let p = c.args.at in
    let a = here l p (p + 1) c.in-Some.a refl (sym c.digit_at.ensures.value ∙ c.in-Some.is) in
    let b = here l (p + 1) (p + 2) c.in-Some-digit_at.b (omega arith) (sym c.digit_at-2.ensures.value ∙ c.in-Some-digit_at.is) in
    let d = here l (p + 2) (p + 3) c.in-Some-digit_at-2.c (omega arith) (sym c.digit_at-3.ensures.value ∙ c.in-Some-digit_at-2.is) in
    found_is _ _ _ _ (three_digits _ _ _ _ _ _ _ _ a (omega arith) b d) d.within
