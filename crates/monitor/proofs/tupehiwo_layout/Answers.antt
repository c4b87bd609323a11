use Rattle.std.proofs.Common.{◌≡◌, Ok, Err, List, ℕ, length, arith, sym, ◌∙◌, inl, inr}
use Rattle.layout.specs.Reading.{settled}
use Rattle.layout.specs.Answers.{text_answer}
use Rattle.layout.specs.declared.Fault.TheVariants.{Broken, Deep}
use Rattle.layout.proofs.Proved.{settles_all}
use Rattle.model.specs.declared.Checked.{Checked}
use Rattle.model.specs.Verdicts.{granted, row_form, row_deep}
use Rattle.model.specs.Load.{checked, layout_checked}
use Rattle.loading.specs.SettledLaws.{told_fits, told_broken, told_deep, place_small}
use Rattle.monitor.proofs.tupehiwo_layout.Goals as goal

-- what a text alone settles
module _ (t : List ℕ) where
  checked_fits : text_answer (settled t) ≡ Ok tt → record { verdict = granted; offset = length t } ≡ layout_checked t
  unfolding layout_checked checked
  checked_fits e = rw (told_fits (settled t) e).1

  checked_broken : (place : ℕ) → text_answer (settled t) ≡ Err (Broken place) → record { verdict = row_form; offset = place } ≡ layout_checked t
  unfolding layout_checked checked
  checked_broken place e = rw (told_broken (settled t) place e)

  checked_deep : (place : ℕ) → text_answer (settled t) ≡ Err (Deep place) → record { verdict = row_deep; offset = place } ≡ layout_checked t
  unfolding layout_checked checked
  checked_deep place e = rw (told_deep (settled t) place e)

-- what the reader answered is what the text settles
pub overflow_cast-result : goal.overflow_cast-result
overflow_cast-result c =
    let t = c.args.text.now in
    let f = told_fits (settled t) (sym c.check.ensures ∙ c.in-Ok.is) in
    let q = (settles_all t f.0).0 f.1 in
    omega (arith, q.3)

pub overflow_cast-result-in-Err-Broken : goal.overflow_cast-result-in-Err-Broken
overflow_cast-result-in-Err-Broken c =
    let t = c.args.text.now in
    omega (arith, place_small t _ (inl (told_broken (settled t) _ (rw c.in-Err-Broken.field-0-is at (sym c.check.ensures ∙ c.in-Err-Broken.is)))))

pub overflow_cast-result-in-Err-Deep : goal.overflow_cast-result-in-Err-Deep
overflow_cast-result-in-Err-Deep c =
    let t = c.args.text.now in
    omega (arith, place_small t _ (inr (told_deep (settled t) _ (rw c.in-Err-Deep.field-0-is at (sym c.check.ensures ∙ c.in-Err-Deep.is)))))

pub returns-in-Ok : goal.returns-in-Ok
returns-in-Ok c = rw c.number.ensures (checked_fits _ (sym c.check.ensures ∙ c.in-Ok.is))

pub returns-in-Err-Broken : goal.returns-in-Err-Broken
returns-in-Err-Broken c = rw c.number-in-Err-Broken.ensures (checked_broken _ _ (rw c.in-Err-Broken.field-0-is at (sym c.check.ensures ∙ c.in-Err-Broken.is)))

pub returns-in-Err-Deep : goal.returns-in-Err-Deep
returns-in-Err-Deep c = rw c.number-in-Err-Deep.ensures (checked_deep _ _ (rw c.in-Err-Deep.field-0-is at (sym c.check.ensures ∙ c.in-Err-Deep.is)))
