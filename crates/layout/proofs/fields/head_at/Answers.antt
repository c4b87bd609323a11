use Rattle.std.proofs.Common.{sym, ◌∙◌, arith}
use Rattle.layout.specs.Layout.{object_word, driver_word, level_word}
use Rattle.layout.proofs.PlaceLaws.{field_got, lost_of, lost_is, passed_on, found_is, head_no_number, head_no_driver, head_no_level, head_whole}
use Rattle.layout.proofs.fields.head_at.Goals as goal

pub returns-in_err-number : goal.returns-in_err-number
unfolding object_word
returns-in_err-number c = passed_on _ _ c.from_residual.ensures.1 ∙ lost_is _ _ _ (head_no_number _ _ _ (lost_of _ _ _ (sym c.in_err-number.ensures)))

pub field_at-requires-2 : goal.field_at-requires-2
unfolding object_word
field_at-requires-2 c = ((field_got _ object_word _ _ (sym c.in_ok-number.ensures)).within, omega arith, omega arith)

pub returns-in_err-driver : goal.returns-in_err-driver
unfolding object_word driver_word
returns-in_err-driver c =
    let n = field_got _ object_word _ _ (sym c.in_ok-number.ensures) in
    passed_on _ _ c.from_residual-in_err-driver.ensures.1 ∙ lost_is _ _ _ (head_no_driver _ _ _ _ _ n.is (lost_of _ _ _ (sym c.in_err-driver.ensures)))

pub field_at-requires-3 : goal.field_at-requires-3
unfolding driver_word
field_at-requires-3 c = ((field_got _ driver_word _ _ (sym c.in_ok-driver.ensures)).within, omega arith, omega arith)

pub returns-in_err-level : goal.returns-in_err-level
unfolding object_word driver_word level_word
returns-in_err-level c =
    let n = field_got _ object_word _ _ (sym c.in_ok-number.ensures) in
    let d = field_got _ driver_word _ _ (sym c.in_ok-driver.ensures) in
    passed_on _ _ c.from_residual-in_err-level.ensures.1 ∙ lost_is _ _ _ (head_no_level _ _ _ _ _ _ _ n.is d.is (lost_of _ _ _ (sym c.in_err-level.ensures)))

pub returns : goal.returns
unfolding object_word driver_word level_word
returns c =
    let n = field_got _ object_word _ _ (sym c.in_ok-number.ensures) in
    let d = field_got _ driver_word _ _ (sym c.in_ok-driver.ensures) in
    let l = field_got _ level_word _ _ (sym c.in_ok-level.ensures) in
    found_is _ _ _ _ (head_whole _ _ _ _ _ _ _ n.is d.is l.is) l.within
