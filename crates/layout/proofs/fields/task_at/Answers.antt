use Rattle.std.proofs.Common.{◌+◌, sym, ◌∙◌, arith}
use Rattle.layout.specs.Layout.{task_word, image_word, level_word, reads_word, closing}
use Rattle.layout.proofs.PlaceLaws.{field_got, leaves_at, lost_of, lost_is, passed_on, found_is, stands, stands_not, stands_expected, task_no_number, task_no_image, task_no_level, task_no_reads, task_closes}
use Rattle.layout.proofs.fields.task_at.Goals as goal

pub returns-in_err-number : goal.returns-in_err-number
unfolding task_word
returns-in_err-number c = passed_on _ _ c.from_residual.ensures.1 ∙ lost_is _ _ _ (task_no_number _ _ _ (lost_of _ _ _ (sym c.in_err-number.ensures)))

pub field_at-requires-2 : goal.field_at-requires-2
unfolding task_word
field_at-requires-2 c = ((field_got _ task_word _ _ (sym c.in_ok-number.ensures)).within, omega arith, omega arith)

pub returns-in_err-image : goal.returns-in_err-image
unfolding task_word image_word
returns-in_err-image c =
    let n = field_got _ task_word _ _ (sym c.in_ok-number.ensures) in
    passed_on _ _ c.from_residual-in_err-image.ensures.1 ∙ lost_is _ _ _ (task_no_image _ _ _ _ _ n.is (lost_of _ _ _ (sym c.in_err-image.ensures)))

pub field_at-requires-3 : goal.field_at-requires-3
unfolding image_word
field_at-requires-3 c = ((field_got _ image_word _ _ (sym c.in_ok-image.ensures)).within, omega arith, omega arith)

pub returns-in_err-level : goal.returns-in_err-level
unfolding task_word image_word level_word
returns-in_err-level c =
    let n = field_got _ task_word _ _ (sym c.in_ok-number.ensures) in
    let i = field_got _ image_word _ _ (sym c.in_ok-image.ensures) in
    passed_on _ _ c.from_residual-in_err-level.ensures.1 ∙ lost_is _ _ _ (task_no_level _ _ _ _ _ _ _ n.is i.is (lost_of _ _ _ (sym c.in_err-level.ensures)))

pub field_at-requires-4 : goal.field_at-requires-4
unfolding level_word
field_at-requires-4 c = ((field_got _ level_word _ _ (sym c.in_ok-level.ensures)).within, omega arith, omega arith)

pub returns-in_err-reads : goal.returns-in_err-reads
unfolding task_word image_word level_word reads_word
returns-in_err-reads c =
    let n = field_got _ task_word _ _ (sym c.in_ok-number.ensures) in
    let i = field_got _ image_word _ _ (sym c.in_ok-image.ensures) in
    let l = field_got _ level_word _ _ (sym c.in_ok-level.ensures) in
    passed_on _ _ c.from_residual-in_err-reads.ensures.1 ∙ lost_is _ _ _ (task_no_reads _ _ _ _ _ _ _ (record { u = _; v = _; first = n.is; second = i.is; third = l.is }) (lost_of _ _ _ (sym c.in_err-reads.ensures)))

pub returns-then-not-is_at : goal.returns-then-not-is_at
unfolding task_word image_word level_word reads_word
returns-then-not-is_at c =
    let n = field_got _ task_word _ _ (sym c.in_ok-number.ensures) in
    let i = field_got _ image_word _ _ (sym c.in_ok-image.ensures) in
    let l = field_got _ level_word _ _ (sym c.in_ok-level.ensures) in
    let r = field_got _ reads_word _ _ (sym c.in_ok-reads.ensures) in
    lost_is _ _ _ (leaves_at _ _ _ (task_closes _ _ _ _ _ _ _ (record { u = _; v = _; first = n.is; second = i.is; third = l.is }) r.is ∙ stands_not closing _ _ (sym c.is_at.ensures ∙ c.if-not-is_at.true)) r.within)

pub overflow_add-result : goal.overflow_add-result
overflow_add-result c =
    let s = stands c.args.text.now c.in_ok-reads.reads.end closing (sym c.is_at.ensures ∙ c.if-not-is_at.false) in
    omega arith

pub returns : goal.returns
unfolding task_word image_word level_word reads_word
returns c =
    let t = c.args.text.now in
    let e = c.in_ok-reads.reads.end in
    let n = field_got _ task_word _ _ (sym c.in_ok-number.ensures) in
    let i = field_got _ image_word _ _ (sym c.in_ok-image.ensures) in
    let l = field_got _ level_word _ _ (sym c.in_ok-level.ensures) in
    let r = field_got _ reads_word _ _ (sym c.in_ok-reads.ensures) in
    let closed = sym c.is_at.ensures ∙ c.if-not-is_at.false in
    let s = stands t e closing closed in
    found_is t _ _ (e + 1) (task_closes _ _ _ _ _ _ _ (record { u = _; v = _; first = n.is; second = i.is; third = l.is }) r.is ∙ stands_expected t e closing _ closed) (omega arith)
