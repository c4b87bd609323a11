use Rattle.std.proofs.Common.{◌≡◌, true, sym, ◌∙◌, rules}
use Rattle.records.specs.Records.{BytesLent}
use Rattle.records.specs.SeenLaws.{seen_low}
use Rattle.records.specs.GroupLaws.{not_all_sound, records_are, lows_fit}
use Rattle.records.proofs.records_sound.Goals as goal

pub returns-in_default : goal.returns-in_default
returns-in_default c =
    let a = c.args in
    let long : BytesLent a.bytes.now = search rules in
    not_all_sound a.order a.bytes.now long (λ i. search rules) c.requires.0 c.requires.1 c.in_default.ensures

pub returns-then-levels_low : goal.returns-then-levels_low
returns-then-levels_low c =
    let a = c.args in
    let long : BytesLent a.bytes.now = search rules in
    let f = sym c.fits.ensures ∙ c.if-fits.true in
    let h : seen_low a.order.count c.in-Some.seen ≡ true = rw (c.levels_low.ensures, c.levels_low-then-fits.ensures) at c.if-levels_low.true in
    c.if-levels_low.true ∙ rw (f, lows_fit a.order a.bytes.now long (λ i. search rules) c.requires.0 c.requires.1 _ c.in-Some.ensures f h) at
    (records_are a.order a.bytes.now long (λ i. search rules) c.requires.0 c.requires.1 _ c.in-Some.ensures)

pub returns-else-levels_low : goal.returns-else-levels_low
returns-else-levels_low c =
    let a = c.args in
    let long : BytesLent a.bytes.now = search rules in
    c.levels_fit.ensures
    ∙ rw (sym c.fits.ensures ∙ c.if-fits.true) at
    (records_are a.order a.bytes.now long (λ i. search rules) c.requires.0 c.requires.1 _ c.in-Some.ensures)

pub returns-else-fits : goal.returns-else-fits
returns-else-fits c =
    let a = c.args in
    let long : BytesLent a.bytes.now = search rules in
    c.if-fits.false ∙ rw (sym c.fits.ensures ∙ c.if-fits.false) at
    (records_are a.order a.bytes.now long (λ i. search rules) c.requires.0 c.requires.1 _ c.in-Some.ensures)
