use Rattle.std.proofs.Common.{◌≡◌, ◌+◌, get_or, sym, ◌∙◌, arith}
use Rattle.layout.proofs.PlaceLaws.{stands, word_step}
use Rattle.layout.proofs.fields.same_bytes.Goals as goal

pub loop-i-preserved : goal.loop-i-preserved
loop-i-preserved c =
    let w = c.loop-i in
    let place = c.args.at + w.i in
    let stood = sym c.is_at.ensures ∙ c.if-not-is_at.false in
    let s = stands c.args.text.now place (get_or c.args.word.now w.i 0) stood in
    let next : place + 1 ≡ c.args.at + (w.i + 1) = omega arith in
    (omega arith, w.invariant.1 ∙ word_step c.args.text.now c.args.word.now w.i place c.loop-i-test.true stood ∙ rw next)
