use Rattle.std.proofs.Common.{arith}
use Rattle.layout.proofs.SettledLaws.{ninth_here, ninth_on, ninth_past, opened_within}
use Rattle.layout.proofs.ninth.Goals as goal

pub loop-at-init : goal.loop-at-init
loop-at-init c = (omega arith, omega arith)

pub returns-then-b-held : goal.returns-then-b-held
returns-then-b-held c =
    let w = c.loop-at in
    let e = ninth_here c.args.text.now w.at w.held c.loop-at-test.true c.if-b-held.true in
    omega (arith, w.invariant.1)

pub opened_by-held-requires : goal.opened_by-held-requires
opened_by-held-requires c = c.loop-at.invariant.0

pub loop-at-preserved : goal.loop-at-preserved
loop-at-preserved c =
    let w = c.loop-at in
    let e = ninth_on c.args.text.now w.at w.held c.loop-at-test.true c.if-b-held.false in
    (rw c.opened_by-held.ensures (opened_within w.held _ w.invariant.0 c.if-b-held.false), rw c.opened_by-held.ensures (omega (arith, w.invariant.1)))

pub returns : goal.returns
returns c =
    let w = c.loop-at in
    let e = ninth_past c.args.text.now w.at w.held c.loop-at-test.false in
    omega (arith, w.invariant.1)
