use Rattle.std.proofs.Common.{◌≡◌, List, ℕ, ◌+◌, ◌-◌, ap, ◌∙◌, arith, length, take, drop, take_all, drop_of_length-le, length-take, length-drop}
use Rattle.trail.specs.Feeding.{after_piece}
use Rattle.trail.specs.Buffers.{reading_in}
use Rattle.trail.proofs.BufferLaws.{kept_on, ended_on}
use Rattle.trail.proofs.feeding.State.feed.Goals as goal

rest : (s : List ℕ) (i : ℕ) → take (length s - i) (drop i s) ≡ drop i s
rest s i = take_all (length s - i) (drop i s) (omega (arith, length-drop i s))

pub loop-at-preserved-then-at-piece : goal.loop-at-preserved-then-at-piece
loop-at-preserved-then-at-piece c =
    let s = c.args.piece.now in
    let i = c.loop-at.at in
    let n = c.until-at.result in
    let t = c.loop-at.self in
    let counts = rw (rest s i) at c.until-at.ensures.counts in
    let stored = rw (rest s i) at c.until-at.ensures.prints.stored in
    record {
      within = omega arith;
      room = omega (arith, c.end_line.ensures.room);
      fed = ap (after_piece (drop (i + n + 1) s)) c.end_line.ensures.ends
          ∙ ended_on s i n _ counts c.if-at-piece.true
          ∙ kept_on s i n (reading_in t) (omega (arith, t.line.within, length-take t.line.len t.line.bytes)) counts stored
          ∙ c.loop-at.invariant.fed;
    }

pub loop-at-preserved : goal.loop-at-preserved
loop-at-preserved c =
    let s = c.args.piece.now in
    let i = c.loop-at.at in
    let n = c.until-at.result in
    let t = c.loop-at.self in
    let counts = rw (rest s i) at c.until-at.ensures.counts in
    let stored = rw (rest s i) at c.until-at.ensures.prints.stored in
    record {
      within = omega arith;
      room = omega arith;
      fed = kept_on s i n (reading_in t) (omega (arith, t.line.within, length-take t.line.len t.line.bytes)) counts stored
          ∙ c.loop-at.invariant.fed;
    }

pub returns : goal.returns
unfolding after_piece
returns c = rw (drop_of_length-le c.args.piece.now c.loop-at-test.false) at c.loop-at.invariant.fed
