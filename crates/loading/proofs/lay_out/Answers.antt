use Rattle.std.proofs.Common.{List, ◌-◌, get_or, take, drop, reverse, length-set, sym, ap, ◌∙◌, arith}
use Rattle.model.specs.declared.Call.{Call}
use Rattle.model.specs.State.{memory}
use Rattle.model.specs.Load.{in_turn}
use Rattle.loading.specs.Calls.{Holder, calls_from}
use Rattle.loading.specs.CallsLaws.{one_closes, one_opens, open_length}
use Rattle.loading.specs.Forms.{turned}
use Rattle.loading.specs.TurnLaws.{turn_none}
use Rattle.loading.specs.FormLaws.{no_level, closes, closes_none, line, end}
use Rattle.loading.proofs.lay_out.Goals as goal

nobody : Holder
nobody = record { number = 0; driver = 0 }

pub returns-then-depth-eq0 : goal.returns-then-depth-eq0
returns-then-depth-eq0 g c =
    let l = c.loop-at in
    let none = c.if-depth-eq0.true in
    turn_none c.args.order.now l.bytes l.words _ (rw none (closes_none c.args.text.now l.at c.loop-at-test.true c.if-text-at-eq41.true)) ∙ l.invariant.same

pub loop-at-preserved-then-text-at-eq41 : goal.loop-at-preserved-then-text-at-eq41
loop-at-preserved-then-text-at-eq41 g c =
    let l = c.loop-at in
    record {
      shallow = omega arith;
      within = omega arith;
      ready = l.invariant.ready;
      places = l.invariant.places;
      few = omega arith;
      same = ap (λ (cs : List Call). in_turn c.args.order.now cs (memory l.bytes l.words)) (
          closes _ c.args.text.now l.at (get_or l.held (l.depth - 1) nobody) c.loop-at-test.true c.if-text-at-eq41.true
          ∙ ap (λ (s : List Holder). calls_from s (drop l.at c.args.text.now)) (sym (one_closes l.held l.depth nobody (omega arith) (omega arith)))
          ) ∙ l.invariant.same;
    }

pub loop-at-preserved-then-text-at-eq10 : goal.loop-at-preserved-then-text-at-eq10
loop-at-preserved-then-text-at-eq10 g c =
    let l = c.loop-at in
    record {
      shallow = omega arith;
      within = omega arith;
      ready = l.invariant.ready;
      places = l.invariant.places;
      few = l.invariant.few;
      same = ap (λ (cs : List Call). in_turn c.args.order.now cs (memory l.bytes l.words)) (line _ c.args.text.now l.at c.loop-at-test.true c.if-text-at-eq10.true) ∙ l.invariant.same;
    }

-- ---- after a task

pub returns-in-Err : goal.returns-in-Err
unfolding turned
returns-in-Err g c = c.in-Err.ensures.words_after (reverse (take c.loop-at.depth c.loop-at.held)) ∙ c.loop-at.invariant.same

pub loop-at-preserved-in-Ok : goal.loop-at-preserved-in-Ok
unfolding turned
loop-at-preserved-in-Ok g c =
    let l = c.loop-at in
    let f = c.in-Ok.ensures.further in
    record {
      shallow = omega arith;
      within = f.1;
      ready = f.2;
      places = l.invariant.places;
      few = l.invariant.few;
      same = c.in-Ok.ensures.words_after (reverse (take l.depth l.held)) ∙ l.invariant.same;
    }

-- ---- after an object

pub returns-in-Err-object : goal.returns-in-Err-object
unfolding turned
returns-in-Err-object g c = c.in-Err-object.ensures.words_after ∙ c.loop-at.invariant.same

pub loop-at-preserved : goal.loop-at-preserved
unfolding turned
loop-at-preserved g c =
    let l = c.loop-at in
    let f = c.in-Ok-object.ensures.further in
    record {
      shallow = omega arith;
      within = f.1;
      ready = f.2;
      places = length-set l.held l.depth _ ∙ l.invariant.places;
      few = omega arith;
      same = rw (← one_opens l.held l.depth c.in-Ok-object.object.value (omega arith)) c.in-Ok-object.ensures.words_after ∙ l.invariant.same;
    }

-- an object past the eighth level
pub returns-else-depth-lt-MOST_LEVELS : goal.returns-else-depth-lt-MOST_LEVELS
returns-else-depth-lt-MOST_LEVELS g c =
    let l = c.loop-at in
    turn_none c.args.order.now l.bytes l.words _
    (no_level (reverse (take l.depth l.held)) c.args.text.now l.at (c.loop-at-test.true, c.if-text-at-eq41.false, c.if-text-at-eq10.false, sym c.is_at.ensures ∙ c.if-is_at.false) (rw (open_length l.held l.depth (omega arith)) c.if-depth-lt-MOST_LEVELS.false))
    ∙ l.invariant.same

pub returns : goal.returns
returns g c =
    let l = c.loop-at in
    turn_none c.args.order.now l.bytes l.words _ (end _ c.args.text.now l.at c.loop-at-test.false) ∙ l.invariant.same
