use Rattle.std.proofs.Common.{reverse, sym}
use Rattle.std.proofs.lemmas.List.{length-reverse}
use Rattle.layout.proofs.PlaceLaws.{head_got}
use Rattle.loading.specs.Forms.{turned}
use Rattle.loading.specs.TurnLaws.{turn_stops, turn_goes, turn_ready, turn_none}
use Rattle.loading.specs.FormLaws.{no_object, object_calls_law, further}
use Rattle.decisions.specs.DecisionLaws.{passed, failed}
use Rattle.loading.proofs.object.Goals as goal

pub returns-in_default-clause-words_after : goal.returns-in_default-clause-words_after
unfolding turned
returns-in_default-clause-words_after g c =
    let a = c.args in
    turn_none a.order.now a.bytes.now a.words.now _ (no_object (reverse a.held.now) a.text.now a.at c.requires.1 _ (sym c.in_default.ensures))

pub returns-then-not-is_done-clause-words_after : goal.returns-then-not-is_done-clause-words_after
unfolding turned
returns-then-not-is_done-clause-words_after g c =
    let a = c.args in
    turn_stops a.order.now _ _ _ _
    (object_calls_law (reverse a.held.now) a.text.now a.at c.requires.1 _ (sym c.in-Ok.ensures) (rw length-reverse c.requires.2))
    c.create-verdict.ensures (failed c.is_done.ensures c.if-not-is_done.true)

pub returns-clause-further : goal.returns-clause-further
returns-clause-further g c =
    let a = c.args in
    further a.order.now a.text.now a.at _ _ _ (head_got a.text.now a.at _ (sym c.in-Ok.ensures))
    (turn_ready a.order.now _ _ _ _
    (object_calls_law (reverse a.held.now) a.text.now a.at c.requires.1 _ (sym c.in-Ok.ensures) (rw length-reverse c.requires.2))
    c.create-verdict.ensures c.requires.0)

pub returns-clause-words_after : goal.returns-clause-words_after
unfolding turned
returns-clause-words_after g c =
    let a = c.args in
    turn_goes a.order.now _ _ _ _
    (object_calls_law (reverse a.held.now) a.text.now a.at c.requires.1 _ (sym c.in-Ok.ensures) (rw length-reverse c.requires.2))
    c.create-verdict.ensures (passed c.is_done.ensures c.if-not-is_done.false)
