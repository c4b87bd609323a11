use Rattle.std.proofs.Common.{◌≡◌, List, [], ℕ, refl, sym, ◌∙◌}
use Rattle.levels.specs.declared.Order.{Order}
use Rattle.layout.specs.declared.fields.Task.{Task}
use Rattle.layout.proofs.PlaceLaws.{task_got}
use Rattle.model.specs.declared.Call.TheVariants.{Execute}
use Rattle.model.specs.State.{memory}
use Rattle.model.specs.Ready.{Ready}
use Rattle.model.specs.Events.{left, outcome, execute}
use Rattle.model.specs.Load.{in_turn}
use Rattle.loading.specs.Calls.{task_calls}
use Rattle.loading.specs.Forms.{turned}
use Rattle.loading.specs.TurnLaws.{as_call, call_last, turn_stops, turn_goes, turn_ready, turn_none}
use Rattle.loading.specs.FormLaws.{no_task, task_calls_law, further}
use Rattle.decisions.specs.DecisionLaws.{passed, failed}
use Rattle.loading.proofs.task.Goals as goal

-- what runs the task is the task's call
ran : (o : Order) (bs ws : List ℕ) (a : Task) {v : ℕ} {bs' ws' : List ℕ} → Ready o bs ws
    → left v 0 bs' ws' ≡ outcome (memory bs ws) (execute o (memory bs ws) 0 a.image a.number a.level a.reads)
    → left v 0 bs' ws' ≡ in_turn o (task_calls a) (memory bs ws)
unfolding task_calls execute
ran o bs ws a r e =
    let m = memory bs ws in
    let call = Execute 0 a.image a.number a.level a.reads in
    e ∙ call_last o m call (execute o m 0 a.image a.number a.level a.reads) refl refl (as_call o m call r refl refl)

pub returns-in_default-clause-words_after : goal.returns-in_default-clause-words_after
unfolding turned
returns-in_default-clause-words_after c =
    let a = c.args in
    λ s. turn_none a.order.now a.bytes.now a.words.now _ (no_task s a.text.now a.at c.requires.1 _ (sym c.in_default.ensures))

pub returns-then-not-is_done-clause-words_after : goal.returns-then-not-is_done-clause-words_after
unfolding turned
returns-then-not-is_done-clause-words_after c =
    let a = c.args in
    λ s. turn_stops a.order.now _ _ _ _ (task_calls_law s a.text.now a.at c.requires.1 _ (sym c.in-Ok.ensures)) (ran a.order.now a.bytes.now a.words.now _ c.requires.0 c.execute-verdict.ensures) (failed c.is_done.ensures c.if-not-is_done.true)

pub returns-clause-further : goal.returns-clause-further
returns-clause-further c =
    let a = c.args in
    further a.order.now a.text.now a.at _ _ _ (task_got a.text.now a.at _ (sym c.in-Ok.ensures))
    (turn_ready a.order.now _ _ _ _ (task_calls_law [] a.text.now a.at c.requires.1 _ (sym c.in-Ok.ensures)) (ran a.order.now a.bytes.now a.words.now _ c.requires.0 c.execute-verdict.ensures) c.requires.0)

pub returns-clause-words_after : goal.returns-clause-words_after
unfolding turned
returns-clause-words_after c =
    let a = c.args in
    λ s. turn_goes a.order.now _ _ _ _ (task_calls_law s a.text.now a.at c.requires.1 _ (sym c.in-Ok.ensures)) (ran a.order.now a.bytes.now a.words.now _ c.requires.0 c.execute-verdict.ensures) (passed c.is_done.ensures c.if-not-is_done.false)
