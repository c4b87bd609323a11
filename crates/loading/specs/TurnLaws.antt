-- Calls in turn as the code makes them: each on the memory that the one before it left, up to the first that is refused.
-- Assumes nothing.
use Rattle.std.specs.Prelude.{◌≡◌, refl, Bool, true, false, cond, List, [], ◌∷◌, ◌++◌, ℕ, ◌≤◌, ◌<◌}
use Rattle.std.proofs.Common.{sym, ap, subst, ◌∙◌}
use borrow.Author.Tests.{le-leb, lt-leb}
use Rattle.levels.specs.declared.Order.{Order}
use Rattle.model.specs.declared.Call.{Call}
use Rattle.model.specs.Verdicts.{granted, slipped, is_done}
use Rattle.model.specs.State.{Memory, memory}
use Rattle.model.specs.Ready.{Ready}
use Rattle.model.specs.Events.{Test, need, Event, Outcome, left, unless, first_failing, verdict_of, outcome}
use Rattle.model.specs.Monitor.{fitted, perform}
use Rattle.model.specs.Load.{in_turn}
use Rattle.model.proofs.TableLaws.{refusals, Holds, done_tests}
use Rattle.model.proofs.SoundLaws.{Sound}
use Rattle.model.proofs.LoadLaws.{turn_append, turn_sound}
use Rattle.model.proofs.ReadyLaws.{ready_sound, sound_ready, through}

-- ---- one call

-- an event on a memory that has passed rows 2 and 3 is the call
pub as_call : (o : Order) (m : Memory) (c : Call) {out given : Outcome} → Ready o m.bytes m.words → perform o m c ≡ fitted o m out → given ≡ out → given ≡ perform o m c
as_call o m c {out} r e d = d ∙ through o m out r ∙ sym e

-- a call, and those after it
module _ (o : Order) (m : Memory) (c : Call) (cs : List Call) {v : ℕ} {bs ws : List ℕ} (is : left v 0 bs ws ≡ perform o m c) where
  pub call_stops : slipped < v → left v 0 bs ws ≡ in_turn o (c ∷ cs) m
  unfolding in_turn
  call_stops l = rw (← is, lt-leb v slipped l)

  pub call_goes : v ≤ slipped → in_turn o cs (memory bs ws) ≡ in_turn o (c ∷ cs) m
  unfolding in_turn
  call_goes l = rw (← is, le-leb v slipped l)

-- ---- the last call, of an event that asks nothing of an honest driver: it does not slip

all_hold : (ts : List Test) (last : ℕ) → Holds ts → first_failing ts last ≡ last
unfolding first_failing unless
all_hold [] last h = refl
all_hold (need n ok ∷ ts) last h = rw h.0 (all_hold ts last h.1)

granted_then : (e : Event) → e.honest ≡ true → refusals e.tests ≡ true → is_done (verdict_of e) ≡ true → verdict_of e ≡ granted
unfolding verdict_of unless
granted_then e honest r h = all_hold e.tests _ (done_tests e r h) ∙ rw honest

pub call_last : (o : Order) (m : Memory) (c : Call) (e : Event) → e.honest ≡ true → refusals e.tests ≡ true → outcome m e ≡ perform o m c → outcome m e ≡ in_turn o (c ∷ []) m
unfolding in_turn outcome
call_last o m c e honest r is = rw (← is) (go (is_done (verdict_of e)) refl)
  where
    go : (y : Bool) → is_done (verdict_of e) ≡ y → outcome m e ≡ cond y (record { verdict = granted; rounds = 0; memory = (outcome m e).memory }) (outcome m e)
    go true h = ap (λ (v : ℕ). record { verdict = v; rounds = 0; memory = (outcome m e).memory }) (granted_then e honest r h)
    go false h = refl

-- ---- calls, and those after them

module _ (o : Order) (m : Memory) (all cs ds : List Call) (are : all ≡ cs ++ ds) {v : ℕ} {bs ws : List ℕ} (is : left v 0 bs ws ≡ in_turn o cs m) where
  pub turn_stops : slipped < v → left v 0 bs ws ≡ in_turn o all m
  turn_stops l = rw (are, turn_append o cs ds m, ← is, lt-leb v slipped l)

  pub turn_goes : v ≤ slipped → in_turn o ds (memory bs ws) ≡ in_turn o all m
  turn_goes l = rw (are, turn_append o cs ds m, ← is, le-leb v slipped l)

  pub turn_ready : Ready o m.bytes m.words → Ready o bs ws
  turn_ready r = sound_ready o (memory bs ws) r.2 (subst (λ (out : Outcome). Sound o out.memory) (sym is) (turn_sound o cs m (ready_sound o m r)))

-- no more calls
pub turn_none : (o : Order) (bs ws : List ℕ) (all : List Call) → all ≡ [] → left granted 0 bs ws ≡ in_turn o all (memory bs ws)
unfolding in_turn
turn_none o bs ws all e = rw e
