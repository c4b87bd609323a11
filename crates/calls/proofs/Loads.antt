-- A load, by what it meets: a start's rows, the text's form and depth, and then its calls.
-- Assumes nothing.
use mathlib.Core.Path.{◌≡◌, sym, ap, subst, ◌∙◌}
use mathlib.Core.Bool.{true, false}
use mathlib.Core.Logic.{inl, inr}
use mathlib.Core.List.{List}
use Prim.Native.Nat.{ℕ, ◌≤◌, ◌<◌}
use native.Mathlib.Omega.{arith}
use borrow.Author.Tests.{le-leb, lt-leb}
use Rattle.bits.specs.AllLaws.{either}
use Rattle.rows.specs.Size.{present}
use Rattle.levels.specs.declared.Order.{Order}
use Rattle.levels.specs.Order.{order_passes}
use Rattle.layout.specs.Reading.{settled}
use Rattle.model.specs.Verdicts.{slipped, is_done, row_state, row_order}
use Rattle.model.specs.State.{Memory, memory, lengths_fit}
use Rattle.model.specs.Ready.{Ready}
use Rattle.model.specs.Events.{Outcome, left}
use Rattle.model.specs.Monitor.{refusal, started, start}
use Rattle.model.specs.Load.{whole, laid_out, load}
use Rattle.model.proofs.TableLaws.{start_done}
use Rattle.model.proofs.SoundLaws.{started_sound}
use Rattle.model.proofs.ReadyLaws.{sound_ready}
use Rattle.calls.proofs.Rows.{passed, stopped}

-- ---- a load begins as a start

module _ (o : Order) (m : Memory) (t : List ℕ) where
  pub load_laid : lengths_fit m ≡ true → order_passes o ≡ true → laid_out o (settled t) ≡ load o m t
  unfolding load
  load_laid l p = sym (passed _ row_state m _ l ∙ passed _ row_order m _ p)

  -- lent bytes or words of another length
  pub load_unlent : lengths_fit m ≡ false → left row_state 0 m.bytes m.words ≡ load o m t
  unfolding load
  load_unlent l = sym (stopped _ row_state m _ l)

  module _ {v : ℕ} {bs ws : List ℕ} (is : left v 0 bs ws ≡ start o m) where
    pub start_refused : slipped < v → left v 0 bs ws ≡ load o m t
    unfolding start load
    start_refused h =
        elim (either (lengths_fit m)) [
          | inl l ↦
              elim (either (order_passes o)) [
                | inl p ↦ let z = ap (λ (out : Outcome). out.verdict) (is ∙ passed _ row_state m _ l ∙ passed _ row_order m _ p) in absurd (omega arith)
                | inr p ↦ is ∙ passed _ row_state m _ l ∙ stopped _ row_order m _ p ∙ sym (passed _ row_state m _ l ∙ stopped _ row_order m _ p)
              ]
          | inr l ↦ is ∙ stopped _ row_state m _ l ∙ sym (stopped _ row_state m _ l)
        ]

    pub start_made : v ≤ slipped → (lengths_fit m ≡ true) × (order_passes o ≡ true) × (memory bs ws ≡ started o)
    start_made h =
        let d = start_done o m (ap (λ (out : Outcome). is_done out.verdict) (sym is) ∙ le-leb v slipped h) in
        (d.0, d.1, ap (λ (out : Outcome). out.memory) (is ∙ d.2))

-- ---- its calls

-- the state of a start has passed them
pub started_ready : (o : Order) (m : Memory) → order_passes o ≡ true → m ≡ started o → Ready o m.bytes m.words
started_ready o m p e = subst (λ (v : Memory). Ready o v.bytes v.words) (sym e) (sound_ready o (started o) p (started_sound present o p))

-- calls that are all done leave what they made; a refused one leaves the state of a start
module _ (o : Order) {out : Outcome} {v : ℕ} {bs ws : List ℕ} (is : left v 0 bs ws ≡ out) where
  pub whole_done : v ≤ slipped → left v 0 bs ws ≡ whole o out
  unfolding whole
  whole_done l = rw (← is, le-leb v slipped l)

  pub whole_refused : slipped < v → (m : Memory) → m ≡ started o → left v 0 m.bytes m.words ≡ whole o out
  unfolding whole refusal
  whole_refused l m e = rw (← is, lt-leb v slipped l, e)
