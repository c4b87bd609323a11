-- The entry of a call or of a load, by the way it was answered.
-- Assumes nothing.
use mathlib.Core.Path.{◌≡◌, refl, sym, ap, ◌∙◌}
use mathlib.Core.Bool.{Bool, true, false, cond, ◌&&◌}
use mathlib.Core.List.{List}
use Prim.Native.Nat.{ℕ, ◌<◌}
use lib.Dec.{eqb}
use borrow.Author.Tests.{eq-eqb, ne_eqb}
use Rattle.bits.specs.AllLaws.{and-false}
use Rattle.rows.specs.Size.{numbers}
use Rattle.levels.specs.declared.Order.{Order}
use Rattle.levels.specs.Order.{order_passes}
use Rattle.records.specs.Records.{sound}
use Rattle.model.specs.declared.Verdict.{Verdict}
use Rattle.model.specs.declared.Call.{Call}
use Rattle.model.specs.declared.Call.TheVariants.{Start}
use Rattle.model.specs.Verdicts.{granted, row_state, row_order, number_of}
use Rattle.model.specs.State.{Memory, lengths_fit}
use Rattle.model.specs.Ready.{Ready}
use Rattle.model.specs.Events.{Outcome, left}
use Rattle.model.specs.Monitor.{refused_unless, start, perform}
use Rattle.model.specs.Load.{past_order}
use Rattle.model.proofs.LoadLaws.{past_rows}
use Rattle.model.proofs.ReadyLaws.{ready_sound}
use Rattle.model.specs.Tallies.{is_start, asker, counted_on}
use Rattle.model.proofs.TallyLaws.{not_start}
use Rattle.model.specs.Told.{no_word, word_of}
use Rattle.tallies.specs.declared.Entry.{Entry}
use Rattle.tallies.specs.Entries.{InList, Enters}
use Rattle.calls.specs.Entered.{CallEntry, LoadEntry, untold}
use Rattle.calls.proofs.Rows.{passed, stopped, no_rounds, unlent, unfit, disordered}

-- what `on_zero` says of its entry
abbrev pub OnZero : Entry → ℕ → Type 0
OnZero r v = (number_of r.verdict ≡ v) × (r.rounds ≡ 0) × Enters r 0 (eqb v granted) × InList r × (word_of r.told ≡ no_word)

either_way : (y : Bool) (n : ℕ) → cond y n n ≡ n
either_way true n = refl
either_way false n = refl

start_on_zero : (m : Memory) (v : ℕ) → counted_on m Start v ≡ 0
unfolding counted_on asker
start_on_zero m v = either_way (past_order v) 0

-- on record 0, where the model says so
on_zero : (m : Memory) (call : Call) {out : Outcome} (r : Entry) {v : ℕ} {bs ws : List ℕ} → OnZero r v → counted_on m call v ≡ 0 → (is_start call && eqb v granted) ≡ eqb v granted → left v 0 bs ws ≡ out → CallEntry m call out r bs ws
on_zero m call r z i a d =
    (no_rounds (z.0, z.1) d, (z.2.0 ∙ sym (ap (counted_on m call) z.0 ∙ i), z.2.1 ∙ sym (ap (λ n. is_start call && eqb n granted) z.0 ∙ a)), z.3)

module _ (o : Order) (m : Memory) (call : Call) where
  pub start_entry : call ≡ Start → (r : Entry) {v : ℕ} {bs ws : List ℕ} → OnZero r v → left v 0 bs ws ≡ start o m → CallEntry m call (perform o m call) r bs ws
  unfolding is_start
  start_entry e r {v = v} z d = on_zero m call r z (ap (λ (c : Call). counted_on m c v) e ∙ start_on_zero m v) (ap (λ (c : Call). is_start c && eqb v granted) e) (d ∙ ap (perform o m) (sym e))

  -- a call that is lent bytes or words of another length
  pub unlent_entry : lengths_fit m ≡ false → (r : Entry) → OnZero r row_state → CallEntry m call (perform o m call) r m.bytes m.words
  unfolding counted_on past_order
  unlent_entry f r z = on_zero m call r z refl (and-false (is_start call)) (sym (unlent o m call f))

  module _ (later : call ≡ Start → ⊥) where
    pub state_entry : sound o m.bytes ≡ false → (r : Entry) → OnZero r row_state → CallEntry m call (perform o m call) r m.bytes m.words
    unfolding counted_on past_order
    state_entry f r z = on_zero m call r z refl (and-false (is_start call)) (sym (unfit o m call later f))

    pub order_entry : lengths_fit m ≡ true → sound o m.bytes ≡ true → order_passes o ≡ false → (r : Entry) → OnZero r row_order → CallEntry m call (perform o m call) r m.bytes m.words
    unfolding counted_on past_order
    order_entry l f p r z = on_zero m call r z refl (and-false (is_start call)) (sym (disordered o m call later l f p))

    -- past rows 2 and 3: on the asker's
    pub event_entry : Ready o m.bytes m.words → (v : Verdict) {n k : ℕ} {bs ws : List ℕ} → left (number_of v) n bs ws ≡ perform o m call → k ≡ asker m call → k < numbers
        → CallEntry m call (perform o m call) (untold k false v n) bs ws
    unfolding counted_on
    event_entry r v {n} {k} d e l =
        let past = past_rows o r.2 m (ready_sound o m r) call in
        let is = ap (λ (out : Outcome). out.verdict) d in
        (d, (e ∙ sym (ap (λ b. cond b (asker m call) 0) (ap past_order is ∙ past)), sym (ap (λ b. b && eqb (number_of v) granted) (not_start call later))), l)

-- ---- by the length of the list

module _ (m : Memory) (lent : ℕ) (out : Outcome) where
  pub fitting : lent ≡ numbers → out ≡ refused_unless (eqb lent numbers) row_state m out
  fitting e = sym (passed (eqb lent numbers) row_state m out (eq-eqb _ _ e))

  pub another : (lent ≡ numbers → ⊥) → left row_state 0 m.bytes m.words ≡ refused_unless (eqb lent numbers) row_state m out
  another e = sym (stopped (eqb lent numbers) row_state m out (ne_eqb _ _ e))

  -- a call that is lent a list of another length
  pub another_entry : (call : Call) → (lent ≡ numbers → ⊥) → (r : Entry) → OnZero r row_state → CallEntry m call (refused_unless (eqb lent numbers) row_state m out) r m.bytes m.words
  unfolding counted_on past_order
  another_entry call e r z = on_zero m call r z refl (and-false (is_start call)) (another e)

-- a load, by what it came to
pub load_entry : {out : Outcome} (r : Entry) {v : ℕ} {bs ws : List ℕ} → OnZero r v → left v 0 bs ws ≡ out → LoadEntry out r bs ws
load_entry r z d = (no_rounds (z.0, z.1) d, (z.2.0, z.2.1 ∙ sym (ap (λ n. eqb n granted) z.0)), z.3, z.4)

-- the length as it was counted
pub counted_length : (m : Memory) (out : Outcome) {k n : ℕ} → k ≡ n → refused_unless (eqb k numbers) row_state m out ≡ refused_unless (eqb n numbers) row_state m out
counted_length m out e = ap (λ l. refused_unless (eqb l numbers) row_state m out) e
