-- Rows 2 and 3 of the table, as a function that leaves at them meets them.
-- Assumes nothing.
use mathlib.Core.Path.{◌≡◌, refl, sym, ap, subst, ◌∙◌}
use mathlib.Core.Bool.{Bool, true, false, ◌&&◌}
use mathlib.Core.List.{List, [], ◌∷◌}
use mathlib.Core.Logic.{inl, inr}
use lib.ListN.{length}
use Prim.Native.Nat.{ℕ}
use native.Mathlib.Omega.{arith}
use lib.Dec.{eqb, ltb}
use borrow.Author.Tests.{eq-eqb, ne_eqb, ltb-true}
use types.Run.{OneOf}
use denote.Enum.Declared.{tag_of}
use Rattle.bits.specs.AllLaws.{and_i, and_l, and_r, and-false}
use Rattle.rows.specs.Size.{present, lent_words, WordsLent}
use Rattle.levels.specs.declared.Order.{Order}
use Rattle.levels.specs.Order.{order_passes}
use Rattle.records.specs.Records.{lent_bytes, BytesLent, sound}
use Rattle.model.specs.declared.Verdict.{Verdict}
use Rattle.model.specs.Verdicts.{row_state, row_order, number_of}
use Rattle.model.specs.State.{Memory, lengths_fit}
use Rattle.model.specs.Ready.{Ready}
use Rattle.model.specs.Events.{Outcome, left}
use Rattle.model.specs.Monitor.{perform, start, fitted, refusal, refused_unless}
use Rattle.model.proofs.TableLaws.{by_call}
use Rattle.model.proofs.ReadyLaws.{through}
use Rattle.model.specs.contracts.Call.{the_type as the_call}
use Rattle.model.specs.declared.Call.{Call}
use Rattle.model.specs.declared.Call.TheVariants.{Start, Read, Write, Execute, Create, CreateRoot, Move, Delete, CallTask, Invoke, Pass, Post, Find, Mark, Step, Spread}

-- ---- the lengths, which are arrays' once they have been tested

module _ (m : Memory) where
  pub lengths_right : BytesLent m.bytes → WordsLent m.words → lengths_fit m ≡ true
  unfolding lengths_fit
  lengths_right b w = and_i (eq-eqb _ _ b) (eq-eqb _ _ w)

  pub bytes_wrong : (BytesLent m.bytes → ⊥) → lengths_fit m ≡ false
  unfolding lengths_fit
  bytes_wrong h = ap (λ b. b && eqb (length m.words) (lent_words present)) (ne_eqb _ _ h)

  pub words_wrong : (WordsLent m.words → ⊥) → lengths_fit m ≡ false
  unfolding lengths_fit
  words_wrong h = let fits = eqb (length m.bytes) (lent_bytes present) in ap (λ b. fits && b) (ne_eqb _ _ h) ∙ and-false fits

-- ---- the rows

pub passed : (ok : Bool) (n : ℕ) (m : Memory) (out : Outcome) → ok ≡ true → refused_unless ok n m out ≡ out
unfolding refused_unless
passed ok n m out e = rw e

pub stopped : (ok : Bool) (n : ℕ) (m : Memory) (out : Outcome) → ok ≡ false → refused_unless ok n m out ≡ record { verdict = n; rounds = 0; memory = m }
unfolding refused_unless refusal
stopped ok n m out e = rw e

-- every call but a start is judged behind rows 2 and 3
pub judged : (o : Order) (m : Memory) (c : Call) → (c ≡ Start → ⊥) → (out : Outcome) × (perform o m c ≡ fitted o m out)
judged o m Start h = absurd (h refl)
judged o m (Read e d x) h = (_, refl)
judged o m (Write e d x) h = (_, refl)
judged o m (Execute c i n l r) h = (_, refl)
judged o m (Create c d n k l) h = (_, refl)
judged o m (CreateRoot c d n l) h = (_, refl)
judged o m (Move e d x f t) h = (_, refl)
judged o m (Delete e d x k) h = (_, refl)
judged o m (CallTask a b) h = (_, refl)
judged o m (Invoke a b) h = (_, refl)
judged o m (Pass z x y) h = (_, refl)
judged o m (Post x z y) h = (_, refl)
judged o m (Find x z y) h = (_, refl)
judged o m (Mark e) h = (_, refl)
judged o m (Step x) h = (_, refl)
judged o m Spread h = (_, refl)

module _ (o : Order) (m : Memory) (c : Call) where
  -- lengths that do not fit are refused with 2, whatever the call
  pub unlent : lengths_fit m ≡ false → perform o m c ≡ record { verdict = row_state; rounds = 0; memory = m }
  unfolding start fitted
  unlent e =
      let f = ap (λ b. b && sound o m.bytes) e in
      by_call (λ out. out ≡ record { verdict = row_state; rounds = 0; memory = m }) o m (stopped _ row_state m _ e) (λ _ _. stopped _ row_state m _ f) (stopped _ row_state m _ f) c

  module _ (later : c ≡ Start → ⊥) where
    pub unfit : sound o m.bytes ≡ false → perform o m c ≡ record { verdict = row_state; rounds = 0; memory = m }
    unfolding fitted
    unfit e = (judged o m c later).1 ∙ stopped _ row_state m _ (ap (λ b. lengths_fit m && b) e ∙ and-false (lengths_fit m))

    pub disordered : lengths_fit m ≡ true → sound o m.bytes ≡ true → order_passes o ≡ false → perform o m c ≡ record { verdict = row_order; rounds = 0; memory = m }
    unfolding fitted
    disordered l s e = (judged o m c later).1 ∙ passed _ row_state m _ (and_i l s) ∙ stopped _ row_order m _ e

-- ---- behind them

-- a verdict of no rounds
pub no_rounds : {out : Outcome} {v w n : ℕ} {bs ws : List ℕ} → (w ≡ v) × (n ≡ 0) → left v 0 bs ws ≡ out → left w n bs ws ≡ out
no_rounds {out} {v} {w} {n} {bs} {ws} p d = (λ i. left (p.0 i) (p.1 i) bs ws) ∙ d

pub plainly : {out : Outcome} {v w : Verdict} {n : ℕ} {bs ws : List ℕ} → (w ≡ v) × (n ≡ 0) → left (number_of v) 0 bs ws ≡ out → left (number_of w) n bs ws ≡ out
plainly p d = no_rounds (ap number_of p.0, p.1) d

-- what a call leaves is its event's outcome, at the constructor that the call is
pub answered : (o : Order) (m : Memory) {call k : Call} {out left : Outcome} → Ready o m.bytes m.words → call ≡ k → perform o m k ≡ fitted o m out → left ≡ out → left ≡ perform o m call
answered o m {call} {k} {out} {left} r c e d = d ∙ through o m out r ∙ sym e ∙ ap (perform o m) (sym c)

-- ---- a start's tag is 0, and no other call's is

positive : List ℕ → Bool
positive [] = true
positive (k ∷ ks) = ltb 0 k && positive ks

absent : (ks : List ℕ) → positive ks ≡ true → OneOf ks 0 → ⊥
unfolding positive
absent [] p h = h
absent (k ∷ []) p h = omega (arith, ltb-true 0 k (and_l (ltb 0 k) true p))
absent (k ∷ k' ∷ ks) p (inl e) = omega (arith, ltb-true 0 k (and_l (ltb 0 k) (positive (k' ∷ ks)) p))
absent (k ∷ k' ∷ ks) p (inr h) = absent (k' ∷ ks) (and_r (ltb 0 k) (positive (k' ∷ ks)) p) h

abbrev others : List ℕ
others = 1 ∷ 2 ∷ 3 ∷ 4 ∷ 5 ∷ 6 ∷ 7 ∷ 8 ∷ 9 ∷ 10 ∷ 11 ∷ 12 ∷ 13 ∷ 14 ∷ 15 ∷ []

pub no_start : (call : Call) → OneOf others (tag_of the_call call) → call ≡ Start → ⊥
unfolding positive
no_start call h e = absent others refl (subst (λ (c : Call). OneOf others (tag_of the_call c)) e h)
