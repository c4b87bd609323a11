-- What the model says of a whole call or load, by its entry.
-- Assumes nothing.
use Rattle.std.specs.Prelude.{◌≡◌, refl, Bool, ◌&&◌, List, ℕ, length}
use Rattle.std.proofs.Math.Path.{ap}
use Rattle.std.proofs.Common.{◌∙◌, eq-eqb, ne_eqb}
use Rattle.std.proofs.Math.Logic.{⊎_elim}
use Rattle.std.proofs.Math.Bool.{cond}
use Rattle.std.proofs.Math.Dec.{eqb}
use Rattle.bits.specs.AllLaws.{either}
use Rattle.rows.specs.Size.{present, numbers}
use Rattle.levels.specs.declared.Order.{Order}
use Rattle.model.specs.declared.Tally.{Tally}
use Rattle.model.specs.declared.Call.{Call}
use Rattle.model.specs.Verdicts.{granted, row_state, number_of}
use Rattle.model.specs.State.{Memory}
use Rattle.model.specs.Events.{Outcome}
use Rattle.model.specs.Monitor.{refused_unless, perform}
use Rattle.model.specs.Load.{load}
use Rattle.model.specs.Tallies.{list_fits, zeroed, raised_at, is_start, counted_on, tallied, with_list, counted, performed, loaded}
use Rattle.tallies.specs.declared.Entry.{Entry}
use Rattle.tallies.specs.Entries.{Enters, entered, entered_as}

-- ---- what is left of a list of another length, and of one that fits

module _ (number : ℕ) (anew : Bool) (verdict : ℕ) (ts : List Tally) where
  pub unfit_kept : (length ts ≡ numbers → ⊥) → ts ≡ entered number anew verdict ts
  unfolding entered list_fits
  unfit_kept h = rw (ne_eqb _ _ h)

  pub fit_entered : length ts ≡ numbers → raised_at number verdict (cond anew (zeroed present) ts) ≡ entered number anew verdict ts
  unfolding entered list_fits
  fit_entered e = rw (eq-eqb _ _ e)

-- an entry is entered by its parts
pub by_parts : (n : Entry) (ts : List Tally) → entered n.number n.anew (number_of n.verdict) ts ≡ entered_as n ts
unfolding entered_as
by_parts n ts = refl

-- ---- an outcome that a list of another length refuses, and its entry in the list. Which record counts, and whether the list begins anew, goes by the verdict

module _ (m : Memory) (ts : List Tally) (out given : Outcome) (n : Entry) (on : ℕ → ℕ) (anew : ℕ → Bool) where
  in_its_list : given ≡ out → number_of n.verdict ≡ given.verdict → Enters n (on (number_of n.verdict)) (anew (number_of n.verdict)) → tallied given (raised_at n.number (number_of n.verdict) (cond n.anew (zeroed present) ts)) ≡ counted (anew out.verdict) (on out.verdict) ts out
  unfolding counted
  in_its_list g v s =
      let w : number_of n.verdict ≡ out.verdict = v ∙ ap (λ (a : Outcome). a.verdict) g in
      let r : n.number ≡ on out.verdict = s.0 ∙ ap on w in
      let z = ap (λ (y : Bool). cond y (zeroed present) ts) (s.1 ∙ ap anew w) in
      λ i. tallied (g i) (raised_at (r i) (w i) (z i))

  pub entered_is : given ≡ refused_unless (eqb (length ts) numbers) row_state m out → number_of n.verdict ≡ given.verdict → Enters n (on (number_of n.verdict)) (anew (number_of n.verdict)) → tallied given (entered_as n ts) ≡ with_list m ts (counted (anew out.verdict) (on out.verdict) ts out)
  unfolding refused_unless list_fits entered entered_as with_list
  entered_is e v s =
      ⊎_elim
      (λ h. rw h (in_its_list (e ∙ rw h) v s))
      (λ h. rw h (ap (λ (a : Outcome). tallied a ts) (e ∙ rw h)))
      (either (eqb (length ts) numbers))

module _ (o : Order) (m : Memory) (ts : List Tally) where
  pub performed_is : (c : Call) (given : Outcome) (n : Entry) → given ≡ refused_unless (eqb (length ts) numbers) row_state m (perform o m c) → number_of n.verdict ≡ given.verdict → Enters n (counted_on m c (number_of n.verdict)) (is_start c && eqb (number_of n.verdict) granted) → tallied given (entered_as n ts) ≡ performed o m ts c
  unfolding performed
  performed_is c given n = entered_is m ts (perform o m c) given n (counted_on m c) (λ v. is_start c && eqb v granted)

  pub loaded_is : (t : List ℕ) (given : Outcome) (n : Entry) → given ≡ refused_unless (eqb (length ts) numbers) row_state m (load o m t) → number_of n.verdict ≡ given.verdict → Enters n 0 (eqb (number_of n.verdict) granted) → tallied given (entered_as n ts) ≡ loaded o m ts t
  unfolding loaded
  loaded_is t given n = entered_is m ts (load o m t) given n (λ v. 0) (λ v. eqb v granted)
