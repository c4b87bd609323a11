-- What the reader's answer to a text tells: what the text settles, the places of its faults, and a load of it past row 3.
-- Assumes nothing.
use Rattle.std.specs.Prelude.{◌≡◌, refl, Bool, true, false, Ok, Err, ◌⊎◌, ℕ, ◌≤◌, ltb, length}
use Rattle.std.proofs.Common.{sym, ◌∙◌, inl, inr, arith, ltb-false}
use Rattle.std.proofs.Math.Path.{ap}
use mathlib.Core.List.{List}
use Rattle.levels.specs.declared.Order.{Order}
use Rattle.layout.specs.Layout.{Layout, most_bytes}
use Rattle.layout.specs.Reading.{Settled, fits, broken, deep, settled}
use Rattle.layout.specs.Answers.{text_answer}
use Rattle.layout.proofs.Proved.{settles_all, place_within}
use Rattle.layout.specs.declared.Fault.TheVariants.{Broken, Deep}
use Rattle.model.specs.declared.Call.{Call}
use Rattle.model.specs.Verdicts.{row_form, row_deep}
use Rattle.model.specs.Events.{Outcome}
use Rattle.model.specs.Monitor.{refusal, started}
use Rattle.model.specs.Load.{in_turn, whole, laid_out}
use Rattle.loading.specs.Calls.{calls_in}
use Rattle.loading.specs.CallsLaws.{layout_calls_law}

-- ---- what the text settles

pub told_fits : (r : Settled) → text_answer r ≡ Ok tt → (f : Layout) × (r ≡ fits f)
unfolding text_answer
told_fits (fits f) e = (f, refl)
told_fits (broken p) e = absurd (cc)
told_fits (deep p) e = absurd (cc)

pub told_broken : (r : Settled) (place : ℕ) → text_answer r ≡ Err (Broken place) → r ≡ broken place
unfolding text_answer
told_broken (fits f) place e = absurd (cc)
told_broken (broken p) place e = let q : p ≡ place = cc in ap broken q
told_broken (deep p) place e = absurd (cc)

pub told_deep : (r : Settled) (place : ℕ) → text_answer r ≡ Err (Deep place) → r ≡ deep place
unfolding text_answer
told_deep (fits f) place e = absurd (cc)
told_deep (broken p) place e = absurd (cc)
told_deep (deep p) place e = let q : p ≡ place = cc in ap deep q

-- the place of a fault is at most 16,384
pub place_small : (t : List ℕ) (place : ℕ) → (settled t ≡ broken place) ⊎ (settled t ≡ deep place) → place ≤ most_bytes
place_small t place e = go (ltb most_bytes (length t)) refl
  where
    long : ltb most_bytes (length t) ≡ true → settled t ≡ broken most_bytes
    long h = unfold settled in (rw h)

    go : (y : Bool) → ltb most_bytes (length t) ≡ y → place ≤ most_bytes
    go true h = at_most (long h) e
      where
        at_most : settled t ≡ broken most_bytes → (settled t ≡ broken place) ⊎ (settled t ≡ deep place) → place ≤ most_bytes
        at_most p (inl q) = let z : most_bytes ≡ place = cc in omega arith
        at_most p (inr q) = let z : ◌≡◌ {A = ℕ} 0 1 = cc in absurd (omega arith)
    go false h = omega (arith, place_within t place e, ltb-false most_bytes (length t) h)

-- ---- a load of it

module _ (o : Order) (t : List ℕ) where
  -- the calls are the layout's
  pub settled_fits : text_answer (settled t) ≡ Ok tt → ◌≡◌ {A = Outcome} (laid_out o (settled t)) (whole o (in_turn o (calls_in t) (started o)))
  unfolding laid_out
  settled_fits e =
      let f = told_fits (settled t) e in
      let q = (settles_all t f.0).0 f.1 in
      rw f.1 (ap (λ (cs : List Call). whole o (in_turn o cs (started o))) (sym (layout_calls_law f.0 q.0 q.2) ∙ ap calls_in q.1))

  pub settled_broken : (place : ℕ) → text_answer (settled t) ≡ Err (Broken place) → ◌≡◌ {A = Outcome} (laid_out o (settled t)) (refusal row_form (started o))
  unfolding laid_out
  settled_broken place e = rw (told_broken (settled t) place e)

  pub settled_deep : (place : ℕ) → text_answer (settled t) ≡ Err (Deep place) → ◌≡◌ {A = Outcome} (laid_out o (settled t)) (refusal row_deep (started o))
  unfolding laid_out
  settled_deep place e = rw (told_deep (settled t) place e)
