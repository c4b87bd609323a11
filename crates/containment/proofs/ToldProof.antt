-- The told word does not depend on marks, and verdicts do.
-- Assumes nothing.
use Rattle.std.specs.Prelude.{◌≡◌, refl, true, ℕ}
use Rattle.std.proofs.Common.{sym, ap, subst}
use Rattle.records.specs.Records.{set_field, set_record}
use Rattle.model.specs.State.{Memory}
use Rattle.model.specs.Effects.{with_bytes}
use Rattle.model.specs.Events.{Outcome}
use Rattle.model.specs.Monitor.{started, fitted}
use Rattle.model.specs.Load.{past_order}
use Rattle.model.proofs.TallyLaws.{past_sound}
use Rattle.model.specs.Told.{SameButMarks}
use Rattle.model.proofs.ToldLaws as model
use Rattle.model.proofs.ToldLaws.{one_mark}
use Rattle.model.specs.Trials.{Q, fresh, three_things, trials}
use Rattle.model.specs.DeleteTrials.{filed, scratch, with_file, deletions}
use Rattle.model.proofs.TrialsProved.{trials_hold, deletions_hold}
use Rattle.containment.specs.ToldClaims.{Twins, ToldAlike, VerdictsShowMarks}

pub told_alike : ToldAlike
told_alike size o m n k ts us e c = model.told_alike o m n k.but_marks k.sound_one k.sound_other ts us c e

-- ---- trials of the model, two by two: the first has one mark more

-- judged past row 3, both are sound
pair : (m n : Memory) (x : ℕ) → m ≡ with_bytes n (set_field n.bytes x 5 1) → (d e : Outcome) → past_order (fitted Q m d).verdict ≡ true → past_order (fitted Q n e).verdict ≡ true → Twins Q n m
pair m n x is d e p q =
    record { sound_one = past_sound Q n e q; sound_other = past_sound Q m d p; but_marks = subst (λ (v : Memory). SameButMarks n v) (sym is) (one_mark n x 1) }

pub verdicts_show_marks : VerdictsShowMarks
unfolding past_order trials deletions with_file scratch filed three_things fresh started set_record set_field
verdicts_show_marks = (
  let slips = trials_hold.1.1.1.1.1.1.1.0.gives in
      let refused = trials_hold.1.1.1.1.1.1.0.gives in
      record { order = Q; one = three_things 1 3 0; other = three_things 1 3 1; twins = pair (three_things 1 3 1) (three_things 1 3 0) 3 refl _ _ (ap past_order slips) (ap past_order refused); gives_one = refused; gives_other = slips },
  let feeds = deletions_hold.1.0.gives in
      let deleted = deletions_hold.0.gives in
      record { order = Q; one = with_file 0; other = with_file 1; twins = pair (with_file 1) (with_file 0) 4 refl _ _ (ap past_order feeds) (ap past_order deleted); gives_one = deleted; gives_other = feeds },
)
