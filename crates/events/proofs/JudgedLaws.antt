-- An event's verdict from its decision, the test apart and the rows above.
-- Assumes nothing.
use Rattle.std.proofs.Common.{◌≡◌, Bool, ℕ, sym, ap, ap₂, ◌∙◌}
use Rattle.model.specs.Events.{Event, verdict_of}
use Rattle.decisions.specs.Decisions.{Decision}
use Rattle.decisions.specs.Decisions.{settled, judged, apart}
use Rattle.decisions.specs.DecisionLaws.{judged_is}

-- where the rows above hold the test apart and the decision's verdict, they give the event's verdict
pub apart_is : (e : Event) (f : Decision) (rows : ℕ → ℕ) {below fits : Bool} {d : Decision} {rule v : ℕ} → verdict_of e ≡ rows (apart below f.verdict)
    → d ≡ settled f → fits ≡ below → rule ≡ apart fits d.verdict → v ≡ rows rule
    → record { verdict = v; first = d.first; second = d.second } ≡ judged e (settled f)
apart_is e f rows told is fit r s = judged_is e f is (λ v. s ∙ ap rows (r ∙ ap₂ apart fit v) ∙ sym told)
