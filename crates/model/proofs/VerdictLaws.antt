-- Verdicts and their numbers.
-- Assumes nothing.
use Rattle.std.proofs.Common.{◌≡◌, refl, arith}
use Rattle.model.specs.declared.Verdict.{Verdict}
use Rattle.model.specs.declared.Verdict.TheVariants as verdicts
use Rattle.model.specs.Verdicts.{granted, number_of}

-- no other verdict has the number of a grant
pub only_granted : (v : Verdict) → number_of v ≡ granted → v ≡ verdicts.Granted
only_granted verdicts.Granted h = refl
only_granted verdicts.Slipped h = absurd (omega arith)
only_granted verdicts.State h = absurd (omega arith)
only_granted verdicts.Order h = absurd (omega arith)
only_granted verdicts.Number h = absurd (omega arith)
only_granted verdicts.Taken h = absurd (omega arith)
only_granted verdicts.Driver h = absurd (omega arith)
only_granted verdicts.Place h = absurd (omega arith)
only_granted verdicts.Held h = absurd (omega arith)
only_granted verdicts.Scale h = absurd (omega arith)
only_granted verdicts.Path h = absurd (omega arith)
only_granted verdicts.Rule h = absurd (omega arith)
only_granted verdicts.Filled h = absurd (omega arith)
only_granted verdicts.Still h = absurd (omega arith)
only_granted verdicts.Form h = absurd (omega arith)
only_granted verdicts.Deep h = absurd (omega arith)
only_granted verdicts.Feeding h = absurd (omega arith)
