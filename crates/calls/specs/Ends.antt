-- What a whole call and a whole load come to: the contracts of the exports, by either engine, and of `perform` and `load_counts` in this crate cite it.
-- Assumes nothing.
use Rattle.std.specs.Prelude.{◌≡◌, List, ℕ}
use Rattle.levels.specs.declared.Order.{Order}
use Rattle.model.specs.declared.Answer.{Answer}
use Rattle.model.specs.declared.Call.{Call}
use Rattle.model.specs.declared.Tally.{Tally}
use Rattle.model.specs.State.{Memory}
use Rattle.model.specs.Events.{left}
use Rattle.model.specs.Tallies.{Tallied, tallied, performed, loaded}
use Rattle.model.specs.Told.{no_word, told}

-- what is there when a call or a load has ended: the answer, and the lent memory
pub record End : Type 0 where
  pub answer : Answer
  pub bytes : List ℕ
  pub words : List ℕ
  pub tallies : List Tally

abbrev pub ended : Answer → List ℕ → List ℕ → List Tally → End
ended a bs ws ts = record { answer = a; bytes = bs; words = ws; tallies = ts }

-- verdict, rounds, bytes, words and every record of the list, as the model has them together
abbrev pub ends_as : End → Tallied
ends_as z = tallied (left z.answer.verdict z.answer.rounds z.bytes z.words) z.tallies

-- it ends as the model says, and the told word is that of the call and its verdict
abbrev pub Performs : Order → Memory → List Tally → Call → End → Type 0
Performs o m ts c z = (ends_as z ≡ performed o m ts c) × (z.answer.told ≡ told c z.answer.verdict)

-- a load has no word
abbrev pub Loads : Order → Memory → List Tally → List ℕ → End → Type 0
Loads o m ts text z = (ends_as z ≡ loaded o m ts text) × (z.answer.told ≡ no_word)
