-- How a call is entered in a list of tallies.
-- Assumes nothing.
use Rattle.std.specs.Prelude.{◌≡◌, Bool, cond, List, ℕ, ◌<◌}
use Rattle.rows.specs.Size.{present, numbers}
use Rattle.model.specs.declared.Tally.{Tally}
use Rattle.model.specs.Tallies.{list_fits, zeroed, raised_at}
use Rattle.model.specs.declared.Answer.{Answer}
use Rattle.model.specs.Verdicts.{number_of}
use Rattle.model.specs.Told.{word_of}
use Rattle.tallies.specs.declared.Entry.{Entry}

-- the answer of a call, as C reads it
abbrev pub answer_of : Entry → Answer
answer_of n = record { verdict = number_of n.verdict; rounds = n.rounds; told = word_of n.told }

-- its record is one of a list of the right length
abbrev pub InList : Entry → Type 0
InList n = n.number < numbers

-- it counts on record i, and the list begins anew, or not
abbrev pub Enters : Entry → ℕ → Bool → Type 0
Enters n i anew = (n.number ≡ i) × (n.anew ≡ anew)

-- a verdict counted on a record of the list, which is zeroed first where it begins anew; a list of another length stays as it is
unfoldable pub entered : ℕ → Bool → ℕ → List Tally → List Tally
entered number anew verdict ts = cond (list_fits present ts) (raised_at number verdict (cond anew (zeroed present) ts)) ts

-- as an entry tells them
unfoldable pub entered_as : Entry → List Tally → List Tally
entered_as n ts = entered n.number n.anew (number_of n.verdict) ts
