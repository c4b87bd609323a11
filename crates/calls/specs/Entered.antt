-- What the entry of a call or a load says, with the bytes and words that it leaves: `out` is what it came to.
-- Assumes nothing.
use Rattle.std.specs.Prelude.{◌≡◌, Bool, ◌&&◌, List, ℕ, eqb}
use Rattle.model.specs.declared.Call.{Call}
use Rattle.model.specs.declared.Verdict.{Verdict}
use Rattle.model.specs.Verdicts.{granted, number_of}
use Rattle.model.specs.State.{Memory}
use Rattle.model.specs.Events.{Outcome, left}
use Rattle.model.specs.Tallies.{is_start, counted_on}
use Rattle.model.specs.Told.{no_word, word_of, told}
use Rattle.model.specs.declared.Told.{Told}
use Rattle.model.specs.declared.Told.TheVariants.{Nothing}
use Rattle.tallies.specs.declared.Entry.{Entry}
use Rattle.tallies.specs.Entries.{InList, Enters}

-- of a call on the memory m: it counts on the asker's record, and a granted start begins the list anew
abbrev pub CallEntry : Memory → Call → Outcome → Entry → List ℕ → List ℕ → Type 0
CallEntry m c out r bs ws =
    (left (number_of r.verdict) r.rounds bs ws ≡ out) × Enters r (counted_on m c (number_of r.verdict)) (is_start c && eqb (number_of r.verdict) granted) × InList r

-- with the call's told word
abbrev pub ToldEntry : Memory → Call → Outcome → Entry → List ℕ → List ℕ → Type 0
ToldEntry m c out r bs ws = CallEntry m c out r bs ws × (word_of r.told ≡ told c (number_of r.verdict))

-- an entry, given a word
abbrev pub with_word : Told → Entry → Entry
with_word word r = record { number = r.number; anew = r.anew; verdict = r.verdict; rounds = r.rounds; told = word }

-- before the driver is told
abbrev pub untold : ℕ → Bool → Verdict → ℕ → Entry
untold number anew verdict rounds = record { number = number; anew = anew; verdict = verdict; rounds = rounds; told = Nothing }

-- of a load, which has no word: it counts on record 0, and a granted one begins the list anew
abbrev pub LoadEntry : Outcome → Entry → List ℕ → List ℕ → Type 0
LoadEntry out r bs ws =
    (left (number_of r.verdict) r.rounds bs ws ≡ out) × Enters r 0 (eqb (number_of r.verdict) granted) × InList r × (word_of r.told ≡ no_word)
