-- The verdicts by the documents' words, in the order of their numbers. All from 2 on are refusals.
-- Assumes nothing.
use Rattle.std.specs.Prelude.{◌≡◌, Bool, ℕ, ◌<◌, leb, Result, MatchResult}
use Rattle.model.specs.declared.Verdict.{Verdict}
use Rattle.model.specs.declared.NoVerdict.{NoVerdict}
use Rattle.model.specs.declared.Verdict.TheVariants as verdicts

abbrev pub granted : ℕ
granted = 0

-- "slipped": the driver is marked, and only what an honest driver enforces does not hold
abbrev pub slipped : ℕ
slipped = 1

abbrev pub row_state : ℕ
row_state = 2

abbrev pub row_order : ℕ
row_order = 3

abbrev pub row_number : ℕ
row_number = 4

abbrev pub row_taken : ℕ
row_taken = 5

abbrev pub row_driver : ℕ
row_driver = 6

abbrev pub row_place : ℕ
row_place = 7

abbrev pub row_held : ℕ
row_held = 8

abbrev pub row_scale : ℕ
row_scale = 9

abbrev pub row_path : ℕ
row_path = 10

abbrev pub row_rule : ℕ
row_rule = 11

abbrev pub row_filled : ℕ
row_filled = 12

abbrev pub row_still : ℕ
row_still = 13

-- document 02: these two stand after row 3, before any call
abbrev pub row_form : ℕ
row_form = 14

abbrev pub row_deep : ℕ
row_deep = 15

-- "feeding": the object is marked and feeds an unmarked thing other than itself; this row stands after row 12
abbrev pub row_feeding : ℕ
row_feeding = 16

-- granted or slipped: the effects are recorded
abbrev pub is_done : ℕ → Bool
is_done v = leb v slipped

-- the number of each verdict of the code
abbrev pub number_of : Verdict → ℕ
number_of verdicts.Granted = granted
number_of verdicts.Slipped = slipped
number_of verdicts.State = row_state
number_of verdicts.Order = row_order
number_of verdicts.Number = row_number
number_of verdicts.Taken = row_taken
number_of verdicts.Driver = row_driver
number_of verdicts.Place = row_place
number_of verdicts.Held = row_held
number_of verdicts.Scale = row_scale
number_of verdicts.Path = row_path
number_of verdicts.Rule = row_rule
number_of verdicts.Filled = row_filled
number_of verdicts.Still = row_still
number_of verdicts.Form = row_form
number_of verdicts.Deep = row_deep
number_of verdicts.Feeding = row_feeding

-- a number read as a verdict: the one of that number, or none, past the last
abbrev pub IsVerdict : ℕ → Result Verdict NoVerdict → Type 0
IsVerdict n r = MatchResult r (λ v. number_of v ≡ n) (λ _. row_feeding < n)
