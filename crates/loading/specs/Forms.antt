-- A form in the text, and what its calls come to.
-- Assumes nothing.
use Rattle.std.specs.Prelude.{◌≡◌, Bool, true, false, Result, Ok, Err, List, ℕ, ◌+◌, ◌≤◌, ◌<◌, length, get_or, drop}
use Rattle.levels.specs.declared.Order.{Order}
use Rattle.layout.specs.Layout.{line_feed, closing}
use Rattle.layout.specs.Answers.{stands_at}
use Rattle.model.specs.declared.Call.{Call}
use Rattle.model.specs.declared.Verdict.{Verdict}
use Rattle.model.specs.Verdicts.{number_of}
use Rattle.model.specs.State.{Memory}
use Rattle.model.specs.Ready.{Ready}
use Rattle.model.specs.Events.{Outcome}
use Rattle.model.specs.Load.{in_turn}

-- a form begins at the place: a task, or an object
abbrev pub FormAt : Bool → List ℕ → ℕ → Type 0
FormAt task t at = (at < length t) × (get_or t at 0 ≡ closing → ⊥) × (get_or t at 0 ≡ line_feed → ⊥) × (stands_at 116 (drop (at + 1) t) ≡ task)

abbrev pub TaskAt : List ℕ → ℕ → Type 0
TaskAt t at = FormAt true t at

abbrev pub ObjectAt : List ℕ → ℕ → Type 0
ObjectAt t at = FormAt false t at

-- the calls that are left after what was made, on a memory; or the end
unfoldable pub turned : {A : Type 0} → Order → (A → List Call) → Result A Verdict → Memory → Outcome
turned o calls (Ok a) m = in_turn o (calls a) m
turned o calls (Err v) m = record { verdict = number_of v; rounds = 0; memory = m }

-- what goes on, goes on further on in the text, and on a memory that is ready
abbrev pub Further : Order → List ℕ → ℕ → ℕ → List ℕ → List ℕ → Type 0
Further o t at end bs ws = (at < end) × (end ≤ length t) × Ready o bs ws
