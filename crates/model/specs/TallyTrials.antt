-- Trials of the tallies, at the size in use: on whose record a call counts, and what whole calls and loads leave of a list. TallyTrialsProved.antt proves them.
-- Assumes nothing.
use Rattle.std.specs.Prelude.{◌≡◌, List, [], ◌∷◌, map, ℕ, ◌+◌, ◌-◌, replicate, set}
use Rattle.rows.specs.Size.{numbers}
use Rattle.levels.specs.declared.Order.{Order}
use Rattle.model.specs.Verdicts as verdicts
use Rattle.model.specs.Verdicts.{row_state, row_order, row_number, row_rule, row_form}
use Rattle.model.specs.State.{Memory}
use Rattle.model.specs.Tallies.{nothing_counted, counted_on, Tallied, performed, loaded}
use Rattle.model.specs.Trials.{order_of, Q, three_things}
use Rattle.model.specs.declared.Call.{Call}
use Rattle.model.specs.declared.Call.TheVariants.{Start, Read, Write, Execute, Create, CreateRoot, Move, Delete, CallTask, Invoke, Pass, Post, Find, Mark, Step, Spread}
use Rattle.model.specs.declared.Tally.{Tally}

-- task 1 at level 1, object 2 at level 2, and its driver, task 3, at the top
unfoldable pub unmarked : Memory
unmarked = three_things 1 3 0

-- ---- who asks

-- a call of each kind that a task asks for: a comes first, and task 3 is in all other places
unfoldable pub asked_by : ℕ → List Call
asked_by a =
    Read a 3 3
    ∷ Write a 3 3
    ∷ Execute a 3 3 3 3
    ∷ Create a 3 3 3 3
    ∷ CreateRoot a 3 3 3
    ∷ Move a 3 3 3 3
    ∷ Delete a 3 3 3
    ∷ CallTask a 3
    ∷ Invoke a 3
    ∷ Pass a 3 3
    ∷ Post a 3 3
    ∷ Find a 3 3
    ∷ []

-- the records that they count on, each with the verdict v
unfoldable pub counting_on : ℕ → List Call → List ℕ
counting_on v cs = map (λ (c : Call). counted_on unmarked c v) cs

abbrev pub WhoAsks : Type 0
WhoAsks =
    -- task 1, refused for another number: its record
    (counting_on row_number (asked_by 1) ≡ replicate 12 1)
    -- an object, a number that is free, and one past the last
    × (counting_on row_number (asked_by 2) ≡ replicate 12 0)
    × (counting_on row_number (asked_by 4) ≡ replicate 12 0)
    × (counting_on row_number (asked_by numbers) ≡ replicate 12 0)
    -- with 2 and with 3, whoever asks
    × (counting_on row_state (asked_by 1) ≡ replicate 12 0)
    × (counting_on row_order (asked_by 1) ≡ replicate 12 0)
    -- no task asks
    × (counting_on verdicts.granted (Start ∷ Mark 1 ∷ Step 1 ∷ Spread ∷ []) ≡ replicate 4 0)

-- ---- whole calls and loads

abbrev counts : ℕ → ℕ → ℕ → Tally
counts g s r = record { granted = g; slipped = s; refused = r }

-- n records, each of which has counted one call of each kind
unfoldable pub once : ℕ → List Tally
once n = replicate n (counts 1 1 1)

-- the same, but for record i
unfoldable pub once_but : ℕ → Tally → List Tally
once_but i t = set (once numbers) i t

-- nothing, but for one granted call on record 0
unfoldable pub begun_anew : List Tally
begun_anew = set (replicate numbers nothing_counted) 0 (counts 1 0 0)

-- not transitive; its count and its top are those of Q
unfoldable pub unfit : Order
unfit = order_of 4 3 (11 ∷ 14 ∷ 12 ∷ 8 ∷ [])

abbrev Gives : Tallied → ℕ → List Tally → Type 0
Gives done v ts = (done.outcome.verdict ≡ v) × (done.tallies ≡ ts)

abbrev pub TallyTrials : Type 0
TallyTrials =
    -- a start zeroes the list, then counts itself; one that is refused zeroes nothing
    Gives (performed Q unmarked (once numbers) Start) verdicts.granted begun_anew
    × Gives (performed unfit unmarked (once numbers) Start) row_order (once_but 0 (counts 1 1 2))
    -- so does a load
    × Gives (loaded Q unmarked (once numbers) []) verdicts.granted begun_anew
    × Gives (loaded Q unmarked (once numbers) (0x78 ∷ [])) row_form (once_but 0 (counts 1 1 2))
    -- a record too few or too many
    × Gives (performed Q unmarked (once (numbers - 1)) (Write 1 3 2)) row_state (once (numbers - 1))
    × Gives (performed Q unmarked (once (numbers - 1)) Start) row_state (once (numbers - 1))
    × Gives (loaded Q unmarked (once (numbers + 1)) []) row_state (once (numbers + 1))
    -- task 1 is refused a write: its record counts that, and neither the driver's nor the object's
    × Gives (performed Q unmarked (once numbers) (Write 1 3 2)) row_rule (once_but 1 (counts 1 1 2))
