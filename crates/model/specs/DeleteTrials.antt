-- Scratch files: trials of the amended delete, and of the trail past a deleted file, at the size in use. TrialsProved.antt proves them.
-- Assumes nothing.
use Rattle.std.specs.Prelude.{◌≡◌, Bool, true, false, List, [], ◌∷◌, ℕ, replicate}
use Rattle.rows.specs.Rows.{add_cell}
use Rattle.rows.specs.Size.{present, row_size}
use Rattle.records.specs.Records.{set_record, root, within, container_byte, spare_byte}
use Rattle.model.specs.Verdicts.{row_filled}
use Rattle.model.specs.State.{Memory, memory, flow_row, write_row}
use Rattle.model.specs.Effects.{mark_outside, effect, effects}
use Rattle.model.specs.Events.{verdict_of, feeds_unmarked, delete, fed}
use Rattle.model.specs.declared.Call.TheVariants.{Delete}
use Rattle.model.specs.Trials.{Pair, ◌↣◌, Trial, Q, fresh, trial}

-- ---- a scratch file and what is around it. No list leaves these states: accesses stand without flows, a marked driver has an unmarked file

-- the core, tasks 1, 2 and 5; the folder 3, and in it the scratch file 4, both driven by the core. The core is at level 3, all else at 0. The core, task 2
-- and the file have the marks given; 6 is free
unfoldable pub filed : ℕ → ℕ → ℕ → List ℕ → List ℕ
filed core two file bs =
    let cored = set_record bs 0 1 3 3 0 0 core 0 in
    let tasks = set_record (set_record (set_record cored 1 1 0 0 0 0 0 0) 2 1 0 0 0 0 two 0) 5 1 0 0 0 0 0 0 in
    let folder = set_record tasks 3 2 0 0 0 (container_byte root present) 0 (spare_byte root present) in
    set_record folder 4 2 0 0 0 (container_byte (within 3) present) file (spare_byte (within 3) present)

unfoldable pub recording : List Pair → List ℕ → List ℕ
recording [] ws = ws
recording (p ∷ ps) ws = add_cell row_size (recording ps ws) (flow_row p.source) p.end

-- ---- what a deletion leaves of the flows, computed on no more bytes and words than these seven numbers need: those past the end read as zero

unfoldable pub shelf : ℕ → ℕ → ℕ → List Pair → Memory
shelf core two file flows = memory (filed core two file (replicate 56 0)) (recording flows (replicate 14 0))

-- the effects of the deletion of the file by the task e
unfoldable pub deleted_by : ℕ → Memory → Memory
deleted_by e m = effects (delete Q m e 0 4 3).effects m

abbrev pub Leaves : ℕ → Memory → List Pair → Type 0
Leaves e m flows = (deleted_by e m).words ≡ recording flows (replicate 14 0)

abbrev pub Bridges : Type 0
Bridges =
    -- 1 fed the file and the file fed 2: 1 feeds 2, and so does the driver
    Leaves 1 (shelf 0 0 0 (1 ↣ 4 ∷ 4 ↣ 2 ∷ [])) (1 ↣ 2 ∷ 0 ↣ 2 ∷ [])
    -- what fed it and was fed by it does not feed itself; 5, which did not feed it, keeps its flow and gets none
    × Leaves 1 (shelf 0 0 0 (1 ↣ 4 ∷ 4 ↣ 1 ∷ 2 ↣ 4 ∷ 4 ↣ 2 ∷ 5 ↣ 1 ∷ [])) (1 ↣ 2 ∷ 2 ↣ 1 ∷ 0 ↣ 1 ∷ 0 ↣ 2 ∷ 5 ↣ 1 ∷ [])
    -- nor does the driver; levels play no part
    × Leaves 1 (shelf 0 0 0 (1 ↣ 4 ∷ 4 ↣ 0 ∷ 4 ↣ 2 ∷ [])) (1 ↣ 0 ∷ 1 ↣ 2 ∷ 0 ↣ 2 ∷ [])
    -- a free number neither feeds nor is fed, but its other flows stay; a flow from the file to itself leads nowhere
    × Leaves 1 (shelf 0 0 0 (4 ↣ 4 ∷ 6 ↣ 4 ∷ 4 ↣ 6 ∷ 4 ↣ 2 ∷ 6 ↣ 5 ∷ 5 ↣ 6 ∷ [])) (0 ↣ 2 ∷ 6 ↣ 5 ∷ 5 ↣ 6 ∷ [])
    -- marks play no part
    × Leaves 1 (shelf 0 1 1 (1 ↣ 4 ∷ 4 ↣ 2 ∷ [])) (1 ↣ 2 ∷ 0 ↣ 2 ∷ [])
    -- but with the driver marked the flow of document 01 is recorded besides, also where the driver asks
    × Leaves 1 (shelf 3 0 0 (1 ↣ 4 ∷ 4 ↣ 2 ∷ [])) (1 ↣ 2 ∷ 0 ↣ 2 ∷ 1 ↣ 0 ∷ [])
    × Leaves 0 (shelf 3 0 0 (4 ↣ 2 ∷ [])) (0 ↣ 2 ∷ 0 ↣ 0 ∷ [])

-- ---- row 16

abbrev pub Feeding : Type 0
Feeding =
    -- the file is marked and feeds 2, which is not
    (feeds_unmarked (shelf 0 0 1 (4 ↣ 2 ∷ [])) 4 ≡ true)
    -- the same, with 2 marked
    × (feeds_unmarked (shelf 0 1 1 (4 ↣ 2 ∷ [])) 4 ≡ false)
    -- it feeds only itself, and a free number
    × (feeds_unmarked (shelf 0 0 1 (4 ↣ 4 ∷ 4 ↣ 6 ∷ [])) 4 ≡ false)
    -- the driver is marked and the file is not
    × (feeds_unmarked (shelf 3 0 0 (4 ↣ 2 ∷ [])) 4 ≡ false)

-- ---- the trail past the file: 1 fed it and it fed 2; it is deleted

-- if then the task t is marked, something marked feeds x
unfoldable pub leads : ℕ → ℕ → Bool
leads t x = fed Q (effect (mark_outside t) (deleted_by 1 (shelf 0 0 0 (1 ↣ 4 ∷ 4 ↣ 2 ∷ [])))) x

abbrev pub TrailKept : Type 0
TrailKept =
    -- from 1 to 2, as a chain led there
    (leads 1 2 ≡ true)
    -- but from 1 to no other, and from no other to 2
    × (leads 1 5 ≡ false)
    × (leads 5 2 ≡ false)

-- ---- with accesses: the core and task 1 have write access to the folder

unfoldable pub scratch : List ℕ → ℕ → List Pair → Memory
scratch bs file flows =
    memory (filed 0 0 file bs) (recording flows (add_cell row_size (add_cell row_size fresh.words (write_row present 0) 3) (write_row present 1) 3))

-- with an object 7 in the file
unfoldable pub filling : Memory → Memory
filling m = memory (set_record m.bytes 7 2 0 0 0 (container_byte (within 4) present) 0 (spare_byte (within 4) present)) m.words

-- row 12 comes before row 16, on no more bytes than are needed
abbrev pub FilledFirst : Type 0
FilledFirst = verdict_of (delete Q (filling (scratch (replicate 64 0) 1 (4 ↣ 2 ∷ []))) 1 0 4 3) ≡ row_filled

-- for whole calls: 1 fed the file and it fed 2; the file has the marks given
unfoldable pub with_file : ℕ → Memory
with_file file = scratch fresh.bytes file (1 ↣ 4 ∷ 4 ↣ 2 ∷ [])

unfoldable pub deletions : List Trial
deletions =
    trial Q (with_file 0) (Delete 1 0 4 3) 0 (1 ↣ 2 ∷ 0 ↣ 2 ∷ [])
    -- refused: the marked file feeds 2, which is not marked
    ∷ trial Q (with_file 1) (Delete 1 0 4 3) 16 (1 ↣ 4 ∷ 4 ↣ 2 ∷ [])
    ∷ []
