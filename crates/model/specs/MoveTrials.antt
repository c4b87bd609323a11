-- Drawers: trials of the amended move, at the size in use, on one state, which has circles and so is left by no list.
-- Assumes nothing.
use Rattle.std.specs.Prelude.{List, [], ◌∷◌, ℕ}
use Rattle.rows.specs.Rows.{add_cell}
use Rattle.rows.specs.Size.{present, row_size}
use Rattle.records.specs.Records.{set_record, Place, root, within, container_byte, spare_byte}
use Rattle.model.specs.State.{Memory, memory, write_row}
use Rattle.model.specs.declared.Call.TheVariants.{Move}
use Rattle.model.specs.Trials.{Trial, Q, fresh, trial}

-- a drawer, with its number and where it lies
pub record Drawer : Type 0 where
  pub number : ℕ
  pub place : Place

infix 75 ◌in_◌
abbrev ◌in_◌ : ℕ → ℕ → Drawer
n in_ k = record { number = n; place = within k }

abbrev at_root : ℕ → Drawer
at_root n = record { number = n; place = root }

-- each an object of the core's at the top level, to which the core has write access
unfoldable pub holding : List Drawer → Memory
holding [] = fresh
holding (d ∷ ds) =
    let m = holding ds in
    memory (set_record m.bytes d.number 2 3 0 0 (container_byte d.place present) 0 (spare_byte d.place present))
    (add_cell row_size m.words (write_row present 0) d.number)

-- 1 a root, 2 in 1, 3 in 2, 4 in 3; 5 in 1 beside 2; 7 and 8 in one another; 9, 10 and 11 in a circle, and 12 in 11
unfoldable pub drawers : Memory
drawers = holding (at_root 1 ∷ 2 in_ 1 ∷ 3 in_ 2 ∷ 4 in_ 3 ∷ 5 in_ 1 ∷ 7 in_ 8 ∷ 8 in_ 7 ∷ 9 in_ 10 ∷ 10 in_ 11 ∷ 11 in_ 9 ∷ 12 in_ 11 ∷ [])

unfoldable pub moves : List Trial
moves =
    -- into its child, and its grandchild
    trial Q drawers (Move 0 0 2 1 3) 7 []
    ∷ trial Q drawers (Move 0 0 2 1 4) 7 []
    -- into its sibling, and into its container's container
    ∷ trial Q drawers (Move 0 0 2 1 5) 0 []
    ∷ trial Q drawers (Move 0 0 4 3 2) 0 []
    -- into a circle that it is not in, and into what leads to one that it is in
    ∷ trial Q drawers (Move 0 0 2 1 7) 0 []
    ∷ trial Q drawers (Move 0 0 9 10 12) 7 []
    -- out of a circle and into a root: that the old container lies inside it does not matter
    ∷ trial Q drawers (Move 0 0 7 8 1) 0 []
    ∷ []
