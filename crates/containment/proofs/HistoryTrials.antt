-- Trials of the history around a deleted file, on the state of model/DeleteTrials in which task 1 fed the file 4 and the file fed task 2.
-- Assumes nothing.
use Rattle.std.specs.Prelude.{◌≡◌, refl, Bool, true, false, ℕ}
use Rattle.std.proofs.Common.{sym, subst}
use mathlib.Core.List.{[], ◌∷◌, Memᴰ}
use Rattle.bits.specs.All.{up_to}
use Rattle.bits.specs.Bit.{bit, word_of}
use Rattle.rows.specs.Rows.{cell, add_cell, cut_cell, clear_row, clear_column, clear_thing, join_row, bridged}
use Rattle.records.specs.Records.{field, set_field, set_record, is_task, is_object, within}
use Rattle.model.specs.declared.Call.TheVariants.{Start, Create, Delete, Mark}
use Rattle.model.specs.State.{Memory, in_use, task, object, marked, has_flow}
use Rattle.model.specs.Effects.{make_object, object_of, feeder, fed_by, effect, effects}
use Rattle.model.specs.Events.{delete}
use Rattle.model.specs.Trials.{◌↣◌}
use Rattle.model.specs.DeleteTrials.{filed, recording, shelf, deleted_by}
use Rattle.containment.specs.Lists.{starting, marking, other}
use Rattle.containment.specs.History.{Life, History, nothing, life_of, Trail, from, onward, is_now, Counting, every, direct, counts, joins, ended_by, grown, anew, enters}

infix 75 ◌·◌
abbrev ◌·◌ : ℕ → ℕ → Life
x · before = record { number = x; before = before }

unfoldable pub found : Memory
found = shelf 0 0 0 (1 ↣ 4 ∷ 4 ↣ 2 ∷ [])

-- task 1 deletes the file
unfoldable pub deleted : Memory
deleted = deleted_by 1 found

unfoldable pub after_delete : Counting → History
after_delete k = enters (counts k (Delete 1 0 4 3) found deleted) other found deleted (anew found)

-- and makes another under its number
unfoldable pub remade : Memory
remade = effect (make_object 4 0 0 (within 3) false) deleted

unfoldable pub after_create : Counting → History
after_create k = enters (counts k (Create 1 0 4 3 0) deleted remade) other deleted remade (after_delete k)

-- then a granted mark names task 1
unfoldable pub after_mark : Counting → History
after_mark k = enters (counts k (Mark 1) remade remade) (marking 1) remade remade (after_create k)

-- and then a start leaves this memory
unfoldable pub after_start : Counting → History
after_start k = enters (counts k Start remade remade) starting remade remade (after_mark k)

abbrev is_every : Counting → Bool
is_every every = true
is_every direct = false

abbrev pub Lives : Counting → Type 0
Lives k =
    -- one life of the file is over, and none of the others
    ((after_delete k).ended 4 ≡ 1)
    × ((after_delete k).ended 1 ≡ 0)
    -- its joins stay
    × ((after_mark k).joined (1 · 0) (4 · 0) ≡ true)
    × ((after_mark k).joined (4 · 0) (2 · 0) ≡ true)
    × ((after_mark k).joined (0 · 0) (4 · 0) ≡ true)
    -- what bridging recorded joins only where every flow counts
    × ((after_mark k).joined (1 · 0) (2 · 0) ≡ is_every k)
    -- only its driver is joined to the new one
    × ((after_mark k).joined (0 · 0) (4 · 1) ≡ true)
    × ((after_mark k).joined (1 · 0) (4 · 1) ≡ false)
    × ((after_mark k).joined (4 · 1) (2 · 0) ≡ false)
    -- nothing was joined against a flow, or without one
    × ((after_mark k).joined (2 · 0) (4 · 0) ≡ false)
    × ((after_mark k).joined (1 · 0) (5 · 0) ≡ false)
    -- the mark names the present life
    × ((after_mark k).named ≡ 1 · 0 ∷ [])
    -- with the start all begins anew: what stands then is joined, whoever recorded it, and nothing else is
    × ((after_start k).ended 4 ≡ 0)
    × ((after_start k).joined (1 · 0) (4 · 0) ≡ false)
    × ((after_start k).joined (1 · 0) (2 · 0) ≡ true)
    × ((after_start k).named ≡ [])
    -- a flow of a free number joins nothing
    × ((anew (shelf 0 0 0 (6 ↣ 2 ∷ []))).joined (6 · 0) (2 · 0) ≡ false)

pub lives : (k : Counting) → Lives k
unfolding found deleted after_delete remade after_create after_mark after_start nothing life_of enters counts joins ended_by is_now grown anew up_to deleted_by delete effects effect bridged join_row clear_thing clear_column clear_row cut_cell add_cell shelf filed recording field set_field set_record is_task is_object word_of bit has_flow cell in_use task object marked object_of feeder fed_by
lives every = (refl, refl, refl, refl, refl, refl, refl, refl, refl, refl, refl, refl, refl, refl, refl, refl, refl)
lives direct = (refl, refl, refl, refl, refl, refl, refl, refl, refl, refl, refl, refl, refl, refl, refl, refl, refl)

-- a chain leads from task 1 over the file's first life, which is over, to task 2
pub led : (k : Counting) → Trail (after_mark k) (2 · 0)
led k =
    let t = lives k in
    onward (4 · 0) (2 · 0) (onward (1 · 0) (4 · 0) (from (1 · 0) (subst (Memᴰ (1 · 0)) (sym t.11) (Memᴰ.head refl))) t.2) t.3
