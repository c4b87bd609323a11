-- What rows 2 and 3 leave to an event: the contracts of the code below the public call ask for it.
-- Assumes nothing.
use Rattle.std.specs.Prelude.{◌≡◌, true, List, ℕ}
use Rattle.rows.specs.Size.{WordsLent}
use Rattle.levels.specs.declared.Order.{Order}
use Rattle.levels.specs.Order.{order_passes}
use Rattle.records.specs.Records.{BytesLent, sound}

-- at the size in use, the lengths are right, the order passes, and the bytes are sound under it
abbrev pub Ready : Order → List ℕ → List ℕ → Type 0
Ready o bs ws = BytesLent bs × WordsLent ws × (order_passes o ≡ true) × (sound o bs ≡ true)
