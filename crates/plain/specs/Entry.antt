-- The number that has to stand in the decision table for a setting of an operation, both of them numbers.
-- Assumes nothing.
use Rattle.std.specs.Prelude.{cond, ◌&&◌, ℕ, ltb}
use Rattle.table.specs.Table.{settings, entry_at, operations, operation_at}

-- what is answered where there is no such operation or no such setting: no entry is as great
abbrev pub no_entry : ℕ
no_entry = 255

-- the number of what the plain rules decide on the facts of the setting
unfoldable pub entry_for : ℕ → ℕ → ℕ
entry_for n s = cond (ltb n operations && ltb s settings) (entry_at (operation_at n) s) no_entry
