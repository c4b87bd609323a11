-- The line of the marked numbers.
-- Assumes nothing.
use Rattle.std.specs.Prelude.{Bool, cond, List, [], ◌∷◌, ◌++◌, ℕ, zero, suc}
use Rattle.bits.specs.Bit.{in_words}
use Rattle.rows.specs.Size.{numbers}
use Rattle.model.specs.declared.Report.{Report}
use Rattle.script.specs.Script.{space}
use Rattle.script.specs.Print.{decimal, line_feed}

-- marked
unfoldable pub marked_text : List ℕ
marked_text = 109 ∷ 97 ∷ 114 ∷ 107 ∷ 101 ∷ 100 ∷ []

-- those x below k for which p holds, rising, a space before each
unfoldable pub listed : (ℕ → Bool) → ℕ → List ℕ
listed p zero = []
listed p (suc k) = listed p k ++ cond (p k) (space ∷ decimal k) []

-- the report has the bit of x
abbrev pub is_marked : Report → ℕ → Bool
is_marked r x = in_words r.words x

unfoldable pub marked_line : Report → List ℕ
marked_line r = marked_text ++ listed (is_marked r) numbers ++ line_feed ∷ []
