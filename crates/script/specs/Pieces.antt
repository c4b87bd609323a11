-- What the reader's parts answer: the first piece, the pieces that follow it, and the numbers that they are.
-- Assumes nothing.
use Rattle.std.specs.Prelude.{cond, Option, Some, None, List, [], ◌∷◌, ℕ, ◌+◌, ltb, eqb, length, drop, set, replicate}
use Rattle.script.specs.Script.{space, pieces, is_number, value}
use Rattle.script.specs.declared.pieces.Found.{Found}
use Rattle.script.specs.declared.pieces.Numbers.{Numbers}

-- what stands before the first space
unfoldable pub first : List ℕ → List ℕ
first [] = []
first (b ∷ bs) = cond (eqb b space) [] (b ∷ first bs)

-- the pieces that follow one which ends here
unfoldable pub afterwards : List ℕ → List (List ℕ)
afterwards [] = []
afterwards (b ∷ bs) = pieces bs

unfoldable pub number_of : List ℕ → Option ℕ
number_of p = cond (is_number p) (Some (value p)) None

unfoldable pub ending_at : Option ℕ → ℕ → Option Found
ending_at (Some v) e = Some (record { value = v; end = e })
ending_at None e = None

-- the number that follows a piece which ends at `at`, and its own end
unfoldable pub number_after : List ℕ → ℕ → Option Found
number_after l at =
    let p = first (drop (at + 1) l) in
    cond (ltb at (length l)) (ending_at (number_of p) (at + 1 + length p)) None

-- room for sixteen
abbrev pub no_values : List ℕ
no_values = replicate 16 0

-- the numbers of the pieces, behind n that stand in the list already
unfoldable pub numbers_from : List ℕ → ℕ → List (List ℕ) → Option Numbers
numbers_from vs n [] = Some (record { values = vs; count = n })
numbers_from vs n (p ∷ ps) = cond (eqb n 16) None (cond (is_number p) (numbers_from (set vs n (value p)) (n + 1) ps) None)
