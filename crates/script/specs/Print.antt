-- What is printed: a number in decimal, and the line that answers a line.
-- Assumes nothing.
use Rattle.std.specs.Prelude.{◌≡◌, cond, List, [], ◌∷◌, ◌++◌, ℕ, ◌+◌, ◌/◌, ◌%◌, eqb, ltb, take}
use Rattle.script.specs.Script.{space}
use Rattle.script.specs.declared.text.Text.{Text}
use Rattle.script.specs.declared.print.Reply.{Reply}
use Rattle.script.specs.declared.print.Reply.TheVariants.{Bad, Verdict, Rounds}

abbrev pub digit : ℕ → ℕ
digit d = 48 + d

-- a number below 1,000 in decimal, without zeros in front
unfoldable pub decimal : ℕ → List ℕ
decimal n =
    cond (ltb n 10) (digit n ∷ [])
    (cond (ltb n 100) (digit (n / 10) ∷ digit (n % 10) ∷ [])
    (digit (n / 100) ∷ digit (n / 10 % 10) ∷ digit (n % 10) ∷ []))

-- what stands before the first such byte, or all where there is none
unfoldable pub until : ℕ → List ℕ → List ℕ
until stop [] = []
until stop (b ∷ bs) = cond (eqb b stop) [] (b ∷ until stop bs)

-- what ends a line
abbrev pub line_feed : ℕ
line_feed = 10

-- bad; a verdict; a verdict and rounds
unfoldable pub reply_line : Reply → List ℕ
reply_line Bad = 98 ∷ 97 ∷ 100 ∷ line_feed ∷ []
reply_line (Verdict v) = decimal v ++ line_feed ∷ []
reply_line (Rounds v r) = decimal v ++ (space ∷ []) ++ decimal r ++ line_feed ∷ []

-- what a text holds
abbrev pub held : {n : ℕ} → Text n → List ℕ
held t = take t.len t.bytes

-- more text stands behind what was there, as far as there is room
pub record Printed {n : ℕ} (before : Text n) (text : List ℕ) (after : Text n) : Type 0 where
  pub stored : held after ≡ take n (held before ++ text)
