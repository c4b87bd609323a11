-- What the reader's functions answer for what the definitions read: n is the length of the whole text.
-- Assumes nothing.
use Rattle.std.specs.Prelude.{Bool, true, false, cond, Option, None, Some, Result, Ok, Err, List, [], ◌∷◌, ℕ, ◌+◌, ◌-◌, ltb, eqb, length}
use Rattle.layout.specs.Layout.{Object, Objects, depth_of, Form, form_depth, most_deep}
use Rattle.layout.specs.Reading.{Reading, found, lost, is_digit, Settled, fits, broken, deep}
use Rattle.layout.specs.declared.fields.Found.{Found}
use Rattle.layout.specs.declared.fields.Lost.{Lost}
use Rattle.layout.specs.declared.Fault.{Fault}
use Rattle.layout.specs.declared.Fault.TheVariants.{Broken, Deep}

-- the digit at the head, if there is one
unfoldable pub digit_at : List ℕ → Option ℕ
digit_at [] = None
digit_at (b ∷ t) = cond (is_digit b) (Some (b - 48)) None

-- whether the byte c stands at the head
unfoldable pub stands_at : ℕ → List ℕ → Bool
stands_at c [] = false
stands_at c (b ∷ t) = eqb b c

-- what was read and where it ends, or where the reader leaves
unfoldable pub answer : {A : Type 0} → ℕ → Reading A → Result (Found A) Lost
answer n (found a u) = Ok (record { value = a; end = n - length u })
answer n (lost u) = Err (record { at = n - length u })

-- an object at a level: whether a ninth level stands in it
unfoldable pub object_answer : ℕ → ℕ → Reading (Object × Objects) → Result (Found Bool) Lost
object_answer level n (found f u) = Ok (record { value = ltb most_deep (level + depth_of f.1); end = n - length u })
object_answer level n (lost u) = Err (record { at = n - length u })

-- the objects in one at a level
unfoldable pub objects_answer : ℕ → ℕ → Reading Objects → Result (Found Bool) Lost
objects_answer level n (found fs u) = Ok (record { value = ltb most_deep (level + depth_of fs); end = n - length u })
objects_answer level n (lost u) = Err (record { at = n - length u })

-- an object past the eighth level
unfoldable pub nest_answer : ℕ → Reading (Object × Objects) → Result (Found Bool) Lost
nest_answer n (found f u) = Ok (record { value = true; end = n - length u })
nest_answer n (lost u) = Err (record { at = n - length u })

unfoldable pub form_answer : ℕ → Reading Form → Result (Found Bool) Lost
form_answer n (found f u) = Ok (record { value = ltb most_deep (form_depth f); end = n - length u })
form_answer n (lost u) = Err (record { at = n - length u })

unfoldable pub text_answer : Settled → Result (Unit {0}) Fault
text_answer (fits f) = Ok tt
text_answer (broken place) = Err (Broken place)
text_answer (deep place) = Err (Deep place)
