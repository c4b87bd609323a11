-- The calls of a text as the code comes upon them: in file order, with the open objects in hand.
-- Assumes nothing.
use Rattle.std.specs.Prelude.{cond, List, [], ◌∷◌, ◌++◌, ℕ, zero, suc, ltb, eqb, length}
use Rattle.layout.specs.Layout.{most_deep, line_feed, closing}
use Rattle.layout.specs.declared.fields.Object.{Object}
use Rattle.layout.specs.declared.fields.Task.{Task}
use Rattle.layout.specs.Reading.{Reading, found, lost, head, task_at}
use Rattle.layout.specs.Answers.{stands_at}
use Rattle.model.specs.declared.Call.{Call}
use Rattle.model.specs.declared.Call.TheVariants.{Write, Execute, Create, CreateRoot}
-- an open object: its own number and its driver's
pub use Rattle.loading.specs.declared.Holder.{Holder}

-- an object's own calls: in the innermost open object, or a root where none is open
unfoldable pub object_calls : List Holder → Object → List Call
object_calls [] h = CreateRoot 0 h.driver h.number h.level ∷ []
object_calls (c ∷ s) h =
    Write 0 c.driver c.number ∷ Write h.driver c.driver c.number ∷ Create 0 h.driver h.number c.number h.level ∷ []

unfoldable pub task_calls : Task → List Call
task_calls a = Execute 0 a.image a.number a.level a.reads ∷ []

-- ---- and then what follows, under the objects that are open there

-- a bracket closes the innermost open object
unfoldable pub closed : List Holder → (List Holder → List Call) → List Call
closed [] k = []
closed (c ∷ s) k = k s

unfoldable pub tasked : Reading Task → (List ℕ → List Call) → List Call
tasked (found a u) k = task_calls a ++ k u
tasked (lost u) k = []

-- an object is open until its bracket; at most eight are
unfoldable pub held : List Holder → Reading Object → (List Holder → List ℕ → List Call) → List Call
held s (found h u) k = cond (ltb (length s) most_deep) (object_calls s h ++ k (record { number = h.number; driver = h.driver } ∷ s) u) []
held s (lost u) k = []

-- at the text's end, or at what is no form, there are no more calls; n bounds the steps
unfoldable pub calls_by : ℕ → List Holder → List ℕ → List Call
calls_by zero s t = []
calls_by (suc n) s [] = []
calls_by (suc n) s (b ∷ t) =
    cond (eqb b closing) (closed s (λ r. calls_by n r t))
    (cond (eqb b line_feed) (calls_by n s t)
    (cond (stands_at 116 t) (tasked (task_at (b ∷ t)) (calls_by n s)) (held s (head (b ∷ t)) (calls_by n))))

-- a step reads a byte, so the text's length is bound enough
abbrev pub calls_from : List Holder → List ℕ → List Call
calls_from s t = calls_by (length t) s t

abbrev pub calls_in : List ℕ → List Call
calls_in t = calls_from [] t
