-- The power-up layout of document 02: the calls that a layout makes, and the load of a text.
-- Assumes nothing.
use Rattle.std.specs.Prelude.{Bool, cond, not, ◌||◌, List, [], ◌∷◌, ◌++◌, ℕ, eqb, length}
use Rattle.rows.specs.Size.{Size}
use Rattle.levels.specs.declared.Order.{Order}
use Rattle.levels.specs.Order.{order_passes}
use Rattle.layout.specs.Layout.{Objects, none, object, Form, root, task, Layout}
use Rattle.layout.specs.Reading.{Settled, fits, broken, deep, settled}
use Rattle.model.specs.Verdicts.{granted, is_done, row_state, row_order, row_form, row_deep}
use Rattle.model.specs.State.{MemoryOf, lengths_fit}
use Rattle.model.specs.Events.{OutcomeOf}
use Rattle.model.specs.Monitor.{refusal, refused_unless, started, perform}
use Rattle.model.specs.declared.Call.{Call}
use Rattle.model.specs.declared.Call.TheVariants.{Write, Execute, Create, CreateRoot}
use Rattle.model.specs.declared.Checked.{Checked}

-- ---- the calls of a layout, by the core, in file order

-- an object's own call stands before those of what it holds. Before a create in the container c, of driver d, the core and then the new object's
-- driver each write to c through d
unfoldable pub inner_calls : ℕ → ℕ → Objects → List Call
inner_calls c d none = []
inner_calls c d (object h inner next) =
    Write 0 d c ∷ Write h.driver d c ∷ Create 0 h.driver h.number c h.level ∷ inner_calls h.number h.driver inner ++ inner_calls c d next

unfoldable pub form_calls : Form → List Call
form_calls (root h inner) = CreateRoot 0 h.driver h.number h.level ∷ inner_calls h.number h.driver inner
form_calls (task a) = Execute 0 a.image a.number a.level a.reads ∷ []

unfoldable pub layout_calls : Layout → List Call
layout_calls [] = []
layout_calls (f ∷ fs) = form_calls f ++ layout_calls fs

-- ---- on a memory of either size

module _ {size : Size} where
  -- one call after the other, up to the first that is refused
  unfoldable pub in_turn : Order → List Call → MemoryOf size → OutcomeOf size
  in_turn o [] m = record { verdict = granted; rounds = 0; memory = m }
  in_turn o (c ∷ cs) m = cond (is_done (perform o m c).verdict) (in_turn o cs (perform o m c).memory) (perform o m c)

  -- a refused call ends the work: its number is given, and the state of a start is left
  unfoldable pub whole : Order → OutcomeOf size → OutcomeOf size
  whole o out = cond (is_done out.verdict) out (refusal out.verdict (started o))

  -- form first, then depth, then the calls on the state of a start
  unfoldable pub laid_out : Order → Settled → OutcomeOf size
  laid_out o (fits f) = whole o (in_turn o (layout_calls f) (started o))
  laid_out o (broken place) = refusal row_form (started o)
  laid_out o (deep place) = refusal row_deep (started o)

  -- as a start, it tests only lengths for 2, then the order; and then the text
  unfoldable pub load : Order → MemoryOf size → List ℕ → OutcomeOf size
  load o m t = refused_unless (lengths_fit m) row_state m (refused_unless (order_passes o) row_order m (laid_out o (settled t)))

-- the verdict is neither 2 nor 3. A load of such a verdict has got past these rows and made the state of a start, refused or not: no call of a layout gives 2 or 3
unfoldable pub past_order : ℕ → Bool
past_order v = not (eqb v row_state || eqb v row_order)

-- ---- what a text alone settles: an addition to document 02, for whoever is told 14 or 15

-- 0, 14 or 15 as the load would give it before any call, with the place of the fault; with 0, the text's end
unfoldable pub checked : List ℕ → Settled → Checked
checked t (fits f) = record { verdict = granted; offset = length t }
checked t (broken place) = record { verdict = row_form; offset = place }
checked t (deep place) = record { verdict = row_deep; offset = place }

unfoldable pub layout_checked : List ℕ → Checked
layout_checked t = checked t (settled t)
