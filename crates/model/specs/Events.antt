-- The events of document 01, move and delete as document 02 amends them. Each is a table: its tests in the order of the rows of the verdicts, what only an honest driver enforces, and its effects.
-- Assumes nothing.
use Rattle.std.specs.Prelude.{Bool, true, not, cond, ◌&&◌, ◌||◌, List, [], ◌∷◌, ℕ, ltb, eqb}
use Rattle.bits.specs.All.{any_b}
use Rattle.levels.specs.declared.Order.{Order}
use Rattle.levels.specs.Order.{at_or_below, in_order}
use Rattle.rows.specs.Size.{Size, present, numbers_of}
use Rattle.records.specs.Records.{Place, root, within}
use Rattle.model.specs.Verdicts.{granted, slipped, is_done, row_number, row_taken, row_driver, row_place, row_held, row_scale, row_path, row_rule, row_filled, row_still, row_feeding}
use Rattle.model.specs.State.{MemoryOf, memory, in_use, task, object, level_of, read_level_of, driver_of, lies_in, marked, has_flow, has_read, has_write}
use Rattle.model.specs.Inside.{inside}
use Rattle.model.specs.Effects.{Effect, flow, flow_if, read_access, write_access, make_task, make_object, move_to, bridge, clear, mark_outside, mark_thing, fed_by, effects}

-- a row of the table of verdicts, and what has to hold for it not to apply
pub data Test : Type 0 where
  need : ℕ → Bool → Test

pub record Event : Type 0 where
  pub tests : List Test
  -- "honest": the test that only an honest driver enforces; true where the event has none
  pub honest : Bool
  pub effects : List Effect

-- ---- from a table to an outcome

-- what a call on a memory of a size answers and leaves
pub record OutcomeOf (size : Size) : Type 0 where
  pub verdict : ℕ
  pub rounds : ℕ
  pub memory : MemoryOf size

-- of the size in use
abbrev pub Outcome : Type 0
Outcome = OutcomeOf present

-- what a contract says of a verdict, of rounds and of what is left of the bytes and the words
abbrev pub left : ℕ → ℕ → List ℕ → List ℕ → Outcome
left v n bs ws = record { verdict = v; rounds = n; memory = memory bs ws }

unfoldable pub unless : Bool → ℕ → ℕ → ℕ
unless ok n rest = cond ok rest n

-- the topmost row that applies, or else `last`
unfoldable pub first_failing : List Test → ℕ → ℕ
first_failing [] last = last
first_failing (need n ok ∷ rest) last = unless ok n (first_failing rest last)

unfoldable pub verdict_of : Event → ℕ
verdict_of e = first_failing e.tests (unless e.honest slipped granted)

-- granted or slipped, the effects are recorded; a refusal keeps bytes and words
unfoldable pub outcome : {size : Size} → MemoryOf size → Event → OutcomeOf size
outcome m e = record { verdict = verdict_of e; rounds = 0; memory = cond (is_done (verdict_of e)) (effects e.effects m) m }

-- ---- row 16, of document 02

-- x is marked and feeds an unmarked thing; `fed_by` leaves x itself out
unfoldable pub feeds_unmarked : {size : Size} → MemoryOf size → ℕ → Bool
feeds_unmarked {size} m x = marked m x && any_b (numbers_of size) (λ y. fed_by m x y && not (marked m y))

-- ---- the events, under an order and on a memory of either size
module _ {size : Size} (o : Order) (m : MemoryOf size) where
  infix 40 ◌⊑◌
  -- a ≤ b of document 01
  abbrev ◌⊑◌ : ℕ → ℕ → Bool
  a ⊑ b = at_or_below o a b

  abbrev L : ℕ → ℕ
  L x = level_of m x

  abbrev R : ℕ → ℕ
  R x = read_level_of m x

  -- a new number is one of the numbers, and free
  abbrev fits : ℕ → Bool
  fits n = ltb n (numbers_of size)

  abbrev free : ℕ → Bool
  free n = not (in_use m n)

  unfoldable pub read : ℕ → ℕ → ℕ → Event
  read e d x =
      let honest = L e ⊑ L x || R e ⊑ L x in
      record {
        tests =
            need row_number (task m e && task m d && object m x)
            ∷ need row_driver (eqb (driver_of m x) d)
            ∷ need row_path (L e ⊑ L d || R e ⊑ L d)
            ∷ need row_rule (honest || marked m d)
            ∷ need row_rule (L x ⊑ L d)
            ∷ [];
        honest = honest;
        effects =
            read_access e x
            ∷ flow_if (not (marked m d) && (marked m e || (L e ⊑ L x && L e ⊑ L d))) x e
            ∷ flow_if (marked m d && (marked m e || L e ⊑ L d)) x e
            ∷ flow_if (marked m d && (marked m e || L e ⊑ L d)) d e
            ∷ [];
      }

  unfoldable pub write : ℕ → ℕ → ℕ → Event
  write e d x =
      let honest = L x ⊑ L e in
      record {
        tests =
            need row_number (task m e && task m d && object m x)
            ∷ need row_driver (eqb (driver_of m x) d)
            ∷ need row_rule (honest || marked m d)
            ∷ need row_rule (L x ⊑ L d)
            ∷ [];
        honest = honest;
        effects = write_access e x ∷ flow e x ∷ flow_if (marked m d) e d ∷ [];
      }

  -- a new task n from the image i, asked for by c, at level l and read level r
  unfoldable pub execute : ℕ → ℕ → ℕ → ℕ → ℕ → Event
  execute c i n l r =
      record {
        tests =
            need row_number (task m c && object m i && fits n)
            ∷ need row_taken (free n)
            ∷ need row_scale (in_order o l && in_order o r)
            ∷ need row_rule (l ⊑ L i && r ⊑ l)
            ∷ [];
        honest = true;
        effects = make_task n l r ∷ flow_if (marked m i) i n ∷ [];
      }

  -- a new object n of the driver d, asked for by c; with the driver marked, it is marked, and the creator's flows are recorded
  abbrev created : ℕ → ℕ → ℕ → Place → ℕ → List Effect
  created c d n p l = make_object n l d p (marked m d) ∷ flow_if (marked m d) c n ∷ flow_if (marked m d) c d ∷ []

  -- in the container k
  unfoldable pub create : ℕ → ℕ → ℕ → ℕ → ℕ → Event
  create c d n k l =
      record {
        tests =
            need row_number (task m c && task m d && fits n && object m k)
            ∷ need row_taken (free n)
            ∷ need row_held (has_write m c k && has_write m d k)
            ∷ need row_scale (in_order o l)
            ∷ need row_rule (l ⊑ L c && l ⊑ L k && l ⊑ L d)
            ∷ [];
        honest = true;
        effects = created c d n (within k) l;
      }

  -- the same without a container
  unfoldable pub create_root : ℕ → ℕ → ℕ → ℕ → Event
  create_root c d n l =
      record {
        tests =
            need row_number (task m c && task m d && fits n)
            ∷ need row_taken (free n)
            ∷ need row_scale (in_order o l)
            ∷ need row_rule (l ⊑ L c && l ⊑ L d)
            ∷ [];
        honest = true;
        effects = created c d n root l;
      }

  -- the object x goes from the container f to the container t, which does not lie anywhere inside x (document 02)
  unfoldable pub move : ℕ → ℕ → ℕ → ℕ → ℕ → Event
  move e d x f t =
      let honest = L x ⊑ L e in
      record {
        tests =
            need row_number (task m e && task m d && object m x && object m f && object m t)
            ∷ need row_driver (eqb (driver_of m x) d)
            ∷ need row_place (not (eqb x f) && not (eqb x t) && not (eqb f t) && lies_in m x f && not (inside m t x))
            ∷ need row_held (has_write m e f && has_write m e t && has_write m d f && has_write m d t)
            ∷ need row_rule (honest || marked m d)
            ∷ need row_rule (L x ⊑ L d && L x ⊑ L t)
            ∷ [];
        honest = honest;
        effects = move_to x t ∷ flow_if (marked m d) e x ∷ flow_if (marked m d) e d ∷ [];
      }

  -- the object x, in its container k; what fed it, and its driver, goes on to feed what it fed (document 02)
  unfoldable pub delete : ℕ → ℕ → ℕ → ℕ → Event
  delete e d x k =
      record {
        tests =
            need row_number (task m e && task m d && object m x && object m k)
            ∷ need row_driver (eqb (driver_of m x) d)
            ∷ need row_place (lies_in m x k)
            ∷ need row_held (has_write m e k && has_write m d k)
            ∷ need row_rule (L x ⊑ L e && L x ⊑ L d)
            ∷ need row_filled (not (any_b (numbers_of size) (λ y. object m y && lies_in m y x)))
            ∷ need row_feeding (not (feeds_unmarked m x))
            ∷ [];
        honest = true;
        effects = bridge x ∷ clear x ∷ flow_if (marked m d) e d ∷ [];
      }

  -- the task a calls the task b
  unfoldable pub call_task : ℕ → ℕ → Event
  call_task a b =
      record {
        tests =
            need row_number (task m a && task m b)
            ∷ need row_path (L a ⊑ L b || R a ⊑ L b)
            ∷ [];
        honest = true;
        effects =
            flow_if (marked m a || L a ⊑ L b) b a
            ∷ flow_if ((marked m a || L a ⊑ L b) && marked m b) a b
            ∷ [];
      }

  -- the task a invokes the task b
  unfoldable pub invoke : ℕ → ℕ → Event
  invoke a b =
      record {
        tests =
            need row_number (task m a && task m b)
            ∷ need row_rule (L b ⊑ L a)
            ∷ [];
        honest = true;
        effects = flow a b ∷ flow_if (marked m a) b a ∷ [];
      }

  -- "risky": the task z's read of the object x got past x, or past x's driver, by the read level alone
  unfoldable pub risky : ℕ → ℕ → Bool
  risky z x =
      (not (L z ⊑ L x) && R z ⊑ L x)
      || (not (L z ⊑ L (driver_of m x)) && R z ⊑ L (driver_of m x))

  unfoldable pub pass : ℕ → ℕ → ℕ → Event
  pass z x y =
      record {
        tests =
            need row_number (task m z && object m x && in_use m y)
            ∷ need row_place (not (eqb y x))
            ∷ need row_held (has_flow m z y && has_read m z x)
            ∷ need row_rule (not (risky z x) || marked m z)
            ∷ [];
        honest = true;
        effects = flow x y ∷ [];
      }

  unfoldable pub post : ℕ → ℕ → ℕ → Event
  post x z y =
      record {
        tests =
            need row_number (task m x && object m z && task m y)
            ∷ need row_place (not (eqb x y))
            ∷ need row_held (has_flow m x z && has_read m y z)
            ∷ need row_rule (not (risky y z) || marked m y)
            ∷ [];
        honest = true;
        effects = flow x y ∷ [];
      }

  unfoldable pub find : ℕ → ℕ → ℕ → Event
  find x z y =
      record {
        tests =
            need row_number (task m x && task m z && in_use m y)
            ∷ need row_place (not (eqb x y))
            ∷ need row_held (has_flow m x z && has_flow m z y)
            ∷ [];
        honest = true;
        effects = flow x y ∷ [];
      }

  unfoldable pub mark : ℕ → Event
  mark e = record { tests = need row_number (task m e) ∷ []; honest = true; effects = mark_outside e ∷ [] }

  -- a marked thing has a flow to x
  unfoldable pub fed : ℕ → Bool
  fed x = any_b (numbers_of size) (λ y. marked m y && has_flow m y x)

  unfoldable pub step : ℕ → Event
  step x =
      record {
        tests = need row_number (in_use m x) ∷ need row_still (not (marked m x) && fed x) ∷ [];
        honest = true;
        effects = mark_thing x ∷ [];
      }
