-- The history of a list, for document 02's deletions: lives, which of them were joined, and which of them granted marks have named, since the state of a
-- start. It is told from the calls of the list and from what they leave; how the spread or the bridging comes to that plays no part.
-- Assumes nothing.
use Rattle.std.specs.Prelude.{◌≡◌, Bool, true, false, not, cond, ◌&&◌, ◌||◌, ℕ, suc, eqb}
use mathlib.Core.List.{List, [], ◌∷◌, Memᴰ}
use Rattle.rows.specs.Size.{Size}
use Rattle.model.specs.declared.Call.{Call}
use Rattle.model.specs.declared.Call.TheVariants.{Start, Read, Write, Execute, Create, CreateRoot, Move, Delete, CallTask, Invoke, Pass, Post, Find, Mark, Step, Spread}
use Rattle.model.specs.Verdicts.{is_done}
use Rattle.model.specs.State.{MemoryOf, in_use, marked, has_flow}
use Rattle.model.specs.Effects.{object_of}
use Rattle.model.specs.Monitor.{perform}
use Rattle.model.specs.Load.{load, past_order}
use Rattle.containment.specs.Lists.{Item, asks, reports, loads, StandingOf, Role, starting, marking, other, role, next, begun}

-- ---- lives

-- a thing from the call that made it to the one that deleted it: a number, and how many lives it had before, since the state of a start
pub record Life : Type 0 where
  pub number : ℕ
  pub before : ℕ

pub record History : Type 0 where
  -- how many lives of the number are over
  pub ended : ℕ → ℕ
  -- the first life was joined to the second, be they over or not
  pub joined : Life → Life → Bool
  -- the lives that granted marks have named
  pub named : List Life

-- no life is over, joined or named
unfoldable pub nothing : History
nothing = record { ended = λ x. 0; joined = λ a b. false; named = [] }

-- the life that the number has now or, if it is free, its next one
unfoldable pub life_of : History → ℕ → Life
life_of h x = record { number = x; before = h.ended x }

-- `Trail h a`: a chain of joins leads to the life a from one that a granted mark named, in whatever order they were joined
pub data Trail (h : History) : Life → Type 0 where
  from : (a : Life) → Memᴰ a h.named → Trail h a
  onward : (a b : Life) → Trail h a → h.joined a b ≡ true → Trail h b

-- a is the life that its number has now or, if it is free, its next one, where `ended` tells how many are over
unfoldable pub is_now : (ℕ → ℕ) → Life → Bool
is_now ended a = eqb a.before (ended a.number)

-- ---- what joins lives

-- which flows join
pub data Counting : Type 0 where
  -- each that stands between things in use: it was recorded in their present lives, since a free number has none (claim FreeBare, for the lists of demand 3)
  every : Counting
  -- each that a call leaves and did not find, but for those that a deletion's bridging recorded
  direct : Counting

module _ {size : Size} where
  -- a flow from u to v that the call recorded, which found m, is its own and none of bridging's. A deletion has one, document 01's, from its asker to its marked driver; all
  -- that another call records is its own
  abbrev pub own_flow : Call → MemoryOf size → ℕ → ℕ → Bool
  own_flow (Delete e d x k) m u v = marked m d && (eqb u e && eqb v d)
  own_flow Start m u v = true
  own_flow (Read e d x) m u v = true
  own_flow (Write e d x) m u v = true
  own_flow (Execute c i k l r) m u v = true
  own_flow (Create c d i k l) m u v = true
  own_flow (CreateRoot c d i l) m u v = true
  own_flow (Move e d x f t) m u v = true
  own_flow (CallTask a b) m u v = true
  own_flow (Invoke a b) m u v = true
  own_flow (Pass z x y) m u v = true
  own_flow (Post x z y) m u v = true
  own_flow (Find x z y) m u v = true
  own_flow (Mark e) m u v = true
  own_flow (Step x) m u v = true
  own_flow Spread m u v = true

  -- the flows that count after the call, which found m and leaves n
  unfoldable pub counts : Counting → Call → MemoryOf size → MemoryOf size → ℕ → ℕ → Bool
  counts every c m n u v = has_flow n u v
  counts direct c m n u v = has_flow n u v && not (has_flow m u v) && own_flow c m u v

  -- x and y are both in use, and a flow that counts leads from x to y, or x is y's driver
  unfoldable pub joins : (ℕ → ℕ → Bool) → MemoryOf size → ℕ → ℕ → Bool
  joins flows n x y = in_use n x && in_use n y && (flows x y || object_of n x y)

  -- ---- one call, which found m and leaves n

  -- a life is over when its number is in use no longer
  unfoldable pub ended_by : MemoryOf size → MemoryOf size → (ℕ → ℕ) → ℕ → ℕ
  ended_by m n ended x = cond (in_use m x && not (in_use n x)) (suc (ended x)) (ended x)

  -- the history after the call: what joins then, by the flows that count, is joined for good; ts are the lives named up to then
  unfoldable pub grown : (ℕ → ℕ → Bool) → MemoryOf size → MemoryOf size → List Life → History → History
  grown flows m n ts h =
      let over = ended_by m n h.ended in
      record {
        ended = over;
        joined = λ a b. h.joined a b || (is_now over a && is_now over b && joins flows n a.number b.number);
        named = ts;
      }

  -- "This history begins anew whenever the state of a start is made, by a load too", with all that joins in what that leaves: the calls of a load delete nothing, so
  -- that is what they joined (claim LoadHistory)
  unfoldable pub anew : MemoryOf size → History
  anew n = grown (has_flow n) n n [] nothing

  -- ---- along a list

  -- after a call of that role that was granted or slipped
  unfoldable pub enters : (ℕ → ℕ → Bool) → Role → MemoryOf size → MemoryOf size → History → History
  enters flows starting m n h = anew n
  enters flows (marking e) m n h = grown flows m n (life_of h e ∷ h.named) h
  enters flows other m n h = grown flows m n h.named h

  -- a refused call, and a report, leave it as it was; so does a load refused with 2 or 3
  unfoldable pub after : Counting → Item → StandingOf size → History → History
  after k (asks o c) s h =
      let n = (perform o s.memory c).memory in
      cond (is_done (perform o s.memory c).verdict) (enters (counts k c s.memory n) (role c) s.memory n h) h
  after k (reports o) s h = h
  after k (loads o t) s h = cond (past_order (load o s.memory t).verdict) (anew (load o s.memory t).memory) h

  unfoldable pub history : Counting → List Item → StandingOf size → History → History
  history k [] s h = h
  history k (i ∷ is) s h = history k is (next i s) (after k i s h)

  -- of the list `is` that the item b begins
  unfoldable pub history_of : Counting → Item → MemoryOf size → List Item → History
  history_of k b m is = history k is (begun b m) (anew (begun b m).memory)
