-- What every state reached from a start keeps, and how the limits on levels follow from one another.
-- Assumes nothing.
use Rattle.std.specs.Prelude.{◌≡◌, true, false, not, ◌||◌, ◌⊎◌, ℕ, ◌<◌}
use Rattle.std.proofs.Common.{inl, inr, ⊎_elim}
use mathlib.Core.List.{List, Memᴰ}
use Rattle.std.proofs.lemmas.Bool.{not-true}
use Rattle.bits.specs.AllLaws.{or_cases}
use Rattle.rows.specs.Size.{Size, numbers_of}
use Rattle.levels.specs.declared.Order.{Order}
use Rattle.levels.specs.Order.{at_or_below, order_passes}
use Rattle.levels.specs.OrderLaws.{IsOrder}
use Rattle.records.specs.Records.{marks, sound_of}
use Rattle.model.specs.State.{MemoryOf, lengths_fit, in_use, task, object, level_of, read_level_of, driver_of, marked, has_flow}
use Rattle.model.proofs.StateLaws.{task_used, object_used, marked_below}
use Rattle.model.proofs.EffectLaws.{fit_long}
use Rattle.model.specs.Events.{risky}
use Rattle.model.proofs.RiskLaws.{past_object, past_driver}
use Rattle.containment.specs.Lists.{StandingOf}
use Rattle.containment.specs.Claims.{Covered, Contained}
use Rattle.containment.proofs.Roots.{AllEnd}
use Rattle.containment.proofs.Tables.{Table, flows, reads, writes, has}

-- where a list stands, by its parts
abbrev pub standing : {size : Size} → Order → MemoryOf size → List ℕ → StandingOf size
standing o m ts = record { order = o; memory = m; outside = ts }

-- a flow from x to y is within the limits: y is at or below x, or covered
abbrev pub Ends : {size : Size} → StandingOf size → ℕ → ℕ → Type 0
Ends s x y = (at_or_below s.order (level_of s.memory y) (level_of s.memory x) ≡ true) ⊎ Covered s (level_of s.memory y)

-- what holds of the record of x
pub record Bounded {size : Size} (s : StandingOf size) (x : ℕ) : Type 0 where
  -- an object's driver is a task, at or above it
  pub driver_task : object s.memory x ≡ true → task s.memory (driver_of s.memory x) ≡ true
  pub driver_above : object s.memory x ≡ true → at_or_below s.order (level_of s.memory x) (level_of s.memory (driver_of s.memory x)) ≡ true
  -- an object of a marked driver is marked, and what is marked is covered
  pub driven_marked : object s.memory x ≡ true → marked s.memory (driver_of s.memory x) ≡ true → marked s.memory x ≡ true
  pub mark_covered : marked s.memory x ≡ true → Covered s (level_of s.memory x)

-- the read access of z to x passed the path test, and the honest test unless x's driver is marked
pub record MayRead {size : Size} (s : StandingOf size) (z x : ℕ) : Type 0 where
  pub reader : task s.memory z ≡ true
  pub source : object s.memory x ≡ true
  pub path : (at_or_below s.order (level_of s.memory z) (level_of s.memory (driver_of s.memory x))
      || at_or_below s.order (read_level_of s.memory z) (level_of s.memory (driver_of s.memory x))) ≡ true
  pub honest : (at_or_below s.order (level_of s.memory z) (level_of s.memory x)
      || at_or_below s.order (read_level_of s.memory z) (level_of s.memory x)
      || marked s.memory (driver_of s.memory x)) ≡ true

module _ {size : Size} where
  -- a recorded flow joins things in use, within the limits
  abbrev pub MayFlow : StandingOf size → ℕ → ℕ → Type 0
  MayFlow s x y = (in_use s.memory x ≡ true) × (in_use s.memory y ≡ true) × Ends s x y

  -- both are in use
  abbrev pub Joined : MemoryOf size → ℕ → ℕ → Type 0
  Joined m x y = (in_use m x ≡ true) × (in_use m y ≡ true)

  -- what the limits ask of what is recorded: of a write access only that it joins things in use
  abbrev pub May : StandingOf size → Table → ℕ → ℕ → Type 0
  May s flows x y = MayFlow s x y
  May s reads z x = MayRead s z x
  May s writes z x = Joined s.memory z x

  pub may_join : (s : StandingOf size) (t : Table) (x y : ℕ) → May s t x y → Joined s.memory x y
  may_join s flows x y a = (a.0, a.1)
  may_join s reads z x a = (task_used s.memory z a.reader, object_used s.memory x a.source)
  may_join s writes z x a = a

-- what the effects keep, under an order that passes
pub record Limits {size : Size} (s : StandingOf size) : Type 0 where
  pub fits : lengths_fit s.memory ≡ true
  pub bounded : (x : ℕ) → x < numbers_of size → Bounded s x
  -- a task that a granted mark named stays marked from outside
  pub named : (t : ℕ) → Memᴰ t s.outside → (task s.memory t ≡ true) × (marks s.memory.bytes t ≡ 3)
  pub recorded : (t : Table) (x y : ℕ) → x < numbers_of size → y < numbers_of size → has t s.memory x y ≡ true → May s t x y

-- so whatever is recorded joins things in use
pub joins : {size : Size} {s : StandingOf size} → Limits s → (t : Table) (x y : ℕ) → x < numbers_of size → y < numbers_of size → has t s.memory x y ≡ true → Joined s.memory x y
joins {s = s} k t x y a b h = may_join s t x y (k.recorded t x y a b h)

pub record Invariant {size : Size} (s : StandingOf size) : Type 0 where
  pub passes : order_passes s.order ≡ true
  pub is_sound : sound_of size s.order s.memory.bytes ≡ true
  pub limits : Limits s
  pub rooted : AllEnd s.memory

-- demand 3 is a part of it
pub contained : {size : Size} (s : StandingOf size) → Limits s → Contained s
unfolding has_flow
contained s k =
    record {
      marks_covered = λ x l. (k.bounded x l).mark_covered;
      flows_join = joins k flows;
      flows_end = λ x y a b h. (k.recorded flows x y a b h).2;
    }

-- ---- how the limits follow from one another

module _ {size : Size} (s : StandingOf size) (ok : IsOrder s.order) where
  -- what is at or below a covered level is covered
  pub covered_below : (a b : ℕ) → at_or_below s.order a b ≡ true → Covered s b → Covered s a
  covered_below a b h c = (c.0, c.1, c.2, ok.trans a b (level_of s.memory c.0) h c.3)

  pub ends_trans : (x z y : ℕ) → Ends s x z → Ends s z y → Ends s x y
  ends_trans x z y p (inr c) = inr c
  ends_trans x z y (inl h) (inl g) = inl (ok.trans _ _ _ g h)
  ends_trans x z y (inr c) (inl g) = inr (covered_below _ _ g c)

  module _ (k : Limits s) where
    covered_marked : (x : ℕ) → marked s.memory x ≡ true → Covered s (level_of s.memory x)
    covered_marked x h = (k.bounded x (marked_below s.memory x (fit_long s.memory k.fits).bytes_long h)).mark_covered h

    -- a flow to a marked thing, and to one at or below a marked thing
    pub to_marked : (x y : ℕ) → marked s.memory y ≡ true → Ends s x y
    to_marked x y h = inr (covered_marked y h)

    pub under_marked : (x d y : ℕ) → marked s.memory d ≡ true → at_or_below s.order (level_of s.memory y) (level_of s.memory d) ≡ true → Ends s x y
    under_marked x d y h g = inr (covered_below _ _ g (covered_marked d h))

    -- what a marked thing flows to is covered
    pub fed_covered : (y x : ℕ) → marked s.memory y ≡ true → Ends s y x → Covered s (level_of s.memory x)
    fed_covered y x h (inl g) = covered_below _ _ g (covered_marked y h)
    fed_covered y x h (inr c) = c

    -- what is read without risk, or by a marked task, flows within the limits
    pub read_ends : (z x : ℕ) → MayRead s z x → (not (risky s.order s.memory z x) || marked s.memory z) ≡ true → Ends s x z
    read_ends z x r h = ⊎_elim (λ n. safe (not-true (risky o m z x) n)) (to_marked x z) (or_cases (not (risky o m z x)) (marked m z) h)
      where
        o : Order
        o = s.order

        m : MemoryOf size
        m = s.memory

        safe : risky o m z x ≡ false → Ends s x z
        safe n =
            ⊎_elim (λ l. inl (past_object o m z x n l)) (λ g. under_marked x (driver_of m x) z g (past_driver o m z x n r.path))
            (or_cases (at_or_below o (level_of m z) (level_of m x) || at_or_below o (read_level_of m z) (level_of m x)) (marked m (driver_of m x)) r.honest)
