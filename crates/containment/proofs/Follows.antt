-- What a change of the memory has to keep for the limits to stay.
-- Assumes nothing.
use Rattle.std.specs.Prelude.{◌≡◌, refl, Bool, true, false, ◌||◌, ℕ, ◌<◌}
use Rattle.std.proofs.Common.{sym, ◌∙◌, inl, inr}
use mathlib.Core.List.{List, Memᴰ}
use Rattle.rows.specs.Size.{Size, numbers_of}
use Rattle.levels.specs.declared.Order.{Order}
use Rattle.levels.specs.Order.{at_or_below}
use Rattle.records.specs.Records as records
use Rattle.records.specs.Records.{is_task, is_object}
use Rattle.model.specs.State.{MemoryOf, lengths_fit, in_use, task, object, level_of, read_level_of, driver_of, marked}
use Rattle.containment.specs.Claims.{Covered}
use Rattle.containment.proofs.Tables.{Table, flows, reads, writes, has}
use Rattle.containment.proofs.Invariant.{standing, Ends, Bounded, Joined, May, Limits, joins}

-- what is read of x, but for its marks and its place, is the same
pub record Same {size : Size} (m n : MemoryOf size) (x : ℕ) : Type 0 where
  pub kind : records.kind n.bytes x ≡ records.kind m.bytes x
  pub level : level_of n x ≡ level_of m x
  pub read_level_law : read_level_of n x ≡ read_level_of m x
  pub driver : driver_of n x ≡ driver_of m x

module _ {size : Size} {m n : MemoryOf size} {x : ℕ} (e : Same m n x) where
  pub same_task : task n x ≡ task m x
  unfolding task is_task
  same_task = rw e.kind

  pub same_object : object n x ≡ object m x
  unfolding object is_object
  same_object = rw e.kind

  pub same_use : in_use n x ≡ in_use m x
  unfolding in_use
  same_use = rw e.kind

or_more : {b c : Bool} (a : Bool) → (b ≡ true → c ≡ true) → (a || b) ≡ true → (a || c) ≡ true
or_more true h e = refl
or_more false h e = h e

-- what is covered stays so where the tasks stay
pub covered_same : {size : Size} (o : Order) (ts : List ℕ) {m n : MemoryOf size} → ((x : ℕ) → task m x ≡ true → Same m n x) → (l : ℕ) → Covered (standing o m ts) l → Covered (standing o n ts) l
covered_same o ts tasks l c =
    let e = tasks c.0 c.2 in
    (c.0, c.1, same_task e ∙ c.2, rw e.level c.3)

-- n comes after m, and the tasks us are named after ts
pub record Follows {size : Size} (o : Order) (m n : MemoryOf size) (ts us : List ℕ) : Type 0 where
  -- a task stays what it was, and marked
  pub tasks : (x : ℕ) → task m x ≡ true → Same m n x
  pub marks : (x : ℕ) → task m x ≡ true → marked m x ≡ true → marked n x ≡ true
  -- what is in use before and after stays what it was
  pub things : (x : ℕ) → in_use m x ≡ true → in_use n x ≡ true → Same m n x
  pub named : (t : ℕ) → Memᴰ t ts → Memᴰ t us
  -- what is recorded was recorded, of things still in use
  pub recorded : (t : Table) (x y : ℕ) → x < numbers_of size → y < numbers_of size → has t n x y ≡ true → (has t m x y ≡ true) × Joined n x y

module _ {size : Size} {o : Order} {m n : MemoryOf size} {ts us : List ℕ} (f : Follows o m n ts us) where
  pub covered_follows : (l : ℕ) → Covered (standing o m ts) l → Covered (standing o n us) l
  covered_follows l c = covered_same o us f.tasks l (c.0, f.named c.0 c.1, c.2, c.3)

  pub ends_follows : (x y : ℕ) → Same m n x → Same m n y → Ends (standing o m ts) x y → Ends (standing o n us) x y
  ends_follows x y d e (inl h) = inl (rw (d.level, e.level) h)
  ends_follows x y d e (inr c) = inr (rw e.level (covered_follows _ c))

  -- a record that is the same stays within its bounds, if its mark does
  pub bounded_follows : (x : ℕ) → Same m n x → Bounded (standing o m ts) x → (object m x ≡ true → marked n (driver_of m x) ≡ true → marked n x ≡ true)
      → (marked n x ≡ true → Covered (standing o n us) (level_of m x)) → Bounded (standing o n us) x
  bounded_follows x e b driven covered =
      record {
        driver_task = λ h.
            let t = b.driver_task (sym (same_object e) ∙ h) in
            rw e.driver (same_task (f.tasks (driver_of m x) t) ∙ t);
        driver_above = λ h.
            let g = sym (same_object e) ∙ h in
            rw (e.driver, (f.tasks (driver_of m x) (b.driver_task g)).level, e.level) (b.driver_above g);
        driven_marked = λ h g. driven (sym (same_object e) ∙ h) (rw e.driver at g);
        mark_covered = λ h. rw e.level (covered h);
      }

  module _ (k : Limits (standing o m ts)) where
    -- what might be recorded of things that stay may be so still
    may_follow : (t : Table) (x y : ℕ) → y < numbers_of size → Same m n x → Same m n y → May (standing o m ts) t x y → May (standing o n us) t x y
    may_follow flows x y b ex ey j = (same_use ex ∙ j.0, same_use ey ∙ j.1, ends_follows x y ex ey j.2)
    may_follow reads z x b ez ex j =
        let d = driver_of m x in
        let td = (k.bounded x b).driver_task j.source in
        let ed = f.tasks d td in
        record {
          reader = same_task ez ∙ j.reader;
          source = same_object ex ∙ j.source;
          path = rw (ex.driver, ed.level, ez.level, ez.read_level_law) j.path;
          honest = rw (ex.driver, ex.level, ez.level, ez.read_level_law)
              (or_more (at_or_below o (level_of m z) (level_of m x) || at_or_below o (read_level_of m z) (level_of m x)) (f.marks d td) j.honest);
        }
    may_follow writes z x b ez ex j = (same_use ez ∙ j.0, same_use ex ∙ j.1)

    recorded_follow : (t : Table) (x y : ℕ) → x < numbers_of size → y < numbers_of size → has t n x y ≡ true → May (standing o n us) t x y
    recorded_follow t x y a b h =
        let g = f.recorded t x y a b h in
        let u = joins k t x y a b g.0 in
        may_follow t x y b (f.things x u.0 g.1.0) (f.things y u.1 g.1.1) (k.recorded t x y a b g.0)

    pub limits_follow : lengths_fit n ≡ true → ((x : ℕ) → x < numbers_of size → Bounded (standing o n us) x)
        → ((t : ℕ) → Memᴰ t us → (task n t ≡ true) × (records.marks n.bytes t ≡ 3)) → Limits (standing o n us)
    limits_follow l b t = record { fits = l; bounded = b; named = t; recorded = recorded_follow }
