-- Steps from container to container: the walk finds what lies inside, and where steps end at a root, few do.
-- Assumes nothing.
use Rattle.std.specs.Prelude.{◌≡◌, ◌↔◌, Bool, true, false, ◌&&◌, ◌||◌}
use Rattle.std.proofs.Math.Path.{refl, ap}
use Rattle.std.proofs.Common.{sym, ◌∙◌, true≢false}
use Rattle.std.proofs.Math.Logic.{⊎_elim}
use Rattle.std.proofs.Math.Bool.{not}
use Rattle.std.proofs.lemmas.Bool.{false≢true}
use Prim.Native.Nat.{ℕ, zero, suc, ◌<◌}
use native.Mathlib.Omega.{arith}
use borrow.Author.Tests.{eqb-true, eq-eqb, not-true}
use Rattle.bits.specs.AllLaws.{and_i, and_l, and_r, or_cases, or_l, or_r}
use Rattle.rows.proofs.RowLaws.{some_number}
use Rattle.rows.specs.Size.{Size, numbers_of}
use Rattle.levels.specs.declared.Order.{Order}
use Rattle.records.specs.Records.{is_object, lies_within, sound_of}
use Rattle.records.specs.RecordLaws.{long, core_task, object_facts}
use Rattle.model.specs.State.{MemoryOf, object, is_root, container_of, lies_in}
use Rattle.model.proofs.StateLaws.{object_used, used_below}
use Rattle.model.specs.Inside.{most_steps, Leads, Inside, walk, inside}
use Rattle.model.proofs.WalkLaws.{finds, finds_all}

module _ {size : Size} (m : MemoryOf size) where
  -- ---- a step

  pub lies_here : (x k : ℕ) → lies_in m x k ≡ true → (is_root m x ≡ false) × (container_of m x ≡ k)
  unfolding lies_within
  lies_here x k h = (not-true _ (and_l (not (is_root m x)) _ h), eqb-true _ _ (and_r (not (is_root m x)) _ h))

  pub lies_there : (x : ℕ) → is_root m x ≡ false → lies_in m x (container_of m x) ≡ true
  unfolding lies_within
  lies_there x r = and_i (ap not r) (eq-eqb (container_of m x) (container_of m x) refl)

  -- the last of some steps
  pub last_step : (n x y : ℕ) → Leads m (suc n) x y → (k : ℕ) × Leads m n x k × (lies_in m k y ≡ true)
  unfolding Leads
  last_step zero x y (k, l, e) = (x, refl, rw e at l)
  last_step (suc n) x y (k, l, h) = let t = last_step n k y h in (t.0, (k, l, t.1), t.2)

  -- ---- the walk

  walk_finds : (n x y : ℕ) → walk n m x y ≡ finds (λ z. lies_in m z y) (λ z. not (is_root m z)) (λ z. container_of m z) n x
  unfolding walk finds
  walk_finds zero x y = refl
  walk_finds (suc n) x y = ap (λ (b : Bool). lies_in m x y || (not (is_root m x) && b)) (walk_finds n (container_of m x) y)

  pub walk_inside : (n x y : ℕ) → walk n m x y ≡ true → Inside m x y
  unfolding walk Leads
  walk_inside zero x y h = absurd (false≢true h)
  walk_inside (suc n) x y h =
      ⊎_elim (λ l. (0, (y, l, refl)))
      (λ g. let i = walk_inside n (container_of m x) y (and_r (not (is_root m x)) _ g) in (suc i.0, (container_of m x, lies_there x (not-true _ (and_l (not (is_root m x)) _ g)), i.1)))
      (or_cases (lies_in m x y) _ h)

  leads_walk : (n x y : ℕ) → Leads m (suc n) x y → walk (suc n) m x y ≡ true
  unfolding walk Leads
  leads_walk zero x y (k, l, e) = or_l (lies_in m x y) _ (rw e at l)
  leads_walk (suc n) x y (k, l, h) =
      let s = lies_here x k l in
      or_r (lies_in m x y) _ (and_i (ap not s.0) (rw s.1 (leads_walk n k y h)))

  -- ---- in a sound memory

  module _ (o : Order) (ok : sound_of size o m.bytes ≡ true) where
    core_no_object : object m 0 ≡ false
    unfolding object is_object
    core_no_object = rw (core_task size o m.bytes ok)

    below : (x : ℕ) → object m x ≡ true → x < numbers_of size
    below x h = used_below m x (long size o m.bytes ok) (object_used m x h)

    -- the container of an object is an object
    container_object : (x : ℕ) → object m x ≡ true → is_root m x ≡ false → object m (container_of m x) ≡ true
    unfolding object is_object
    container_object x h r =
        ⊎_elim (λ p. absurd (true≢false (sym (and_i (eq-eqb _ _ p.0) (eq-eqb _ _ p.1)) ∙ r))) (λ p. eq-eqb _ 2 p.1) (object_facts size o m.bytes ok x (eqb-true _ 2 h)).placing

    pub leads_object : (n x y : ℕ) → Leads m n x y → object m x ≡ true → object m y ≡ true
    unfolding Leads
    leads_object zero x y e h = rw e at h
    leads_object (suc n) x y (k, l, s) h = leads_object n k y s (let t = lies_here x k l in rw t.1 at (container_object x h t.0))

    -- as many steps as there are numbers but one find what any number of steps finds
    steps_find : (passes : ℕ → Bool) (n x : ℕ) → object m x ≡ true → finds passes (λ z. not (is_root m z)) (λ z. container_of m z) n x ≡ true
        → finds passes (λ z. not (is_root m z)) (λ z. container_of m z) (most_steps size) x ≡ true
    steps_find passes n x h f =
        finds_all passes (λ z. not (is_root m z)) (λ z. container_of m z) (numbers_of size) (some_number size) (object m) core_no_object below (λ z w g. container_object z w (not-true _ g))
        (most_steps size) n x (omega (arith, some_number size)) h f

    -- the test is exact, circles or none
    pub inside_exact : (x y : ℕ) → object m x ≡ true → (inside m x y ≡ true) ↔ Inside m x y
    unfolding inside
    inside_exact x y h = (
      walk_inside (most_steps size) x y,
      λ i. walk_finds (most_steps size) x y ∙ steps_find (λ z. lies_in m z y) (suc i.0) x h (sym (walk_finds (suc i.0) x y) ∙ leads_walk i.0 x y i.1),
    )

    -- ---- roots

    leads_root : (n x y : ℕ) → Leads m n x y → is_root m y ≡ true → finds (λ z. is_root m z) (λ z. not (is_root m z)) (λ z. container_of m z) (suc n) x ≡ true
    unfolding Leads finds
    leads_root zero x y e r = or_l (is_root m x) _ (ap (is_root m) e ∙ r)
    leads_root (suc n) x y (k, l, s) r =
        let t = lies_here x k l in
        or_r (is_root m x) _ (and_i (ap not t.0) (rw t.1 (leads_root n k y s r)))

    root_leads : (n x : ℕ) → finds (λ z. is_root m z) (λ z. not (is_root m z)) (λ z. container_of m z) n x ≡ true → (i y : ℕ) × (i < n) × Leads m i x y × (is_root m y ≡ true)
    unfolding Leads finds
    root_leads zero x h = absurd (false≢true h)
    root_leads (suc n) x h =
        ⊎_elim (λ r. (0, x, omega arith, refl, r))
        (λ g. let t = root_leads n (container_of m x) (and_r (not (is_root m x)) _ g) in
        (suc t.0, t.1, omega (arith, t.2), (container_of m x, lies_there x (not-true _ (and_l (not (is_root m x)) _ g)), t.3), t.4))
        (or_cases (is_root m x) _ h)

    -- where some steps end at a root, few do
    pub few_steps : (n x y : ℕ) → Leads m n x y → is_root m y ≡ true → object m x ≡ true → (i k : ℕ) × (i < most_steps size) × Leads m i x k × (is_root m k ≡ true)
    few_steps n x y s r h = root_leads (most_steps size) x (steps_find (λ z. is_root m z) (suc n) x h (leads_root n x y s r))
