-- A thing goes, and what fed it feeds what it fed: paths past it stay (A, B), and bridging makes none that was not there (C).
-- Assumes nothing.
use Rattle.std.specs.Prelude.{◌≡◌, refl, true, false, not, ◌&&◌, ◌||◌, ◌⊎◌, ℕ, ◌<◌, eqb}
use Rattle.std.proofs.Common.{sym, ap, subst, ◌∙◌, true≢false, inl, inr}
use Rattle.std.proofs.Math.Bool.{and-eq-true_iff}
use Rattle.std.proofs.Math.Logic.{⊎_elim}
use borrow.Author.Tests.{eqb-false, eq-eqb, ne_eqb, not-true}
use Rattle.bits.specs.AllLaws.{or_l, or_r, and_i}
use Rattle.rows.specs.Size.{Size, numbers_of}
use Rattle.model.specs.State.{MemoryOf, in_use, task, object, driver_of, marked, has_flow}
use Rattle.model.proofs.StateLaws.{object_used, object_task, used_apart, used_below}
use Rattle.model.specs.Effects.{bridge, clear, feeder, fed_by, effect}
use Rattle.model.proofs.EffectLaws.{Long, effect_long, flow_after, in_use_after, object_after, driver_after, marked_after_law}
use Rattle.containment.proofs.Tables.{flows, has_bridged}
use Rattle.containment.proofs.Changes.{equal_or_not}
use Rattle.containment.proofs.Reach.{Feeds, feeds_by, feeds_so, Reach, at, along, down, Path, Fed, reach_step, reach_used, reach_below}

-- n is m without x, and what fed x, or drove it, feeds what it fed
pub record Bypasses {size : Size} (m n : MemoryOf size) (x : ℕ) : Type 0 where
  pub gone : in_use n x ≡ false
  pub used : (y : ℕ) → (y ≡ x → ⊥) → in_use n y ≡ in_use m y
  pub objects : (y : ℕ) → (y ≡ x → ⊥) → object n y ≡ object m y
  pub drivers : (y : ℕ) → (y ≡ x → ⊥) → driver_of n y ≡ driver_of m y
  pub marks : (y : ℕ) → (y ≡ x → ⊥) → marked n y ≡ marked m y
  pub flows : (u v : ℕ) → u < numbers_of size → v < numbers_of size → (u ≡ x → ⊥) → (v ≡ x → ⊥) → has_flow m u v ≡ true → has_flow n u v ≡ true
  pub bridges : (p q : ℕ) → p < numbers_of size → q < numbers_of size → feeder m x p ≡ true → fed_by m x q ≡ true → (q ≡ p → ⊥) → has_flow n p q ≡ true
  -- x drives nothing
  pub drives_none : (y : ℕ) → object m y ≡ true → driver_of m y ≡ x → ⊥

module _ {size : Size} (m n : MemoryOf size) (x : ℕ) (b : Bypasses m n x) where
  -- what is in use afterwards is not x
  pub not_gone : (y : ℕ) → in_use n y ≡ true → y ≡ x → ⊥
  not_gone y u e = used_apart n y x u b.gone e

  -- a step to x comes from a feeder
  feeds_feeder : (p : ℕ) → in_use m p ≡ true → (p ≡ x → ⊥) → Feeds m p x → feeder m x p ≡ true
  unfolding feeder
  feeds_feeder p u e f = and_i (and_i u (rw (ne_eqb p x e))) (feeds_so m p x f)

  -- and one from x goes to what it fed
  fed_flow : (q : ℕ) → in_use m q ≡ true → (q ≡ x → ⊥) → has_flow m x q ≡ true → fed_by m x q ≡ true
  unfolding fed_by
  fed_flow q u e f = and_i (and_i u (rw (ne_eqb q x e))) f

  -- what is in S stays in T, and if x was in S then what it fed is in T
  module _ (S T : ℕ → Type 0) (stay : (z : ℕ) → (z ≡ x → ⊥) → S z → T z) (hand : S x → (q : ℕ) → fed_by m x q ≡ true → (q ≡ x → ⊥) → T q) where
    -- what stands for a path that ends at x: one to a feeder, or x itself was in S
    abbrev Before : Type 0
    Before = ((p : ℕ) × (feeder m x p ≡ true) × Reach n T p) ⊎ S x

    -- what stands for a path to y
    abbrev Past : ℕ → Type 0
    Past y = ((y ≡ x) × Before) ⊎ ((y ≡ x → ⊥) × Reach n T y)

    -- a path is followed step by step
    past : {y : ℕ} → Reach m S y → Past y
    past (at y l u s) = ⊎_elim (λ (e : y ≡ x). inl (e, inr (subst S e s))) (λ (e : y ≡ x → ⊥). inr (e, at y l (b.used y e ∙ u) (stay y e s))) (equal_or_not y x)
    past (along z y r l u f) = ⊎_elim (enters (past r)) (goes (past r)) (equal_or_not y x)
      where
        enters : Past z → y ≡ x → Past y
        enters so e =
            ⊎_elim (λ (q : (z ≡ x) × Before). inl (e, q.1))
            (λ (q : (z ≡ x → ⊥) × Reach n T z). inl (e, inl (z, feeds_feeder z (reach_used r) q.0 (inl (subst (λ (k : ℕ). has_flow m z k ≡ true) e f)), q.1))) so

        leaves : (y ≡ x → ⊥) → has_flow m x y ≡ true → Before → Reach n T y
        leaves e g (inl p) =
            let fed = fed_flow y u e g in
            ⊎_elim (λ (d : y ≡ p.0). subst (Reach n T) (sym d) p.2)
            (λ (d : y ≡ p.0 → ⊥). along p.0 y p.2 l (b.used y e ∙ u) (b.bridges p.0 y (reach_below p.2) l p.1 fed d))
            (equal_or_not y p.0)
        leaves e g (inr s) = at y l (b.used y e ∙ u) (hand s y (fed_flow y u e g) e)

        goes : Past z → (y ≡ x → ⊥) → Past y
        goes so e =
            inr (
              e,
              ⊎_elim (λ (q : (z ≡ x) × Before). leaves e (subst (λ (k : ℕ). has_flow m k y ≡ true) q.0 f) q.1)
                  (λ (q : (z ≡ x → ⊥) × Reach n T z). along z y q.1 l (b.used y e ∙ u) (b.flows z y (reach_below r) l q.0 e f)) so,
            )
    past (down z y r l o d) = ⊎_elim (λ (q : (z ≡ x) × Before). absurd (b.drives_none y o (d ∙ q.0))) from (past r)
      where
        from : (z ≡ x → ⊥) × Reach n T z → Past y
        from q =
            ⊎_elim (λ (e : y ≡ x). inl (e, inl (z, feeds_feeder z (reach_used r) q.0 (inr (subst (λ (k : ℕ). object m k ≡ true) e o, subst (λ (k : ℕ). driver_of m k ≡ z) e d)), q.1)))
            (λ (e : y ≡ x → ⊥). inr (e, down z y q.1 l (b.objects y e ∙ o) (b.drivers y e ∙ d))) (equal_or_not y x)

    -- what stays and was reached from S is reached from T
    pub reach_past : (y : ℕ) → in_use n y ≡ true → Reach m S y → Reach n T y
    reach_past y u r = ⊎_elim (λ (q : (y ≡ x) × Before). absurd (not_gone y u q.0)) (λ (q : (y ≡ x → ⊥) × Reach n T y). q.1) (past r)

  -- A: a path between two things that stay is there afterwards
  pub past_path : (w y : ℕ) → in_use n w ≡ true → in_use n y ≡ true → Path m w y → Path n w y
  past_path w y uw uy r = reach_past (λ z. w ≡ z) (λ z. w ≡ z) (λ z e s. s) (λ s. absurd (not_gone w uw s)) y uy r

  -- B: what stays and is in reach of a marked thing stays in reach of one, if x is unmarked or all it feeds is marked
  pub past_fed : (marked m x ≡ true → (q : ℕ) → fed_by m x q ≡ true → marked m q ≡ true) → (y : ℕ) → in_use n y ≡ true → Fed m y → Fed n y
  past_fed feeding y uy r =
      reach_past (λ z. marked m z ≡ true) (λ z. marked n z ≡ true) (λ z e s. b.marks z e ∙ s) (λ s q f e. b.marks q e ∙ feeding s q f) y uy r

-- ---- bridging and clearing an object does this

abbrev pub bypassed : {size : Size} → MemoryOf size → ℕ → MemoryOf size
bypassed m x = effect (clear x) (effect (bridge x) m)

pub bypassed_long : {size : Size} {m : MemoryOf size} → Long m → (x : ℕ) → Long (bypassed m x)
bypassed_long long x = effect_long (clear x) (effect_long (bridge x) long)

module _ {size : Size} (m : MemoryOf size) (long : Long m) (x : ℕ) (o : object m x ≡ true) (drivers : (y : ℕ) → object m y ≡ true → task m (driver_of m y) ≡ true) where
  abbrev between : MemoryOf size
  between = effect (bridge x) m

  below : x < numbers_of size
  below = used_below m x long.bytes_long (object_used m x o)

  long' : Long between
  long' = effect_long (bridge x) long

  -- a flow that was there or is bridged, and is not x's, is there afterwards
  kept_flow : (u v : ℕ) → u < numbers_of size → v < numbers_of size → (u ≡ x → ⊥) → (v ≡ x → ⊥) → (has_flow m u v || (feeder m x u && (fed_by m x v && not (eqb v u)))) ≡ true → has_flow (bypassed m x) u v ≡ true
  kept_flow u v lu lv eu ev h =
      flow_after u v lu lv (clear x) between long' below
      ∙ and_i (and_i (flow_after u v lu lv (bridge x) m long tt ∙ h) (rw (ne_eqb u x eu))) (rw (ne_eqb v x ev))

  -- x neither feeds itself nor is fed by itself
  feeder_not : (p : ℕ) → feeder m x p ≡ true → p ≡ x → ⊥
  unfolding feeder
  feeder_not p h = let t = simp and-eq-true_iff at h in eqb-false p x (not-true (eqb p x) t.0.1)

  fed_not : (q : ℕ) → fed_by m x q ≡ true → q ≡ x → ⊥
  unfolding fed_by
  fed_not q h = let t = simp and-eq-true_iff at h in eqb-false q x (not-true (eqb q x) t.0.1)

  pub delete_bypasses : Bypasses m (bypassed m x) x
  delete_bypasses =
      record {
        gone = in_use_after x (clear x) between long' below ∙ rw (eq-eqb x x refl);
        used = λ y e. in_use_after y (clear x) between long' below ∙ rw (ne_eqb y x e) (in_use_after y (bridge x) m long tt);
        objects = λ y e. object_after y (clear x) between long' below ∙ rw (ne_eqb y x e) (object_after y (bridge x) m long tt);
        drivers = λ y e. driver_after y (clear x) between long' below ∙ rw (ne_eqb y x e) (driver_after y (bridge x) m long tt);
        marks = λ y e. marked_after_law y (clear x) between long' (below, tt) ∙ rw (ne_eqb y x e) (marked_after_law y (bridge x) m long (tt, tt));
        flows = λ u v lu lv eu ev h. kept_flow u v lu lv eu ev (or_l (has_flow m u v) _ h);
        bridges = λ p q lp lq fp fq e.
            kept_flow p q lp lq (feeder_not p fp) (fed_not q fq) (or_r (has_flow m p q) _ (and_i fp (and_i fq (rw (ne_eqb q p e)))));
        drives_none = λ y h d. true≢false (sym (drivers y h) ∙ ap (task m) d ∙ object_task m x o);
      }

-- ---- bridging past a thing in use

module _ {size : Size} (m : MemoryOf size) (long : Long m) (x : ℕ) (u : in_use m x ≡ true) (S : ℕ → Type 0) where
  -- what is bridged went through x
  through : (z y : ℕ) → Reach m S z → feeder m x z ≡ true → fed_by m x y ≡ true → Reach m S y
  unfolding feeder fed_by
  through z y r p q =
      let t = simp and-eq-true_iff at p in
      let v = simp and-eq-true_iff at q in
      reach_step long x y v.0.0 (inl v.1) (reach_step long z x u (feeds_by m z x (has_flow m z x) (λ f. f) t.1) r)

  -- C: bridging makes no path that was not there
  pub bridge_adds_none : {y : ℕ} → Reach (effect (bridge x) m) S y → Reach m S y
  unfolding effect in_use object has_flow
  bridge_adds_none (at y l v s) = at y l v s
  bridge_adds_none (down z y r l o d) = down z y (bridge_adds_none r) l o d
  bridge_adds_none (along z y r l v f) =
      ⊎_elim (λ h. along z y (bridge_adds_none r) l v h) (λ h. through z y (bridge_adds_none r) h.1 h.2) (has_bridged m long z y (reach_below r) l x flows f)
