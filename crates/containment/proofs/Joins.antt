-- One call's step of a history, whichever flows count: chains of joins between lives that go on are paths now, and paths now are chains of joins.
-- Assumes nothing.
use Rattle.std.specs.Prelude.{◌≡◌, refl, Bool, ◌&&◌, ◌||◌, ◌⊎◌, ◌↔◌, ℕ, suc, ◌<◌}
use Rattle.std.proofs.Math.Path.{sym, ap, subst}
use Rattle.std.proofs.Common.{◌∙◌}
use Rattle.std.proofs.Math.Bool.{true, false, not, cond, and-eq-true_iff, false≢true}
use Rattle.std.proofs.Math.Logic.{inl, inr, ⊎_elim}
use mathlib.Core.List.Memᴰ
use mathlib.Core.List.{List, [], Memᴰ}
use native.Mathlib.Omega.{arith}
use borrow.Author.Tests.{eqb-true, eq-eqb}
use Rattle.bits.specs.AllLaws.{either, or_cases, or_l, or_r, and_i, and-false}
use Rattle.rows.specs.Size.{Size, numbers_of}
use Rattle.model.specs.State.{MemoryOf, in_use, marked, has_flow}
use Rattle.model.specs.Effects.{object_of}
use Rattle.model.proofs.StateLaws.{object_used, used_below}
use Rattle.model.proofs.EffectLaws.{Long}
use Rattle.containment.specs.History.{Life, History, nothing, life_of, is_now, ended_by, joins, grown, anew}
use Rattle.containment.proofs.Reach.{Feeds, object_own, feeds_by, Reach, at, along, down, Path, Fed, reach_here, reach_step, reach_used, reach_then, grows_none}
use Rattle.containment.proofs.Carries.{Source, Carries, Nobody, grows_carries}

-- ---- chains of joins, from any set of lives

-- `Linked h S a`: a chain of joins leads to the life a from one in S
pub data Linked (h : History) (S : Life → Type 0) : Life → Type 0 where
  begins : (a : Life) → S a → Linked h S a
  further : (a b : Life) → Linked h S a → h.joined a b ≡ true → Linked h S b

-- a granted mark has named it
abbrev pub Named : History → Life → Type 0
Named h a = Memᴰ a h.named

-- what was joined stays so, and so does what the chain begins at
linked_more : {h k : History} {S T : Life → Type 0} → ((a b : Life) → h.joined a b ≡ true → k.joined a b ≡ true) → ((a : Life) → S a → T a) → {b : Life} → Linked h S b → Linked k T b
linked_more j s (begins a q) = begins a (s a q)
linked_more j s (further a b t e) = further a b (linked_more j s t) (j a b e)

-- a chain, and one from where it ends
linked_then : {h : History} {S : Life → Type 0} {a b : Life} → Linked h S a → Linked h (λ c. a ≡ c) b → Linked h S b
linked_then {h} {S} t (begins b e) = subst (Linked h S) e t
linked_then t (further b c r j) = further b c (linked_then t r) j

-- every chain begins somewhere
linked_none : {h : History} {b : Life} → Linked h (λ c. ⊥) b → ⊥
linked_none (begins a q) = q
linked_none (further a b t e) = linked_none t

-- ---- lives

-- the life goes on
pub record Living {size : Size} (m : MemoryOf size) (h : History) (a : Life) : Type 0 where
  pub used : in_use m a.number ≡ true
  pub now : a.before ≡ h.ended a.number

-- it has begun, and may be over
abbrev Known : {size : Size} → MemoryOf size → History → Life → Type 0
Known m h a = (a.before < h.ended a.number) ⊎ Living m h a

-- ---- what holds of a memory and its history

-- what the history joins, paths join now
pub record Traced {size : Size} (m : MemoryOf size) (h : History) : Type 0 where
  pub known : (a b : Life) → h.joined a b ≡ true → Known m h a × Known m h b
  pub known_named : (a : Life) → Named h a → Known m h a
  -- lives that go on and are joined are joined by a path
  pub linked : (a b : Life) → Linked h (λ c. a ≡ c) b → Living m h a → Living m h b → Path m a.number b.number
  -- a life that goes on and is joined from a named one, over or not, is in reach of something marked
  pub fed : (b : Life) → Linked h (Named h) b → Living m h b → Fed m b.number

-- what paths join now, the history joins
pub record Told {size : Size} (m : MemoryOf size) (h : History) : Type 0 where
  pub paths : (x y : ℕ) → Path m x y → Linked h (λ c. life_of h x ≡ c) (life_of h y)
  pub feds : (x : ℕ) → Fed m x → Linked h (Named h) (life_of h x)

-- ts are the lives named so far, with those of the tasks in E
abbrev pub Adds : History → (ℕ → Type 0) → List Life → Type 0
Adds h E ts = (a : Life) → Memᴰ a ts ↔ (Named h a ⊎ ((y : ℕ) × E y × (a ≡ life_of h y)))

pub adds_nobody : (h : History) → Adds h Nobody h.named
adds_nobody h a = (λ q. inl q, λ q. ⊎_elim (λ p. p) (λ p. absurd p.1) q)

-- ---- a call that found m and leaves n, where these flows count

module _ {size : Size} (flows : ℕ → ℕ → Bool) (m n : MemoryOf size) (ts : List Life) (h : History) where
  abbrev g : History
  g = grown flows m n ts h

  -- a number in use after the call has the life that it had, or gets its next
  same_ended : (x : ℕ) → in_use n x ≡ true → g.ended x ≡ h.ended x
  unfolding grown ended_by
  same_ended x u = rw (u, and-false (in_use m x))

  same_life : (x : ℕ) → in_use n x ≡ true → life_of h x ≡ life_of g x
  unfolding life_of
  same_life x u = ap (λ (b : ℕ). record { number = x; before = b }) (sym (same_ended x u))

  -- what was joined stays joined
  join_old : (a b : Life) → h.joined a b ≡ true → g.joined a b ≡ true
  unfolding grown
  join_old a b e = or_l (h.joined a b) _ e

  -- what joins now is joined
  join_new : (x y : ℕ) → in_use n x ≡ true → in_use n y ≡ true → (flows x y || object_of n x y) ≡ true → g.joined (life_of g x) (life_of g y) ≡ true
  unfolding grown is_now life_of joins
  join_new x y ux uy e =
      or_r (h.joined (life_of g x) (life_of g y)) _
      (and_i (and_i (eq-eqb (g.ended x) (g.ended x) refl) (eq-eqb (g.ended y) (g.ended y) refl)) (and_i (and_i ux uy) e))

  -- the call names the tasks in E
  module _ (E : ℕ → Type 0) (c : Carries m n E) (long : Long n) (names : Adds h E ts) where
    -- ---- chains are paths, if only recorded flows count

    module _ (recorded : (x y : ℕ) → in_use n x ≡ true → in_use n y ≡ true → flows x y ≡ true → has_flow n x y ≡ true) (t : Traced m h) where
      -- a join of the call
      abbrev Now : Life → Life → Type 0
      Now a b = Living n g a × Living n g b × Feeds n a.number b.number

      -- what is joined was so, or is by the call
      split : (a b : Life) → g.joined a b ≡ true → (h.joined a b ≡ true) ⊎ Now a b
      unfolding grown is_now joins
      split a b j = ⊎_elim (λ e. inl e) (λ e. inr (new e)) (or_cases (h.joined a b) (is_now g.ended a && is_now g.ended b && joins flows n a.number b.number) j)
        where
          new : (is_now g.ended a && is_now g.ended b && joins flows n a.number b.number) ≡ true → Now a b
          new e =
              let t = simp and-eq-true_iff at e in (
                record { used = t.1.0.0; now = eqb-true _ _ t.0.0 },
                record { used = t.1.0.1; now = eqb-true _ _ t.0.1 },
                feeds_by n a.number b.number (flows a.number b.number) (recorded a.number b.number t.1.0.0 t.1.0.1) t.1.1,
              )

      -- a known life that goes on after the call did so before
      earlier : (a : Life) → Known m h a → Living n g a → Living m h a
      earlier a (inl l) v = let e : a.before ≡ h.ended a.number = v.now ∙ same_ended a.number v.used in absurd (omega arith)
      earlier a (inr w) v = w

      -- it stays known
      later : (a : Life) → Known m h a → Known n g a
      unfolding grown ended_by
      later a (inl l) = inl (grows (in_use m a.number && not (in_use n a.number)) a.before (h.ended a.number) l)
        where
          grows : (b : Bool) (i j : ℕ) → i < j → i < cond b (suc j) j
          grows true i j l = omega arith
          grows false i j l = l
      later a (inr v) =
          ⊎_elim (λ u. inr (record { used = u; now = v.now ∙ sym (same_ended a.number u) }))
          (λ u. inl (subst (λ (b : Bool). a.before < cond b (suc (h.ended a.number)) (h.ended a.number)) (sym (and_i v.used (ap not u))) (omega (arith, v.now))))
          (either (in_use n a.number))

      -- the ends of an earlier chain that is more than one life are known
      ends : (a : Life) {d : Life} → Linked h (λ c. a ≡ c) d → (a ≡ d) ⊎ (Known m h a × Known m h d)
      ends a (begins d e) = inl e
      ends a (further d f r j) =
          let w = t.known d f j in
          inr (⊎_elim (λ (e : a ≡ d). subst (Known m h) (sym e) w.0) (λ q. q.0) (ends a r), w.1)

      -- an earlier chain is a path still
      link : (a d : Life) → Linked h (λ c. a ≡ c) d → Living n g a → Living n g d → Path n a.number d.number
      link a d r la ld =
          ⊎_elim (λ (e : a ≡ d). reach_here long d.number ld.used (ap (λ (z : Life). z.number) e))
          (λ q. c.paths a.number d.number la.used ld.used (t.linked a d r (earlier a q.0 la) (earlier d q.1 ld)))
          (ends a r)

      -- a chain from S' is cut at its last join of the call: a path from T leads there, and an earlier chain goes on. Without such a join it is an earlier chain from S
      module _ (S S' : Life → Type 0) (T : ℕ → Type 0) (seed : (a : Life) → S' a → Linked h S a ⊎ (Living n g a × Reach n T a.number))
          (old : (d : Life) → Linked h S d → Living n g d → Reach n T d.number) where
        abbrev Cut : Life → Type 0
        Cut d = Linked h S d ⊎ ((a : Life) × Living n g a × Reach n T a.number × Linked h (λ e. a ≡ e) d)

        settle : (d : Life) → Cut d → Living n g d → Reach n T d.number
        settle d (inl r) v = old d r v
        settle d (inr q) v = reach_then (link q.0 d q.3 q.1 v) (λ x u e. subst (Reach n T) e q.2)

        goes : (a d : Life) → Cut a → (h.joined a d ≡ true) ⊎ Now a d → Cut d
        goes a d (inl r) (inl j) = inl (further a d r j)
        goes a d (inr q) (inl j) = inr (q.0, q.1, q.2, further a d q.3 j)
        goes a d q (inr j) = inr (d, j.1, reach_step long a.number d.number j.1.used j.2 (settle a q j.0), begins d refl)

        cut : {d : Life} → Linked g S' d → Cut d
        cut (begins a s) = ⊎_elim (λ r. inl r) (λ q. inr (a, q.0, q.1, begins a refl)) (seed a s)
        cut (further a d r j) = goes a d (cut r) (split a d j)

        reaches : (d : Life) → Linked g S' d → Living n g d → Reach n T d.number
        reaches d r v = settle d (cut r) v

      -- a life that the call names goes on
      named_living : (y : ℕ) → E y → Living n g (life_of h y)
      unfolding life_of
      named_living y e = let u = (c.naming y e).0 in record { used = u; now = sym (same_ended y u) }

      linked_known : {d : Life} → Linked h (Named h) d → Known m h d
      linked_known (begins a q) = t.known_named a q
      linked_known (further a d r j) = (t.known a d j).1

      -- what the call names is marked
      fed_seed : (a : Life) → Named g a → Linked h (Named h) a ⊎ (Living n g a × Fed n a.number)
      unfolding grown life_of
      fed_seed a q = ⊎_elim (λ p. inl (begins a p)) (λ p. inr (new p)) ((names a).0 q)
        where
          new : ((y : ℕ) × E y × (a ≡ life_of h y)) → Living n g a × Fed n a.number
          new p =
              let w = c.naming p.0 p.1 in
              subst (λ (z : Life). Living n g z × Fed n z.number) (sym p.2) (named_living p.0 p.1, reach_here long p.0 w.0 w.1)

      pub grown_traced : Traced n g
      unfolding grown
      grown_traced =
          record {
            known = λ a b j. ⊎_elim (λ e. let w = t.known a b e in (later a w.0, later b w.1)) (λ q. (inr q.0, inr q.1)) (split a b j);
            known_named = λ a q. ⊎_elim (λ p. later a (t.known_named a p)) (λ p. inr (subst (Living n g) (sym p.2) (named_living p.0 p.1))) ((names a).0 q);
            linked = λ a d r la ld. reaches (λ e. ⊥) (λ e. a ≡ e) (λ z. a.number ≡ z) (λ e q. inr (itself a la e q)) (λ e q v. absurd (linked_none q)) d r ld;
            fed = λ d r ld.
                reaches (Named h) (Named g) (λ z. marked n z ≡ true) fed_seed
                (λ e q v. c.feds e.number v.used (t.fed e q (earlier e (linked_known q) v))) d r ld;
          }
        where
          itself : (a : Life) → Living n g a → (e : Life) → a ≡ e → Living n g e × Path n a.number e.number
          itself a la e q = subst (λ (z : Life). Living n g z × Path n a.number z.number) q (la, reach_here long a.number la.used refl)

    -- ---- paths are chains, if a flow that does not count is a chain already, and what was marked is joined from a named life

    module _ (stays : (x y : ℕ) → in_use n x ≡ true → in_use n y ≡ true → has_flow n x y ≡ true → (flows x y ≡ true) ⊎ Linked h (λ a. life_of h x ≡ a) (life_of h y))
        (before : (x : ℕ) → x < numbers_of size → in_use m x ≡ true → marked m x ≡ true → Linked h (Named h) (life_of h x)) where
      -- a chain that was there is there still
      carried : (x y : ℕ) → in_use n x ≡ true → in_use n y ≡ true → Linked h (λ a. life_of h x ≡ a) (life_of h y) → Linked g (λ a. life_of g x ≡ a) (life_of g y)
      carried x y ux uy r = subst (Linked g (λ a. life_of g x ≡ a)) (same_life y uy) (linked_more join_old (λ a e. sym (same_life x ux) ∙ e) r)

      -- a path is followed step by step
      led : {S : ℕ → Type 0} {T : Life → Type 0} → ((x : ℕ) → in_use n x ≡ true → S x → Linked g T (life_of g x)) → {y : ℕ} → Reach n S y → Linked g T (life_of g y)
      led f (at x l u s) = f x u s
      led f (along x y r l u e) =
          let ux = reach_used r in
          ⊎_elim (λ j. further (life_of g x) (life_of g y) (led f r) (join_new x y ux u (or_l (flows x y) _ j)))
          (λ q. linked_then (led f r) (carried x y ux u q)) (stays x y ux u e)
      led f (down x y r l o d) = further (life_of g x) (life_of g y) (led f r) (join_new x y (reach_used r) (object_used n y o) (or_r (flows x y) _ (object_own n x y o d)))

      -- what was marked, or is named now
      sourced : (x : ℕ) → in_use n x ≡ true → Source m E x → Linked g (Named g) (life_of g x)
      unfolding grown
      sourced x u (inl q) = subst (Linked g (Named g)) (same_life x u) (linked_more join_old (λ a p. (names a).1 (inl p)) (before x (used_below n x long.bytes_long u) q.0 q.1))
      sourced x u (inr e) = subst (Linked g (Named g)) (same_life x u) (begins (life_of h x) ((names (life_of h x)).1 (inr (x, e, refl))))

      pub grown_told : Told n g
      grown_told =
          record {
            paths = λ x y r. led (λ z u e. begins (life_of g z) (ap (life_of g) e)) r;
            feds = λ x r. led sourced (reach_then r c.origin);
          }

-- ---- the state of a start, in which nothing is marked

module _ {size : Size} (m : MemoryOf size) (long : Long m) (unmarked : (x : ℕ) → marked m x ≡ true → ⊥) where
  nothing_traced : Traced m nothing
  unfolding nothing
  nothing_traced =
      record {
        known = λ a b j. absurd (false≢true j);
        known_named = λ a q. absurd (Memᴰ.not-nil q);
        linked = λ a b t la lb. alone a t lb;
        fed = λ b t lb. absurd (nowhere t);
      }
    where
      nowhere : {b : Life} → Linked nothing (Named nothing) b → ⊥
      nowhere (begins a q) = Memᴰ.not-nil q
      nowhere (further a b t j) = false≢true j

      alone : (a : Life) {b : Life} → Linked nothing (λ c. a ≡ c) b → Living m nothing b → Path m a.number b.number
      alone a (begins b e) lb = reach_here long b.number lb.used (ap (λ (z : Life). z.number) e)
      alone a (further c b t j) lb = absurd (false≢true j)

  carries : Carries m m Nobody
  carries = grows_carries m m Nobody (grows_none m) (λ x u q. absurd (unmarked x q)) (λ y e. absurd e)

  pub anew_traced : Traced m (anew m)
  unfolding anew nothing
  anew_traced = grown_traced (has_flow m) m m [] nothing Nobody carries long (adds_nobody nothing) (λ x y ux uy f. f) nothing_traced

  pub anew_told : Told m (anew m)
  unfolding anew nothing
  anew_told = grown_told (has_flow m) m m [] nothing Nobody carries long (adds_nobody nothing) (λ x y ux uy f. inl f) (λ x l u q. absurd (unmarked x q))
