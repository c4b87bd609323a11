-- Laws of Bools and of the tests over all numbers below n.
-- Assumes nothing.
use Rattle.std.specs.Prelude.{◌≡◌, refl, ◌⊎◌, Bool, true, false, ◌&&◌, ◌||◌, ℕ, zero, suc, ◌+◌, ◌<◌, eqb, ltb}
use Rattle.std.proofs.Common.{sym, ap, ap₂, ◌∙◌, inl, inr, ⊎_elim, true≢false, le_of_suc-le-suc, not-suc-le-zero, eq-or-lt_of_le, le_refl, le_trans, add-one, eqb-true, eq-eqb, ltb-true, lt-ltb}
use Rattle.std.proofs.lemmas.Bool.{false≢true}
use Rattle.std.proofs.Math.Bool.{and-eq-true_iff}
use Rattle.std.proofs.Math.Nat.{le-suc}
use Rattle.bits.specs.All.{all_b, any_b, up_to, ◌⇒◌}

-- ---- Bools

pub and_l : (a b : Bool) → (a && b) ≡ true → a ≡ true
and_l true b e = refl
and_l false b e = e

pub and_r : (a b : Bool) → (a && b) ≡ true → b ≡ true
and_r true b e = e
and_r false b e = absurd (false≢true e)

pub and_i : {a b : Bool} → a ≡ true → b ≡ true → (a && b) ≡ true
and_i {a} {b} p q = ap₂ (λ (x y : Bool). x && y) p q

pub and-false : (a : Bool) → (a && false) ≡ false
and-false true = refl
and-false false = refl

pub and-true : (a : Bool) → (a && true) ≡ a
and-true true = refl
and-true false = refl

pub or_false : (a : Bool) → (a || false) ≡ a
or_false true = refl
or_false false = refl

pub or_true : (a : Bool) → (a || true) ≡ true
or_true true = refl
or_true false = refl

pub either : (b : Bool) → (b ≡ true) ⊎ (b ≡ false)
either true = inl refl
either false = inr refl

pub both_ways : (a b : Bool) → (a ≡ true → b ≡ true) → (b ≡ true → a ≡ true) → a ≡ b
both_ways true b f g = sym (f refl)
both_ways false true f g = g refl
both_ways false false f g = refl

pub not_so : (b : Bool) → (b ≡ true → ⊥) → b ≡ false
not_so true h = absurd (h refl)
not_so false h = refl

pub eqb_sym : (a b : ℕ) → eqb a b ≡ eqb b a
eqb_sym a b = both_ways _ _ (λ e. eq-eqb b a (sym (eqb-true a b e))) (λ e. eq-eqb a b (sym (eqb-true b a e)))

pub implies : (a b : Bool) → (a ⇒ b) ≡ true → a ≡ true → b ≡ true
implies true b e p = e
implies false b e p = absurd (false≢true p)

pub implied : (a b : Bool) → (a ≡ true → b ≡ true) → (a ⇒ b) ≡ true
implied true b f = f refl
implied false b f = refl

-- ---- all numbers below n

pub all_none : (p : ℕ → Bool) → all_b 0 p ≡ true
unfolding all_b
all_none p = refl

-- one more
pub all_step : (n : ℕ) (p : ℕ → Bool) → all_b (n + 1) p ≡ (all_b n p && p n)
unfolding all_b
all_step n p = ap (λ (k : ℕ). all_b k p) (add-one n)

pub all_more : (n : ℕ) (p : ℕ → Bool) → all_b n p ≡ true → p n ≡ true → all_b (n + 1) p ≡ true
all_more n p h e = all_step n p ∙ and_i h e

pub all_at : (n : ℕ) (p : ℕ → Bool) → all_b n p ≡ true → (i : ℕ) → i < n → p i ≡ true
unfolding all_b
all_at zero p e i l = absurd (not-suc-le-zero l)
all_at (suc n) p e i l =
    ⊎_elim (λ q. ap p q ∙ and_r (all_b n p) (p n) e) (λ k. all_at n p (and_l (all_b n p) (p n) e) i k) (eq-or-lt_of_le (le_of_suc-le-suc l))

pub all_i : (n : ℕ) (p : ℕ → Bool) → ((i : ℕ) → i < n → p i ≡ true) → all_b n p ≡ true
unfolding all_b
all_i zero p h = refl
all_i (suc n) p h = and_i (all_i n p (λ i l. h i (le_trans l (le-suc n)))) (h n (le_refl (suc n)))

-- one that fails fails them all: what a loop that leaves early shows
pub all_fails : (n : ℕ) (p : ℕ → Bool) (i : ℕ) → i < n → p i ≡ false → all_b n p ≡ false
all_fails n p i l e = not_so (all_b n p) (λ t. true≢false (sym (all_at n p t i l) ∙ e))

pub any_none : (p : ℕ → Bool) → any_b 0 p ≡ false
unfolding any_b
any_none p = refl

pub any_more : (n : ℕ) (p : ℕ → Bool) → any_b (n + 1) p ≡ (any_b n p || p n)
unfolding any_b
any_more n p = ap (λ (k : ℕ). any_b k p) (add-one n)

pub up_none : {A : Type 0} (f : ℕ → A → A) (s : A) → up_to f 0 s ≡ s
unfolding up_to
up_none f s = refl

pub up_more : {A : Type 0} (f : ℕ → A → A) (n : ℕ) (s t : A) → t ≡ up_to f n s → f n t ≡ up_to f (n + 1) s
unfolding up_to
up_more f n s t e = ap (f n) e ∙ ap (λ (k : ℕ). up_to f k s) (sym (add-one n))

pub or_cases : (a b : Bool) → (a || b) ≡ true → (a ≡ true) ⊎ (b ≡ true)
or_cases true b e = inl refl
or_cases false b e = inr e

pub or_l : (a b : Bool) → a ≡ true → (a || b) ≡ true
or_l a b e = rw e

pub or_r : (a b : Bool) → b ≡ true → (a || b) ≡ true
or_r a b e = rw e (or_true a)

-- some number passes, and which
pub any_i : (n : ℕ) (p : ℕ → Bool) (i : ℕ) → i < n → p i ≡ true → any_b n p ≡ true
unfolding any_b
any_i zero p i l e = absurd (not-suc-le-zero l)
any_i (suc n) p i l e =
    ⊎_elim (λ q. or_r (any_b n p) (p n) (ap p (sym q) ∙ e)) (λ k. or_l (any_b n p) (p n) (any_i n p i k e)) (eq-or-lt_of_le (le_of_suc-le-suc l))

pub any_at : (n : ℕ) (p : ℕ → Bool) → any_b n p ≡ true → (i : ℕ) × (i < n) × (p i ≡ true)
unfolding any_b
any_at zero p e = absurd (false≢true e)
any_at (suc n) p e = ⊎_elim (λ q. let r = any_at n p q in (r.0, le_trans r.1 (le-suc n), r.2)) (λ q. (n, le_refl (suc n), q)) (or_cases (any_b n p) (p n) e)

pub any_ext : (n : ℕ) (p q : ℕ → Bool) → ((i : ℕ) → i < n → p i ≡ q i) → any_b n p ≡ any_b n q
any_ext n p q h =
    both_ways _ _
    (λ e. let a = any_at n p e in any_i n q a.0 a.1 (sym (h a.0 a.1) ∙ a.2))
    (λ e. let a = any_at n q e in any_i n p a.0 a.1 (h a.0 a.1 ∙ a.2))

pub any_or : (n : ℕ) (p q : ℕ → Bool) → any_b n (λ i. p i || q i) ≡ (any_b n p || any_b n q)
any_or n p q =
    both_ways _ _
    (λ e. let a = any_at n (λ i. p i || q i) e in
    ⊎_elim (λ b. or_l (any_b n p) _ (any_i n p a.0 a.1 b)) (λ b. or_r (any_b n p) _ (any_i n q a.0 a.1 b)) (or_cases (p a.0) (q a.0) a.2))
    (λ e. ⊎_elim
    (λ b. let a = any_at n p b in any_i n (λ i. p i || q i) a.0 a.1 (or_l (p a.0) _ a.2))
    (λ b. let a = any_at n q b in any_i n (λ i. p i || q i) a.0 a.1 (or_r (p a.0) _ a.2))
    (or_cases (any_b n p) (any_b n q) e))

-- no number passes
pub none_at : (n : ℕ) (p : ℕ → Bool) → any_b n p ≡ false → (i : ℕ) → i < n → p i ≡ false
none_at n p h i l = not_so _ (λ t. true≢false (sym (any_i n p i l t) ∙ h))

pub any_false : (n : ℕ) → any_b n (λ i. false) ≡ false
any_false n = not_so _ (λ e. false≢true (any_at n (λ i. false) e).2)

-- no number but k passes
pub any_here : (n : ℕ) (p : ℕ → Bool) (k : ℕ) → any_b n (λ i. eqb k i && p i) ≡ (ltb k n && p k)
any_here n p k =
    both_ways _ _
    (λ e. let a = any_at n (λ i. eqb k i && p i) e in
    let b = simp and-eq-true_iff at a.2 in
    let d : k ≡ a.0 = eqb-true k a.0 b.0 in and_i (lt-ltb k n (rw d a.1)) (ap p d ∙ b.1))
    (λ e. let b = simp and-eq-true_iff at e in any_i n (λ i. eqb k i && p i) k (ltb-true k n b.0) (and_i (eq-eqb k k refl) b.1))

pub any_one : (n : ℕ) (p : ℕ → Bool) (k : ℕ) → k < n → any_b n (λ i. eqb k i && p i) ≡ p k
any_one n p k l = any_here n p k ∙ ap (λ (b : Bool). b && p k) (lt-ltb k n l)
