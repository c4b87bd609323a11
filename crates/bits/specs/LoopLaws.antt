-- What a loop keeps, what it sets, and how many numbers pass.
-- Assumes nothing.
use Rattle.std.specs.Prelude.{◌≡◌, refl, ◌⊎◌, Bool, true, false, ◌||◌, ℕ, zero, suc, ◌+◌, ◌≤◌, ◌<◌}
use Rattle.std.proofs.Common.{sym, ap, ◌∙◌, subst, inl, inr, ⊎_elim, true≢false, le_of_suc-le-suc, not-suc-le-zero, zero-le, le_refl, le_trans, eq-or-lt_of_le, arith}
use Rattle.std.proofs.Math.Bool.{or_assoc}
use Rattle.std.proofs.Math.Nat.{le-suc}
use Rattle.bits.specs.All.{up_to, all_b, any_b, ◌⇒◌, one, count_b}
use Rattle.bits.specs.AllLaws.{either, or_false}

module _ {A : Type 0} (f : ℕ → A → A) where
  -- what each step keeps the loop keeps
  pub up_keeps : (P : A → Type 0) (n : ℕ) → ((i : ℕ) (s : A) → i < n → P s → P (f i s)) → (s : A) → P s → P (up_to f n s)
  unfolding up_to
  up_keeps P zero h s p = p
  up_keeps P (suc n) h s p = h n (up_to f n s) (le_refl (suc n)) (up_keeps P n (λ i t l. h i t (le_trans l (le-suc n))) s p)

  -- what holds after a step and is kept by the later ones holds at the end
  pub up_from : (P Q : A → Type 0) (n : ℕ) → ((i : ℕ) (s : A) → i < n → Q s → Q (f i s)) → ((i : ℕ) (s : A) → i < n → P s → P (f i s))
      → (k : ℕ) → k < n → ((s : A) → P s → Q (f k s)) → (s : A) → P s → Q (up_to f n s)
  unfolding up_to
  up_from P Q zero keep first k l here s p = absurd (not-suc-le-zero l)
  up_from P Q (suc n) keep first k l here s p =
      ⊎_elim
      (λ (e : k ≡ n). subst (λ (m : ℕ). Q (f m (up_to f n s))) e (here (up_to f n s) (up_keeps P n (λ i t b. first i t (le_trans b (le-suc n))) s p)))
      (λ (b : k < n). keep n (up_to f n s) (le_refl (suc n))
      (up_from P Q n (λ i t c. keep i t (le_trans c (le-suc n))) (λ i t c. first i t (le_trans c (le-suc n))) k b here s p))
      (eq-or-lt_of_le (le_of_suc-le-suc l))

  -- steps that set where p i holds, on what the loop keeps, set where some p i does
  pub up_sets : (I : A → Type 0) (has : A → Bool) (p : ℕ → Bool) (n : ℕ) → ((i : ℕ) (s : A) → I s → I (f i s))
      → ((i : ℕ) (s : A) → i < n → I s → has (f i s) ≡ (has s || p i)) → (s : A) → I s → has (up_to f n s) ≡ (has s || any_b n p)
  unfolding up_to any_b
  up_sets I has p zero k h s q = sym (or_false (has s))
  up_sets I has p (suc n) k h s q =
      h n (up_to f n s) (le_refl (suc n)) (up_keeps I n (λ i t l. k i t) s q)
      ∙ ap (λ (b : Bool). b || p n) (up_sets I has p n k (λ i t l. h i t (le_trans l (le-suc n))) s q)
      ∙ or_assoc (has s) (any_b n p) (p n)

  -- equal steps make equal loops
  pub up_ext : (g : ℕ → A → A) (n : ℕ) → ((i : ℕ) (s : A) → i < n → f i s ≡ g i s) → (s : A) → up_to f n s ≡ up_to g n s
  unfolding up_to
  up_ext g zero h s = refl
  up_ext g (suc n) h s = h n (up_to f n s) (le_refl (suc n)) ∙ ap (g n) (up_ext g n (λ i t l. h i t (le_trans l (le-suc n))) s)

-- ---- how many pass

one_le : (b : Bool) → one b ≤ 1
one_le true = le_refl 1
one_le false = zero-le

pub count_le : (n : ℕ) (p : ℕ → Bool) → count_b n p ≤ n
unfolding count_b
count_le zero p = zero-le
count_le (suc n) p = omega (arith, count_le n p, one_le (p n))

one_mono : (a b : Bool) → (a ≡ true → b ≡ true) → one a ≤ one b
one_mono true b h = rw (h refl) (le_refl 1)
one_mono false b h = zero-le

pub count_mono : (n : ℕ) (p q : ℕ → Bool) → ((i : ℕ) → i < n → p i ≡ true → q i ≡ true) → count_b n p ≤ count_b n q
unfolding count_b
count_mono zero p q h = zero-le
count_mono (suc n) p q h =
    omega (arith, count_mono n p q (λ i l. h i (le_trans l (le-suc n))), one_mono (p n) (q n) (h n (le_refl (suc n))))

-- one more passes where not all that pass now passed before
pub count_more : (n : ℕ) (p q : ℕ → Bool) → ((i : ℕ) → i < n → p i ≡ true → q i ≡ true) → all_b n (λ i. q i ⇒ p i) ≡ false → count_b n p < count_b n q
unfolding count_b all_b
count_more zero p q h e = absurd (true≢false e)
count_more (suc n) p q h e =
    go (either (all_b n (λ i. q i ⇒ p i))) (λ e'. count_more n p q (λ i l. h i (le_trans l (le-suc n))) e')
  where
    last : (a b : Bool) → (b ⇒ a) ≡ false → one a < one b
    last true true f = absurd (true≢false f)
    last true false f = absurd (true≢false f)
    last false true f = le_refl 1
    last false false f = absurd (true≢false f)

    go : (all_b n (λ i. q i ⇒ p i) ≡ true) ⊎ (all_b n (λ i. q i ⇒ p i) ≡ false) → (all_b n (λ i. q i ⇒ p i) ≡ false → count_b n p < count_b n q)
        → count_b n p + one (p n) < count_b n q + one (q n)
    go (inl t) rest =
        let f : (q n ⇒ p n) ≡ false = rw t at e in
        omega (arith, count_mono n p q (λ i l. h i (le_trans l (le-suc n))), last (p n) (q n) f)
    go (inr t) rest = omega (arith, rest t, one_mono (p n) (q n) (h n (le_refl (suc n))))
