-- Laws of the line of the marked numbers.
-- Assumes nothing.
use Rattle.std.specs.Prelude.{◌≡◌, refl, Bool, true, false, [], ◌∷◌, ◌++◌, ℕ, zero, suc, ◌+◌, ◌-◌, ◌*◌, ◌≤◌, ◌<◌, length, ltb}
use Rattle.std.proofs.Common.{ap, ◌∙◌, inl, inr, append-nil, add-zero, add-suc, arith, add-one, length-append, ltb-true, ltb-false}
use Rattle.std.proofs.Math.Seq.{append_snoc}
use Rattle.bits.specs.AllLaws.{either}
use Rattle.rows.specs.Size.{numbers}
use Rattle.model.specs.declared.Report.{Report}
use Rattle.model.specs.Monitor.{next_marked, next_marked_of}
use Rattle.marking.specs.FirstLaws.{First, first_of}
use Rattle.script.specs.Print.{decimal, line_feed, Printed}
use Rattle.script.specs.declared.text.Text.{Text}
use Rattle.script.specs.PrintLaws.{nothing_printed, then, small}
use Rattle.trail.specs.Buffers.{marked_size}
use Rattle.trail.specs.Marked.{marked_text, listed, is_marked, marked_line}

-- numbers that do not pass add nothing
listed_same : (p : ℕ → Bool) (n k : ℕ) → ((j : ℕ) → n ≤ j → j < n + k → p j ≡ false) → listed p (n + k) ≡ listed p n
unfolding listed
listed_same p n zero h = ap (listed p) (add-zero n)
listed_same p n (suc k) h = ap (listed p) (add-suc n k) ∙ rw (h (n + k) (omega arith) (omega arith)) (append-nil (listed p (n + k)) ∙ listed_same p n k (λ j a b. h j a (omega arith)))

-- numbers that pass alike are listed alike
pub listed_alike : (p q : ℕ → Bool) (k : ℕ) → ((x : ℕ) → x < k → p x ≡ q x) → listed p k ≡ listed q k
unfolding listed
listed_alike p q zero h = refl
listed_alike p q (suc k) h = rw (h k (omega arith), listed_alike p q k (λ x l. h x (omega arith)))

pub listed_more : (p : ℕ → Bool) (n : ℕ) → p n ≡ true → listed p (n + 1) ≡ listed p n ++ 32 ∷ decimal n
unfolding listed
listed_more p n e = rw (add-one, e)

pub listed_short : (p : ℕ → Bool) (n : ℕ) → length (listed p n) ≤ 4 * n
unfolding listed
listed_short p zero = omega arith
listed_short p (suc n) =
    let h = listed_short p n in
    elim (either (p n)) [
      | inl e ↦ rw e (simp length-append (omega (arith, small n)))
      | inr e ↦ rw e (simp length-append (omega arith))
    ]

-- n is the next marked number from `from` on, or `numbers`
pub record IsNext (r : Report) (from n : ℕ) : Type 0 where
  pub within : n ≤ numbers
  pub above : from ≤ n
  pub same : listed (is_marked r) n ≡ listed (is_marked r) from
  pub marked : n < numbers → is_marked r n ≡ true

pub next : (r : Report) (from n : ℕ) → from ≤ numbers → n ≡ next_marked r from → IsNext r from n
unfolding next_marked_of
next r from n h e =
    elim (either (ltb from numbers)) [
      | inl t ↦ by_first (first_of (numbers - from) (omega (arith, ltb-true from numbers t)) (e ∙ rw t))
      | inr t ↦ let z : from ≡ numbers = omega (arith, ltb-false from numbers t) in let y : n ≡ numbers = e ∙ rw t in record { within = omega arith; above = omega arith; same = rw (y, z); marked = λ l. absurd (omega arith) }
    ]
  where
    by_first : First (is_marked r) from numbers n → IsNext r from n
    by_first f =
        let z : from + (n - from) ≡ n = omega (arith, f.above) in
        record {
          within = omega (arith, f.within);
          above = f.above;
          same = rw z at (listed_same (is_marked r) from (n - from) (λ j a b. f.none j a (omega (arith, f.above))));
          marked = λ l. f.passes (omega (arith, f.above));
        }

-- ---- what is printed when n is the next

pub record UpTo {k : ℕ} (r : Report) (a b : Text k) (n : ℕ) : Type 0 where
  pub text : Printed a (listed (is_marked r) n) b
  pub within : n ≤ numbers
  pub marked : n < numbers → is_marked r n ≡ true

pub none_yet : {k : ℕ} (a : Text k) {r : Report} {n : ℕ} → IsNext r 0 n → UpTo r a a n
unfolding listed
none_yet a i = record { text = rw i.same (nothing_printed a); within = i.within; marked = i.marked }

pub one_more_law : {l : ℕ} {r : Report} {a b c d : Text l} {n k : ℕ} → UpTo r a b n → n < numbers → Printed b (32 ∷ []) c → Printed c (decimal n) d → IsNext r (n + 1) k → UpTo r a d k
one_more_law {r = r} {n = n} u h p q i =
    record {
      text = rw (i.same, listed_more (is_marked r) n (u.marked h), ← append_snoc (listed (is_marked r) n) 32 (decimal n)) (then (then u.text p) q);
      within = i.within;
      marked = i.marked;
    }

pub all_listed : {l : ℕ} {r : Report} {o a b c : Text l} {n : ℕ} → Printed o marked_text a → UpTo r a b n → numbers ≤ n → Printed b (line_feed ∷ []) c → Printed o (marked_line r) c
unfolding marked_line
all_listed {n = n} p u h q = let z : n ≡ numbers = omega (arith, u.within) in rw (← z) (then (then p u.text) q)

pub marked_short : (r : Report) → length (marked_line r) ≤ marked_size
unfolding marked_line marked_text
marked_short r = omega (arith, length-append (marked_text ++ listed (is_marked r) numbers) (line_feed ∷ []), length-append marked_text (listed (is_marked r) numbers), listed_short (is_marked r) numbers)
