-- One reading of a number, of a word with its number, of an object's words and of a task: what is written is read, and what is read was written.
-- Assumes nothing.
use Rattle.std.specs.Prelude.{◌≡◌, ◌⊎◌, Bool, true, false, cond, List, [], ◌∷◌, ◌++◌, ℕ, zero, suc, ◌+◌, ◌-◌, ◌*◌, ◌/◌, ◌%◌, ◌≤◌, ◌<◌, leb, eqb, length}
use Rattle.std.proofs.Math.Path.{refl}
use Rattle.std.proofs.Common.{sym, ap, ◌∙◌, inl, inr, arith, length-append, eqb-true, eq-eqb, ne_eqb, le-leb, leb-true, lt-ltb, le-ltb}
use Rattle.std.proofs.Math.Decide.{dec_lt}
use Rattle.std.proofs.lemmas.Bool.{eqb-false}
use Rattle.bits.specs.AllLaws.{and_l, and_r}
use Rattle.layout.specs.Layout.{Object, Task, ObjectFits, TaskFits, most_number, closing, object_word, driver_word, level_word, task_word, image_word, reads_word, digit, decimal, field_text, head_text, task_text}
use Rattle.layout.specs.Reading.{Reading, found, lost, after, expect, is_digit, more_digits, number, field, head, task_at}

-- ---- readings

pub found_inj : {A : Type 0} (a b : A) (t u : List ℕ) → found a t ≡ found b u → (a ≡ b) × (t ≡ u)
found_inj a b t u e = (cc, cc)

pub lost_found : {A B : Type 0} (b : A) (t u : List ℕ) → lost t ≡ found b u → B
lost_found b t u e = let z : ◌≡◌ {A = ℕ} 0 1 = cc in absurd (omega arith)

pub after_found : {A B : Type 0} (r : Reading A) (k : A → List ℕ → Reading B) (b : B) (u : List ℕ) → after r k ≡ found b u
    → (a : A) × (t : List ℕ) × (r ≡ found a t) × (k a t ≡ found b u)
unfolding after
after_found (found a t) k b u e = (a, t, refl, e)
after_found (lost t) k b u e = lost_found b t u e

pub expect_found : {A : Type 0} (c : ℕ) (a b : A) (t u : List ℕ) → expect c a t ≡ found b u → (a ≡ b) × (t ≡ c ∷ u)
unfolding expect
expect_found c a b [] u e = lost_found b [] u e
expect_found c a b (x ∷ t) u e = go (eqb x c) refl e
  where
    go : (y : Bool) → eqb x c ≡ y → cond y (found a t) (lost (x ∷ t)) ≡ found b u → (a ≡ b) × (x ∷ t ≡ c ∷ u)
    go true p q = let x_is = eqb-true x c p in let i = found_inj a b t u q in (i.0, rw (x_is, i.1))
    go false p q = lost_found b (x ∷ t) u q

pub expect_is : {A : Type 0} (c : ℕ) (a : A) (t : List ℕ) → expect c a (c ∷ t) ≡ found a t
unfolding expect
expect_is c a t = rw (eq-eqb c c refl)

-- ---- digits

-- a digit stands in front
unfoldable pub starts : List ℕ → Bool
starts [] = false
starts (b ∷ t) = is_digit b

pub digit_is : (d : ℕ) → d ≤ 9 → is_digit (48 + d) ≡ true
unfolding is_digit
digit_is d h = rw (le-leb 48 (48 + d) (omega arith), le-leb (48 + d) 57 (omega arith))

pub digit_bounds : (b : ℕ) → is_digit b ≡ true → (48 ≤ b) × (b ≤ 57)
unfolding is_digit
digit_bounds b e = (leb-true 48 b (and_l _ _ e), leb-true b 57 (and_r (leb 48 b) _ e))

pub more_stop : (k v : ℕ) (t : List ℕ) → starts t ≡ false → more_digits k v t ≡ found v t
unfolding starts more_digits
more_stop zero v t e = refl
more_stop (suc k) v [] e = refl
more_stop (suc k) v (b ∷ t) e = rw e

pub more_digit : (k v d : ℕ) (t : List ℕ) → d ≤ 9 → more_digits (suc k) v (digit d ∷ t) ≡ more_digits k (10 * v + d) t
unfolding more_digits
more_digit k v d t h = let e : 48 + d - 48 ≡ d = omega arith in rw (digit_is d h, e)

pub first_digit : (d : ℕ) (t : List ℕ) → 1 ≤ d → d ≤ 9 → number (digit d ∷ t) ≡ more_digits 2 d t
unfolding number
first_digit d t l h = let e : 48 + d - 48 ≡ d = omega arith in rw (ne_eqb (48 + d) 48 (omega arith), digit_is d h, e)

-- what stands behind the number v: no more of it, or a digit
pub more_inv : (k v : ℕ) (t : List ℕ) → (more_digits (suc k) v t ≡ found v t) ⊎ ((d : ℕ) × (s : List ℕ) × (d ≤ 9) × (t ≡ digit d ∷ s) × (more_digits (suc k) v t ≡ more_digits k (10 * v + d) s))
unfolding more_digits
more_inv k v [] = inl refl
more_inv k v (b ∷ t) = go (is_digit b) refl
  where
    go : (y : Bool) → is_digit b ≡ y
        → (cond y (more_digits k (10 * v + (b - 48)) t) (found v (b ∷ t)) ≡ found v (b ∷ t))
        ⊎ ((d : ℕ) × (s : List ℕ) × (d ≤ 9) × (b ∷ t ≡ digit d ∷ s) × (cond y (more_digits k (10 * v + (b - 48)) t) (found v (b ∷ t)) ≡ more_digits k (10 * v + d) s))
    go false e = inl refl
    go true e =
        let h = digit_bounds b e in
        let is : b ≡ 48 + (b - 48) = omega (arith, h) in
        inr (b - 48, t, omega (arith, h), ap (λ (x : ℕ). x ∷ t) is, refl)

-- ---- decimal

decimal_one : (n : ℕ) → n ≤ 9 → decimal n ≡ digit n ∷ []
unfolding decimal
decimal_one n h = rw (lt-ltb n 10 (omega arith))

decimal_two : (a b : ℕ) → 1 ≤ a → a ≤ 9 → b ≤ 9 → decimal (10 * a + b) ≡ digit a ∷ digit b ∷ []
unfolding decimal
decimal_two a b l h g =
    let p : (10 * a + b) / 10 ≡ a = omega arith in
    let q : (10 * a + b) % 10 ≡ b = omega arith in
    rw (le-ltb (10 * a + b) 10 (omega arith), lt-ltb (10 * a + b) 100 (omega arith), p, q)

decimal_three : (a b c : ℕ) → 1 ≤ a → a ≤ 9 → b ≤ 9 → c ≤ 9 → decimal (10 * (10 * a + b) + c) ≡ digit a ∷ digit b ∷ digit c ∷ []
unfolding decimal
decimal_three a b c l h g i =
    let p : (10 * (10 * a + b) + c) / 100 ≡ a = omega arith in
    let q : (10 * (10 * a + b) + c) / 10 % 10 ≡ b = omega arith in
    let r : (10 * (10 * a + b) + c) % 10 ≡ c = omega arith in
    rw (le-ltb (10 * (10 * a + b) + c) 10 (omega arith), le-ltb (10 * (10 * a + b) + c) 100 (omega arith), p, q, r)

-- every number up to 999 has one, two or three digits
pub data Digits : ℕ → Type 0 where
  nought : Digits 0
  one : (a : ℕ) → 1 ≤ a → a ≤ 9 → Digits a
  two : (a b : ℕ) → 1 ≤ a → a ≤ 9 → b ≤ 9 → Digits (10 * a + b)
  three : (a b c : ℕ) → 1 ≤ a → a ≤ 9 → b ≤ 9 → c ≤ 9 → Digits (10 * (10 * a + b) + c)

pub digits : (n : ℕ) → n ≤ most_number → Digits n
digits n h =
    elim (dec_lt n 1) [
      | yes p ↦ let e : 0 ≡ n = omega arith in rw e at nought
      | no p ↦ elim (dec_lt n 10) [
        | yes q ↦ one n (omega arith) (omega arith)
        | no q ↦ elim (dec_lt n 100) [
          | yes r ↦ let e : 10 * (n / 10) + n % 10 ≡ n = omega arith in rw e at (two (n / 10) (n % 10) (omega arith) (omega arith) (omega arith))
          | no r ↦ let e : 10 * (10 * (n / 100) + n / 10 % 10) + n % 10 ≡ n = omega arith in rw e at (three (n / 100) (n / 10 % 10) (n % 10) (omega arith) (omega arith) (omega arith) (omega arith))
        ]
      ]
    ]

written_digits : {n : ℕ} → Digits n → (rest : List ℕ) → starts rest ≡ false → number (decimal n ++ rest) ≡ found n rest
written_digits nought rest e = unfold number decimal in refl
written_digits (one a l h) rest e = rw (decimal_one a h) (first_digit a rest l h ∙ more_stop 2 a rest e)
written_digits (two a b l h g) rest e = rw (decimal_two a b l h g) (first_digit a _ l h ∙ more_digit 1 a b rest g ∙ more_stop 1 _ rest e)
written_digits (three a b c l h g i) rest e =
    rw (decimal_three a b c l h g i) (first_digit a _ l h ∙ more_digit 1 a b _ g ∙ more_digit 0 _ c rest i ∙ more_stop 0 _ rest e)

pub number_written : (n : ℕ) (rest : List ℕ) → n ≤ most_number → starts rest ≡ false → number (decimal n ++ rest) ≡ found n rest
number_written n rest h e = written_digits (digits n h) rest e

-- v was read, and s remains
number_end : (v n : ℕ) (s t u : List ℕ) → v ≤ most_number → t ≡ decimal v ++ s → found v s ≡ found n u → (n ≤ most_number) × (t ≡ decimal n ++ u)
number_end v n s t u h e f = let i = found_inj v n s u f in rw (← i.0, ← i.1) (h, e)

third : (a b n : ℕ) (s t u : List ℕ) → 1 ≤ a → a ≤ 9 → b ≤ 9 → t ≡ digit a ∷ digit b ∷ s → more_digits 1 (10 * a + b) s ≡ found n u → (n ≤ most_number) × (t ≡ decimal n ++ u)
third a b n s t u l h g e f =
    elim (more_inv 0 (10 * a + b) s) [
      | inl stop ↦ number_end (10 * a + b) n s t u (omega arith) (rw (decimal_two a b l h g) e) (sym stop ∙ f)
      | inr more ↦
          let c = more.0 in
          number_end (10 * (10 * a + b) + c) n more.1 t u (omega (arith, more.2)) (rw (decimal_three a b c l h g more.2, ← more.3) e)
          (sym (more.4 ∙ (unfold more_digits in refl)) ∙ f)
    ]

second : (a n : ℕ) (s t u : List ℕ) → 1 ≤ a → a ≤ 9 → t ≡ digit a ∷ s → more_digits 2 a s ≡ found n u → (n ≤ most_number) × (t ≡ decimal n ++ u)
second a n s t u l h e f =
    elim (more_inv 1 a s) [
      | inl stop ↦ number_end a n s t u (omega arith) (rw (decimal_one a h) e) (sym stop ∙ f)
      | inr more ↦ third a more.0 n more.1 t u l h more.2 (rw (← more.3) e) (sym more.4 ∙ f)
    ]

pub number_read : (t : List ℕ) (n : ℕ) (u : List ℕ) → number t ≡ found n u → (n ≤ most_number) × (t ≡ decimal n ++ u)
unfolding number
number_read [] n u e = lost_found n [] u e
number_read (b ∷ t) n u e = go (eqb b 48) (is_digit b) refl refl e
  where
    go : (y z : Bool) → eqb b 48 ≡ y → is_digit b ≡ z → cond y (found 0 t) (cond z (more_digits 2 (b - 48) t) (lost (b ∷ t))) ≡ found n u → (n ≤ most_number) × (b ∷ t ≡ decimal n ++ u)
    go true z p q f = let is = eqb-true b 48 p in number_end 0 n t (b ∷ t) u (omega arith) (rw (is, decimal_one 0 (omega arith))) f
    go false true p q f =
        let h = digit_bounds b q in
        let ne = eqb-false b 48 p in
        let is : b ≡ 48 + (b - 48) = omega (arith, h) in
        second (b - 48) n t (b ∷ t) u (omega (arith, h, ne)) (omega (arith, h)) (ap (λ (x : ℕ). x ∷ t) is) f
    go false false p q f = lost_found n (b ∷ t) u f

-- ---- a word and its number

pub field_written : (w : List ℕ) (n : ℕ) (rest : List ℕ) → n ≤ most_number → starts rest ≡ false → field w (field_text w n rest) ≡ found n rest
unfolding field field_text
field_written [] n rest h e = number_written n rest h e
field_written (c ∷ w) n rest h e = rw (eq-eqb c c refl) (field_written w n rest h e)

pub field_read : (w t : List ℕ) (n : ℕ) (u : List ℕ) → field w t ≡ found n u → (n ≤ most_number) × (t ≡ field_text w n u)
unfolding field field_text
field_read [] t n u e = number_read t n u e
field_read (c ∷ w) [] n u e = lost_found n [] u e
field_read (c ∷ w) (b ∷ t) n u e = go (eqb b c) refl e (field_read w t n u)
  where
    go : (y : Bool) → eqb b c ≡ y → cond y (field w t) (lost (b ∷ t)) ≡ found n u → (field w t ≡ found n u → (n ≤ most_number) × (t ≡ w ++ (decimal n ++ u))) → (n ≤ most_number) × (b ∷ t ≡ c ∷ (w ++ (decimal n ++ u)))
    go true p f ih = let is = eqb-true b c p in let i = ih f in (i.0, rw (is, ← i.1))
    go false p f ih = lost_found n (b ∷ t) u f

-- ---- an object's words

pub head_written : (h : Object) (rest : List ℕ) → ObjectFits h → starts rest ≡ false → head (head_text h rest) ≡ found h rest
unfolding head head_text after
head_written h rest g e =
    rw (
      field_written object_word h.number (field_text driver_word h.driver (field_text level_word h.level rest)) g.0 (unfold starts is_digit field_text driver_word in refl),
      field_written driver_word h.driver (field_text level_word h.level rest) g.1 (unfold starts is_digit field_text level_word in refl),
      field_written level_word h.level rest g.2 e,
    )

head_of : (n d l : ℕ) (h : Object) (t u v w x : List ℕ) → (n ≤ most_number) × (t ≡ field_text object_word n u) → (d ≤ most_number) × (u ≡ field_text driver_word d v) → (l ≤ most_number) × (v ≡ field_text level_word l w)
    → (record { number = n; driver = d; level = l } ≡ h) × (w ≡ x) → ObjectFits h × (t ≡ head_text h x)
unfolding head_text
head_of n d l h t u v w x N D L i = rw (← i.0, ← i.1) ((N.0, D.0, L.0), rw (N.1, D.1, L.1))

pub head_read : (t : List ℕ) (h : Object) (u : List ℕ) → head t ≡ found h u → ObjectFits h × (t ≡ head_text h u)
unfolding head head_text
head_read t h u e =
    let n = after_found (field object_word t) _ h u e in
    let d = after_found (field driver_word n.1) _ h u n.3 in
    let l = after_found (field level_word d.1) _ h u d.3 in
    let N = field_read object_word t n.0 n.1 n.2 in
    let D = field_read driver_word n.1 d.0 d.1 d.2 in
    let L = field_read level_word d.1 l.0 l.1 l.2 in
    head_of n.0 d.0 l.0 h t n.1 d.1 l.1 u N D L (found_inj _ h l.1 u l.3)

-- ---- a task

pub task_written : (a : Task) (rest : List ℕ) → TaskFits a → task_at (task_text a rest) ≡ found a rest
unfolding task_at task_text after
task_written a rest g =
    rw (
      field_written task_word a.number (field_text image_word a.image (field_text level_word a.level (field_text reads_word a.reads (closing ∷ rest)))) g.0 (unfold starts is_digit field_text image_word in refl),
      field_written image_word a.image (field_text level_word a.level (field_text reads_word a.reads (closing ∷ rest))) g.1 (unfold starts is_digit field_text level_word in refl),
      field_written level_word a.level (field_text reads_word a.reads (closing ∷ rest)) g.2 (unfold starts is_digit field_text reads_word in refl),
      field_written reads_word a.reads (closing ∷ rest) g.3 (unfold starts is_digit in refl),
    )
    (expect_is closing a rest)

task_of : (n i l r : ℕ) (a : Task) (t u v w x y : List ℕ) → (n ≤ most_number) × (t ≡ field_text task_word n u) → (i ≤ most_number) × (u ≡ field_text image_word i v) → (l ≤ most_number) × (v ≡ field_text level_word l w) → (r ≤ most_number) × (w ≡ field_text reads_word r x)
    → (record { number = n; image = i; level = l; reads = r } ≡ a) × (x ≡ closing ∷ y) → TaskFits a × (t ≡ task_text a y)
unfolding task_text
task_of n i l r a t u v w x y N I L R c = rw (← c.0) ((N.0, I.0, L.0, R.0), rw (N.1, I.1, L.1, R.1, c.1))

pub task_read : (t : List ℕ) (a : Task) (u : List ℕ) → task_at t ≡ found a u → TaskFits a × (t ≡ task_text a u)
unfolding task_at task_text
task_read t a u e =
    let n = after_found (field task_word t) _ a u e in
    let i = after_found (field image_word n.1) _ a u n.3 in
    let l = after_found (field level_word i.1) _ a u i.3 in
    let r = after_found (field reads_word l.1) _ a u l.3 in
    let N = field_read task_word t n.0 n.1 n.2 in
    let I = field_read image_word n.1 i.0 i.1 i.2 in
    let L = field_read level_word i.1 l.0 l.1 l.2 in
    let R = field_read reads_word l.1 r.0 r.1 r.2 in
    task_of n.0 i.0 l.0 r.0 a t n.1 i.1 l.1 r.1 u N I L R (expect_found closing _ a r.1 u r.3)

-- ---- lengths

pub field_longer : (w : List ℕ) (n : ℕ) (rest : List ℕ) → length w + length rest ≤ length (field_text w n rest)
unfolding field_text
field_longer w n rest = omega (arith, length-append w (decimal n ++ rest), length-append (decimal n) rest)

pub head_longer : (h : Object) (rest : List ℕ) → length rest < length (head_text h rest)
unfolding head_text object_word
head_longer h rest =
    omega (arith, field_longer object_word h.number (field_text driver_word h.driver (field_text level_word h.level rest)), field_longer driver_word h.driver (field_text level_word h.level rest), field_longer level_word h.level rest)

pub task_longer : (a : Task) (rest : List ℕ) → length rest < length (task_text a rest)
unfolding task_text
task_longer a rest =
    let r = field_text reads_word a.reads (closing ∷ rest) in
    let l = field_text level_word a.level r in
    let i = field_text image_word a.image l in
    omega (arith, field_longer task_word a.number i, field_longer image_word a.image l, field_longer level_word a.level r, field_longer reads_word a.reads (closing ∷ rest))
