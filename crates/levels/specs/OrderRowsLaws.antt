-- The order's test by whole rows is the order's test.
-- Assumes nothing.
use Rattle.std.specs.Prelude.{◌≡◌, refl, ◌⊎◌, Bool, true, false, not, ◌&&◌, ◌||◌, List, ℕ, zero, suc, ◌+◌, ◌-◌, ◌*◌, ◌/◌, ◌%◌, ◌^◌, ◌≤◌, ◌<◌, ltb, eqb, get_or}
use Rattle.std.proofs.Common.{sym, ap, ◌∙◌, subst, inl, inr, ⊎_elim, true≢false, lt_of_not-le, not-suc-le-zero, one-mul, arith, shr-shr, ltb-true, lt-ltb, leb-true, le-leb, eqb-true, eq-eqb, ltb-false}
use Rattle.std.proofs.lemmas.Bool.{not-true, eqb-false}
use Rattle.std.proofs.Math.Bool.{and-eq-true_iff}
use Rattle.std.specs.Int.Bits.{bit_and, bit_or, or_add_and, or_shifted_r, and_le_l}
use Rattle.std.proofs.lemmas.Nat.{or_lt, and_le_r, leading_top, shr_le}
use Rattle.std.specs.Int.Count.{count_trailing_zeros, count_leading_zeros}
use Rattle.std.proofs.Math.Pow.{pow-lt}
use Rattle.bits.specs.Bit.{bit}
use Rattle.bits.specs.BitLaws.{bit_and_law, bit_or_law, bit_not, bit_pow, bit_zero, bit_below, bit_ext, bit_rest, trailing_set}
use Rattle.bits.specs.All.{all_b, ◌⇒◌}
use Rattle.bits.specs.AllLaws.{and_i, and_l, and_r, and-false, and-true, or_false, or_true, either, both_ways, not_so, implies, implied, all_at, all_i, all_fails, or_l, or_r, or_cases}
use Rattle.levels.specs.declared.Order.{Order}
use Rattle.levels.specs.Order.{most_levels, related, in_order, at_or_below, count_fits, reflexive, transitive, antisymmetric, below_top, clear_outside, order_passes}
use Rattle.levels.specs.OrderLaws.{IsOrder, is_order, both_in, at_i, at_related}
use Rattle.levels.specs.OrderRows.{RowsFit, within, closed, Covered, AllCovered, Passed, above, row_fits, level_passes, LevelCovered, rest_empty, rows_pass}

-- ---- bits

-- the highest bit, and those below it
top_bit : (w b c : ℕ) → 2 ^ b ≤ w → w < 2 ^ suc b → bit w c ≡ (bit (w - 2 ^ b) c || eqb c b)
top_bit w b c l h =
    let e : w ≡ bit_or (w - 2 ^ b) (2 ^ b) = sym (ap (bit_or (w - 2 ^ b)) (sym (one-mul (2 ^ b))) ∙ or_shifted_r 1 b (w - 2 ^ b) (omega arith) ∙ omega arith) in
    ap (λ (x : ℕ). bit x c) e ∙ bit_or_law (w - 2 ^ b) (2 ^ b) c ∙ rw (bit_pow b c)

-- where it is
pub top_below : (w : ℕ) → 0 < w → w < 2 ^ 16 → count_leading_zeros 16 w ≤ 15
top_below w some h = omega (arith, (leading_top 16 w some h).1)

pub top_place : (w : ℕ) → 0 < w → w < 2 ^ 16 → (2 ^ (15 - count_leading_zeros 16 w) ≤ w) × (w < 2 ^ suc (15 - count_leading_zeros 16 w))
top_place w some h =
    let t = leading_top 16 w some h in
    let e : 15 - count_leading_zeros 16 w ≡ t.0 = omega (arith, t.1) in
    rw e (t.2, t.3)

pub top_less : (w m : ℕ) → 0 < w → w < 2 ^ 16 → bit_and (w - 2 ^ (15 - count_leading_zeros 16 w)) m < w
top_less w m some h = omega (arith, top_place w some h, and_le_l (w - 2 ^ (15 - count_leading_zeros 16 w)) m)

bit_shift : (w k i : ℕ) → bit (w / 2 ^ k) i ≡ bit w (k + i)
unfolding bit
bit_shift w k i = ap (λ (x : ℕ). eqb (x % 2) 1) (shr-shr w k i)

-- `w >> k` is 0 where w has no bit from k on
pub short_i : (k w : ℕ) → w < 2 ^ 16 → ((b : ℕ) → b < 16 → bit w b ≡ true → b < k) → w / 2 ^ k ≡ 0
short_i k w h f =
    bit_ext 16 (w / 2 ^ k) 0 (omega (arith, shr_le w k)) (omega arith)
    (λ i l. bit_shift w k i ∙ not_so (bit w (k + i)) (λ e. omega (arith, f (k + i) (bit_below 16 w (k + i) h e) e)) ∙ sym (bit_zero i))

pub short_at : (k w b : ℕ) → w / 2 ^ k ≡ 0 → bit w b ≡ true → b < k
short_at k w b h e = lt_of_not-le λ (l : k ≤ b).
    let f : b ≡ k + (b - k) = omega arith in
    true≢false (sym e ∙ ap (bit w) f ∙ sym (bit_shift w k (b - k)) ∙ ap (λ (x : ℕ). bit x (b - k)) h ∙ bit_zero (b - k))

-- ---- rows within rows

or_keeps : (x y : Bool) → (x ≡ true → y ≡ true) → (x || y) ≡ y
or_keeps true y h = sym (h refl)
or_keeps false y h = refl

within_at : (rows : List ℕ) (w b : ℕ) → within rows w b ≡ true → (c : ℕ) → bit (get_or rows b 0) c ≡ true → bit w c ≡ true
unfolding within
within_at rows w b e c p = ap (λ (x : ℕ). bit x c) (sym (eqb-true _ w e)) ∙ bit_or_law (get_or rows b 0) w c ∙ or_l (bit (get_or rows b 0) c) (bit w c) p

within_i : (rows : List ℕ) (w b : ℕ) → get_or rows b 0 < 2 ^ 16 → w < 2 ^ 16 → ((c : ℕ) → bit (get_or rows b 0) c ≡ true → bit w c ≡ true) → within rows w b ≡ true
unfolding within
within_i rows w b hr hw h =
    eq-eqb _ w (bit_ext 16 (bit_or (get_or rows b 0) w) w (or_lt 16 (get_or rows b 0) w hr hw) hw
    (λ c l. bit_or_law (get_or rows b 0) w c ∙ or_keeps (bit (get_or rows b 0) c) (bit w c) (h c)))

closed_i : (rows : List ℕ) (w : ℕ) → ((b : ℕ) → b < 16 → bit w b ≡ true → within rows w b ≡ true) → closed rows w ≡ true
unfolding closed
closed_i rows w h = all_i most_levels _ (λ b l. implied (bit w b) (within rows w b) (h b l))

closed_at : (rows : List ℕ) (w b : ℕ) → closed rows w ≡ true → b < 16 → bit w b ≡ true → within rows w b ≡ true
unfolding closed
closed_at rows w b e l = implies (bit w b) (within rows w b) (all_at most_levels (λ b. bit w b ⇒ within rows w b) e b l)

bit_above : (rows : List ℕ) (a b : ℕ) → a < 16 → b < 16 → bit (above rows a) b ≡ (bit (get_or rows a 0) b && not (eqb b a))
unfolding above
bit_above rows a b la lb =
    bit_and_law (get_or rows a 0) ((2 ^ 16 - 1) - 2 ^ a) b
    ∙ ap (λ (x : Bool). bit (get_or rows a 0) b && x) (bit_not 16 (2 ^ a) b (pow-lt la) lb ∙ ap not (bit_pow a b))

above_row : (rows : List ℕ) (a b : ℕ) → bit (above rows a) b ≡ true → bit (get_or rows a 0) b ≡ true
unfolding above
above_row rows a b e = and_l (bit (get_or rows a 0) b) _ (sym (bit_and_law (get_or rows a 0) ((2 ^ 16 - 1) - 2 ^ a) b) ∙ e)

above_le : (rows : List ℕ) (a : ℕ) → above rows a ≤ get_or rows a 0
unfolding above
above_le rows a = and_le_l (get_or rows a 0) ((2 ^ 16 - 1) - 2 ^ a)

above_lt : (rows : List ℕ) (a : ℕ) → RowsFit rows → above rows a < 2 ^ 16
above_lt rows a fits = omega (arith, above_le rows a, fits a)

-- a level c above a, its row within what is above a, has less above it
above_less : (rows : List ℕ) (a c : ℕ) → c < 16 → bit (above rows a) c ≡ true → within rows (above rows a) c ≡ true → above rows c < above rows a
unfolding within
above_less rows a c l p e =
    let row = get_or rows c 0 in
    let w = above rows a in
    let not_in : bit (above rows c) c ≡ false = bit_above rows c c l l ∙ rw (eq-eqb c c refl) (and-false (bit row c)) in
    let other : above rows c ≡ w → ⊥ = λ q. true≢false (sym p ∙ ap (λ (x : ℕ). bit x c) (sym q) ∙ not_in) in
    omega (arith, other, above_le rows c, or_add_and row w, and_le_r row w, eqb-true _ w e)

-- ---- the walk over the levels of w

pub rest_less : (left : ℕ) → 0 < left → bit_and left (left - 1) < left
rest_less left some = omega (arith, and_le_r left (left - 1))

module _ (rows : List ℕ) (w : ℕ) where
  pub passed_none : w < 2 ^ 16 → Passed rows w w
  passed_none l = record { fits = l; of_w = λ c p. p; done = λ c p. inl p }

  pub passed_all : Passed rows w 0 → AllCovered rows w
  passed_all s c p = ⊎_elim (λ q. absurd (true≢false (sym q ∙ bit_zero c))) (λ q. q) (s.done c p)

  module _ (left : ℕ) (s : Passed rows w left) where
    -- the levels in the row of b, which is within w, are covered
    pub passed_over : (b : ℕ) → bit w b ≡ true → get_or rows b 0 < 2 ^ 16 → within rows w b ≡ true → Passed rows w (bit_and left ((2 ^ 16 - 1) - get_or rows b 0))
    unfolding Covered
    passed_over b p h e =
        record {
          fits = omega (arith, and_le_l left ((2 ^ 16 - 1) - row), s.fits);
          of_w = λ c q. s.of_w c (and_l (bit left c) _ (sym (bit_and_law left ((2 ^ 16 - 1) - row) c) ∙ q));
          done = λ c q. ⊎_elim (λ r. go c r (either (bit row c))) inr (s.done c q);
        }
      where
        row : ℕ
        row = get_or rows b 0

        go : (c : ℕ) → bit left c ≡ true → (bit row c ≡ true) ⊎ (bit row c ≡ false) → (bit (bit_and left ((2 ^ 16 - 1) - row)) c ≡ true) ⊎ Covered rows w c
        go c q (inl u) = inr (inr (b, p, e, u))
        go c q (inr u) = inl (bit_and_law left ((2 ^ 16 - 1) - row) c ∙ rw (q, bit_not 16 row c h (bit_below 16 left c s.fits q), u))

    -- b is of w, and is left out of the rest once its row is within w
    pub passed_fails : (b : ℕ) → bit left b ≡ true → within rows w b ≡ false → closed rows w ≡ false
    unfolding closed
    passed_fails b p e = all_fails most_levels _ b (bit_below 16 left b s.fits p) (rw (s.of_w b p, e))

    passed_one : (b rest : ℕ) → within rows w b ≡ true → rest < 2 ^ 16 → ((c : ℕ) → bit left c ≡ (bit rest c || eqb c b)) → Passed rows w rest
    unfolding Covered
    passed_one b rest e f g =
        record {
          fits = f;
          of_w = λ c p. s.of_w c (g c ∙ or_l (bit rest c) (eqb c b) p);
          done = λ c p. ⊎_elim
              (λ q. ⊎_elim inl (λ t. inr (inl (ap (within rows w) (eqb-true c b t) ∙ e))) (or_cases (bit rest c) (eqb c b) (sym (g c) ∙ q)))
              inr
              (s.done c p);
        }

    module _ (some : 0 < left) where
      pub lowest_in : bit left (count_trailing_zeros 16 left) ≡ true
      lowest_in = trailing_set 16 left s.fits some

      pub without_lowest : within rows w (count_trailing_zeros 16 left) ≡ true → Passed rows w (bit_and left (left - 1))
      without_lowest e = passed_one (count_trailing_zeros 16 left) (bit_and left (left - 1)) e (omega (arith, rest_less left some, s.fits)) split
        where
          split : (c : ℕ) → bit left c ≡ (bit (bit_and left (left - 1)) c || eqb c (count_trailing_zeros 16 left))
          split c = ⊎_elim
              (λ (t : eqb c (count_trailing_zeros 16 left) ≡ true). simp (t, or_true) (ap (bit left) (eqb-true c _ t) ∙ lowest_in))
              (λ (t : eqb c (count_trailing_zeros 16 left) ≡ false). simp (bit_rest 16 left c s.fits some, t, and-true, or_false))
              (either (eqb c (count_trailing_zeros 16 left)))

    -- b is the highest of what is left
    module _ (b : ℕ) (low : 2 ^ b ≤ left) (high : left < 2 * 2 ^ b) where
      pub highest_in : bit left b ≡ true
      highest_in = top_bit left b b low (omega arith) ∙ simp (eq-eqb b b refl, or_true)

      pub without_highest : within rows w b ≡ true → Passed rows w (left - 2 ^ b)
      without_highest e = passed_one b (left - 2 ^ b) e (omega (arith, s.fits)) (λ c. top_bit left b c low (omega arith))

-- ---- where all levels are covered, what is above each is closed

module _ (rows : List ℕ) (count top : ℕ) (fits : RowsFit rows) (few : count ≤ 16) (h : (a : ℕ) → a < count → LevelCovered rows count top a) where
  -- by the size of what is above a: a level b passed over is above another one, c, which has less above it
  covered_closed : (n a : ℕ) → a < count → above rows a < n → closed rows (above rows a) ≡ true
  unfolding Covered row_fits
  covered_closed zero a la l = absurd (not-suc-le-zero l)
  covered_closed (suc n) a la l =
      closed_i rows w (λ b lb p. ⊎_elim (λ q. q) (λ q. over b lb q.0 q.1 q.2 q.3 (λ lc m. covered_closed n q.0 lc (omega (arith, m))) (either (eqb b q.0))) ((h a la).1 b p))
    where
      w : ℕ
      w = above rows a

      over : (b : ℕ) → b < 16 → (c : ℕ) → bit w c ≡ true → within rows w c ≡ true → bit (get_or rows c 0) b ≡ true
          → (c < count → above rows c < w → closed rows (above rows c) ≡ true) → (eqb b c ≡ true) ⊎ (eqb b c ≡ false) → within rows w b ≡ true
      over b lb c p e q rest (inl t) = ap (within rows w) (eqb-true b c t) ∙ e
      over b lb c p e q rest (inr t) =
          let v = above rows c in
          let lc = short_at count (get_or rows a 0) c (eqb-true _ 0 (simp and-eq-true_iff at (h a la).0).0.0) (above_row rows a c p) in
          let lc' : c < 16 = omega (arith, few) in
          let f = closed_at rows v b (rest lc (above_less rows a c lc' p e)) lb (bit_above rows c b lc' lb ∙ rw (q, t)) in
          within_i rows w b (fits b) (above_lt rows a fits) (λ x r. within_at rows w c e x (above_row rows c x (within_at rows v b f x r)))

  pub covered_pass : all_b count (λ a. level_passes rows count top a) ≡ true
  unfolding level_passes
  covered_pass = all_i count _ (λ a l. and_i (h a l).0 (covered_closed (above rows a + 1) a l (omega arith)))

-- ---- the two tests agree

-- no bit outside the count
Inside : Order → Type 0
Inside o = (a b : ℕ) → a < most_levels → b < most_levels → related o a b ≡ true → (a < o.count) × (b < o.count)

-- what a passed order has makes the test pass
order_passes_law : (o : Order) → IsOrder o → Inside o → order_passes o ≡ true
unfolding order_passes count_fits reflexive transitive antisymmetric below_top clear_outside Inside
order_passes_law o h inside =
    simp and-eq-true_iff (
      (
        (
          (
            (
              (le-leb 1 o.count h.some, le-leb o.count most_levels h.few),
              all_i o.count _ h.self,
            ),
            all_i o.count _ (λ a la. all_i o.count _ (λ b lb. all_i o.count _ (λ c lc.
                implied (at_or_below o a b && at_or_below o b c) (at_or_below o a c) (λ e. h.trans a b c (and_l (at_or_below o a b) (at_or_below o b c) e) (and_r (at_or_below o a b) (at_or_below o b c) e))))),
          ),
          all_i o.count _ (λ a la. all_i o.count _ (λ b lb.
              implied (at_or_below o a b && at_or_below o b a) (eqb a b) (λ e. eq-eqb a b (h.anti a b (and_l (at_or_below o a b) (at_or_below o b a) e) (and_r (at_or_below o a b) (at_or_below o b a) e))))),
        ),
        all_i o.count _ h.upper,
      ),
      all_i most_levels _ (λ a la. all_i most_levels _ (λ b lb.
          implied (related o a b) (in_order o a && in_order o b) (λ e. let p = inside a b la lb e in and_i (lt-ltb a o.count p.0) (lt-ltb b o.count p.1)))),
    )

order_inside : (o : Order) → order_passes o ≡ true → Inside o
unfolding order_passes clear_outside Inside
order_inside o ok a b la lb e =
    let p = (simp and-eq-true_iff at ok).1 in
    let at_a = all_at most_levels (λ a. all_b most_levels (λ b. related o a b ⇒ (in_order o a && in_order o b))) p a la in
    let q = implies (related o a b) (in_order o a && in_order o b) (all_at most_levels (λ b. related o a b ⇒ (in_order o a && in_order o b)) at_a b lb) e in
    (ltb-true _ _ (and_l (in_order o a) (in_order o b) q), ltb-true _ _ (and_r (in_order o a) (in_order o b) q))

module _ (o : Order) (fits : RowsFit o.rows) where
  module _ (ok : rows_pass o.rows o.count o.top ≡ true) where
    few : o.count ≤ most_levels
    unfolding rows_pass
    few = leb-true _ _ (simp and-eq-true_iff at ok).0.0.0

    top_in : o.top < o.count
    unfolding rows_pass
    top_in = ltb-true _ _ (simp and-eq-true_iff at ok).0.0.1

    level_at : (a : ℕ) → a < o.count → level_passes o.rows o.count o.top a ≡ true
    unfolding rows_pass
    level_at a l = all_at o.count _ (simp and-eq-true_iff at ok).0.1 a l

    rest_at : (a : ℕ) → a < most_levels → (ltb a o.count || eqb (get_or o.rows a 0) 0) ≡ true
    unfolding rows_pass rest_empty
    rest_at a l = all_at most_levels _ (simp and-eq-true_iff at ok).1 a l

    own : (a : ℕ) → a < o.count → related o a a ≡ true
    unfolding level_passes row_fits
    own a l = (simp and-eq-true_iff at (level_at a l)).0.0.1

    up : (a : ℕ) → a < o.count → related o a o.top ≡ true
    unfolding level_passes row_fits
    up a l = (simp and-eq-true_iff at (level_at a l)).0.1

    -- what is at or above b, which is strictly above a, is strictly above a
    step : (a b c : ℕ) → a < o.count → b < most_levels → eqb b a ≡ false → related o a b ≡ true → related o b c ≡ true → (related o a c && not (eqb c a)) ≡ true
    unfolding level_passes
    step a b c la lb n e f =
        let w = above o.rows a in
        let la' : a < 16 = omega (arith, few) in
        let q = closed_at o.rows w b (simp and-eq-true_iff at (level_at a la)).1 lb (bit_above o.rows a b la' lb ∙ rw (e, n)) in
        sym (bit_above o.rows a c la' (bit_below 16 _ c (fits b) f)) ∙ within_at o.rows w b q c f

    rows_inside : Inside o
    unfolding Inside level_passes row_fits
    rows_inside a b la lb e = go (either (ltb a o.count))
      where
        go : (ltb a o.count ≡ true) ⊎ (ltb a o.count ≡ false) → (a < o.count) × (b < o.count)
        go (inl l) = let la = ltb-true a o.count l in (la, short_at o.count _ b (eqb-true _ 0 (simp and-eq-true_iff at (level_at a la)).0.0.0) e)
        go (inr l) =
            let z : get_or o.rows a 0 ≡ 0 = eqb-true _ 0 (rw l at (rest_at a la)) in
            absurd (true≢false (sym e ∙ ap (λ (x : ℕ). bit x b) z ∙ bit_zero b))

    rows_order : IsOrder o
    rows_order = record {
      some = omega (arith, top_in);
      few = few;
      self = λ a l. at_i o a a l l (own a l);
      trans = λ a b c e f.
          let ab = both_in o a b e in
          let bc = both_in o b c f in
          ⊎_elim (λ q. subst (λ (x : ℕ). at_or_below o x c ≡ true) (eqb-true b a q) f)
          (λ q. at_i o a c ab.0 bc.1 (and_l (related o a c) _ (step a b c ab.0 (omega (arith, few)) q (at_related o a b e) (at_related o b c f))))
          (either (eqb b a));
      anti = λ a b e f.
          let ab = both_in o a b e in
          ⊎_elim (λ q. sym (eqb-true b a q))
          (λ q. absurd (eqb-false a a (not-true _ (and_r (related o a a) _ (step a b a ab.0 (omega (arith, few)) q (at_related o a b e) (at_related o b a f)))) refl))
          (either (eqb b a));
      upper = λ a l. at_i o a o.top l top_in (up a l);
    }

  module _ (ok : order_passes o ≡ true) where
    is : IsOrder o
    is = is_order o ok

    in_top : o.top < o.count
    in_top = (both_in o 0 o.top (is.upper 0 is.some)).1

    above_closed : (a : ℕ) → a < o.count → closed o.rows (above o.rows a) ≡ true
    unfolding Inside
    above_closed a la = closed_i o.rows w (λ b lb p. within_i o.rows w b (fits b) (above_lt o.rows a fits) (reach b lb p))
      where
        w : ℕ
        w = above o.rows a

        la' : a < 16
        la' = omega (arith, is.few)

        reach : (b : ℕ) → b < most_levels → bit w b ≡ true → (c : ℕ) → related o b c ≡ true → bit w c ≡ true
        reach b lb p c q =
            let lc : c < 16 = bit_below 16 _ c (fits b) q in
            let ab = sym (bit_above o.rows a b la' lb) ∙ p in
            let l = order_inside o ok b c lb lc q in
            let e : at_or_below o a b ≡ true = at_i o a b la l.0 (and_l (related o a b) _ ab) in
            let f : at_or_below o b c ≡ true = at_i o b c l.0 l.1 q in
            bit_above o.rows a c la' lc
            ∙ and_i (at_related o a c (is.trans a b c e f)) (ap not (not_so (eqb c a) (λ t.
            eqb-false b a (not-true _ (and_r (related o a b) _ ab)) (sym (is.anti a b e (subst (λ (x : ℕ). at_or_below o b x ≡ true) (eqb-true c a t) f))))))

    level_passes_law : (a : ℕ) → a < o.count → level_passes o.rows o.count o.top a ≡ true
    unfolding level_passes row_fits Inside
    level_passes_law a l =
        simp and-eq-true_iff (
          (
            (
              eq-eqb _ 0 (short_i o.count (get_or o.rows a 0) (fits a) (λ b lb e. (order_inside o ok a b (omega (arith, is.few)) lb e).1)),
              at_related o a a (is.self a l),
            ),
            at_related o a o.top (is.upper a l),
          ),
          above_closed a l,
        )

    rest_empty_law : rest_empty o.rows o.count ≡ true
    unfolding rest_empty Inside
    rest_empty_law = all_i most_levels _ (λ a la. ⊎_elim (or_l (ltb a o.count) _) (λ l.
        or_r (ltb a o.count) _ (eq-eqb _ 0 (bit_ext 16 (get_or o.rows a 0) 0 (fits a) (omega arith) (λ b lb.
        not_so (bit (get_or o.rows a 0) b) (λ e. omega (arith, ltb-false a o.count l, (order_inside o ok a b la lb e).0)) ∙ sym (bit_zero b)))))
        (either (ltb a o.count)))

  pub by_rows : rows_pass o.rows o.count o.top ≡ order_passes o
  unfolding rows_pass
  by_rows =
      both_ways _ _ (λ e. order_passes_law o (rows_order e) (rows_inside e))
      (λ e. simp and-eq-true_iff (
        ((le-leb o.count most_levels (is e).few, lt-ltb o.top o.count (in_top e)), all_i o.count _ (level_passes_law e)),
        rest_empty_law e,
      ))
