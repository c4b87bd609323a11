-- The records in groups of eight, and what is gathered from group after group.
-- Assumes nothing.
use Rattle.std.specs.Prelude.{◌≡◌, Bool, true, false, ◌&&◌, List, ℕ, ◌+◌, ◌-◌, ◌*◌, ◌%◌, ◌≤◌, ◌<◌, eqb, ltb, get_or}
use Rattle.std.proofs.Common.{sym, ◌∙◌, ⊎_elim, true≢false, not-le_of_lt, arith, Fits, eqb-true, ltb-true, ltb-false, lt-ltb}
use Rattle.std.proofs.Math.Bool.{and-eq-true_iff}
use Rattle.std.specs.Int.{w8}
use Rattle.bits.specs.All.{all_b}
use Rattle.bits.specs.AllLaws.{all_at, all_i, all_none, all_step, and_l, and_i, both_ways, either, not_so}
use Rattle.rows.specs.Size.{numbers}
use Rattle.levels.specs.declared.Order.{Order}
use Rattle.records.specs.Records.{BytesLent, kind, sound_record}
use Rattle.records.specs.WordLaws.{word, word_fits, other_fits, other_bits, not_two, if_even, low, raised, below, few_fit, few_sound, word_record, low_fits}
use Rattle.records.specs.SeenLaws.{seen_fits, seen_low, Sees}
use Rattle.records.specs.declared.Seen.{Seen}

abbrev pub group_size : ℕ
group_size = 8

-- the records of the group from x on are free
unfoldable pub group_free : List ℕ → ℕ → Bool
group_free bs x = all_b group_size (λ k. eqb (word bs (x + k)) 0)

-- those of the four groups from x on are
unfoldable pub groups_free : List ℕ → ℕ → Bool
groups_free bs x = group_free bs x && group_free bs (x + group_size) && group_free bs (x + 2 * group_size) && group_free bs (x + 3 * group_size)

-- the first n records are sound
abbrev pub all_sound : Order → List ℕ → ℕ → Bool
all_sound o bs n = all_b n (λ x. sound_record o bs x)

-- the groups end at n, and the records from `from` up to there are free
pub record FreeUntil (bs : List ℕ) (from n : ℕ) : Type 0 where
  pub further : from ≤ n
  pub in_range : n ≤ numbers
  pub whole : n % group_size ≡ 0
  pub free : (x : ℕ) → from ≤ x → x < n → eqb (word bs x) 0 ≡ true

-- all records pass
abbrev pub all_fit : List ℕ → Bool
all_fit bs = all_b numbers (λ x. word_fits bs x)

-- s is gathered from the first n records
pub record Gathered (bs : List ℕ) (n : ℕ) (s : Seen) : Type 0 where
  pub fits : seen_fits s ≡ all_b n (λ x. word_fits bs x)
  pub lows : (m : ℕ) → seen_fits s ≡ true → seen_low m s ≡ true → (x : ℕ) → x < n → low m (word bs x) ≡ true

-- ---- free groups

in_group : (bs : List ℕ) (x y : ℕ) → group_free bs x ≡ true → x ≤ y → y < x + group_size → eqb (word bs y) 0 ≡ true
unfolding group_free
in_group bs x y h l m =
    let e : x + (y - x) ≡ y = omega arith in
    rw e at (all_at group_size (λ k. eqb (word bs (x + k)) 0) h (y - x) (omega arith))

pub free_none : (bs : List ℕ) (from : ℕ) → from ≤ numbers → from % group_size ≡ 0 → FreeUntil bs from from
free_none bs from l w = record { further = omega arith; in_range = l; whole = w; free = λ x a b. absurd (not-le_of_lt b a) }

pub free_more : (bs : List ℕ) (from n : ℕ) → FreeUntil bs from n → n + 32 ≤ numbers → groups_free bs n ≡ true → FreeUntil bs from (n + 32)
unfolding groups_free
free_more bs from n u m h =
    let g = simp and-eq-true_iff at h in
    record {
      further = omega (arith, u.further);
      in_range = m;
      whole = omega (arith, u.whole);
      free = λ x l b. ⊎_elim
          (λ t. u.free x l (ltb-true x n t))
          (λ f. let c = ltb-false x n f in ⊎_elim
          (λ t. in_group bs n x g.0.0.0 c (ltb-true x (n + 8) t))
          (λ f. let c = ltb-false x (n + 8) f in ⊎_elim
          (λ t. in_group bs (n + 8) x g.0.0.1 c (omega (arith, ltb-true x (n + 16) t)))
          (λ f. let c = ltb-false x (n + 16) f in ⊎_elim
          (λ t. in_group bs (n + 16) x g.0.1 c (omega (arith, ltb-true x (n + 24) t)))
          (λ f. in_group bs (n + 24) x g.1 (ltb-false x (n + 24) f) (omega arith))
          (either (ltb x (n + 24))))
          (either (ltb x (n + 16))))
          (either (ltb x (n + 8))))
          (either (ltb x n));
    }

-- a free group before free records
pub free_group : (bs : List ℕ) (x n : ℕ) → group_free bs x ≡ true → FreeUntil bs (x + group_size) n → FreeUntil bs x n
free_group bs x n h u =
    record {
      further = omega (arith, u.further);
      in_range = u.in_range;
      whole = u.whole;
      free = λ y l b. ⊎_elim (λ t. in_group bs x y h l (ltb-true y (x + group_size) t)) (λ f. u.free y (ltb-false y (x + group_size) f) b) (either (ltb y (x + group_size)));
    }

-- ---- record after record

pub gathered_none : (bs : List ℕ) (s : Seen) → seen_fits s ≡ true → Gathered bs 0 s
gathered_none bs s h = record { fits = h ∙ sym (all_none (λ x. word_fits bs x)); lows = λ m f l x b. absurd (not-le_of_lt b (omega arith)) }

pub gathered_step : (bs : List ℕ) (n : ℕ) (s t : Seen) → Gathered bs n s → Sees (word_fits bs n) (word bs n) s t → Gathered bs (n + 1) t
gathered_step bs n s t g e =
    record {
      fits = e.fits ∙ simp (g.fits, all_step);
      lows = λ m f h x l.
          let p = simp and-eq-true_iff at (e.lows m f h) in
          let before = and_l (seen_fits s) (word_fits bs n) (sym e.fits ∙ f) in
          ⊎_elim
          (λ b. g.lows m before (simp and-eq-true_iff p.0) x (ltb-true x n b))
          (λ b. let q : x ≡ n = omega (arith, ltb-false x n b) in rw q p.1)
          (either (ltb x n));
    }

-- a record that does not pass
pub not_all : (bs : List ℕ) (x : ℕ) → x < numbers → word_fits bs x ≡ false → all_fit bs ≡ false
not_all bs x l f = not_so _ (λ t. true≢false (sym (all_at numbers (λ x. word_fits bs x) t x l) ∙ f))

free_fits : (bs : List ℕ) (x : ℕ) → eqb (word bs x) 0 ≡ true → word_fits bs x ≡ true
unfolding word_fits other_fits other_bits not_two if_even
free_fits bs x h = rw (eqb-true (word bs x) 0 h)

pub gathered_free : (bs : List ℕ) (x n : ℕ) (s : Seen) → Gathered bs x s → FreeUntil bs x n → Gathered bs n s
unfolding low
gathered_free bs x n s g u =
    record {
      fits = g.fits ∙ both_ways _ _
          (λ h. all_i n (λ x. word_fits bs x) (λ y l. ⊎_elim
          (λ t. all_at x (λ x. word_fits bs x) h y (ltb-true y x t))
          (λ f. free_fits bs y (u.free y (ltb-false y x f) l))
          (either (ltb y x))))
          (λ h. all_i x (λ x. word_fits bs x) (λ y l. all_at n (λ x. word_fits bs x) h y (omega (arith, u.further))));
      lows = λ m f h y l. ⊎_elim
          (λ t. g.lows m f h y (ltb-true y x t))
          (λ b. let p = simp and-eq-true_iff at h in let z = eqb-true (word bs y) 0 (u.free y (ltb-false y x b) l) in rw z (simp and-eq-true_iff (omega (arith, ltb-true, lt-ltb))))
          (either (ltb y x));
    }

-- ---- all records

-- the levels of all records are below the count, where they are below 0x80
unfoldable pub levels_fit : ℕ → List ℕ → Bool
levels_fit count bs = all_b numbers (λ x. below (raised count (word bs x)))

module _ (o : Order) (bs : List ℕ) (long : BytesLent bs) (byte : (i : ℕ) → Fits w8 (get_or bs i 0)) (some : 0 < o.count) (most : o.count < 0x80) where
  all_records : (all_b numbers (λ x. word_fits bs x) && levels_fit o.count bs) ≡ all_sound o bs numbers
  unfolding levels_fit
  all_records =
      both_ways _ _
      (λ h. let p = simp and-eq-true_iff at h in
      let few : (y : ℕ) → y < numbers → kind bs y ≤ 2 = λ y l. few_fit o bs y long byte (all_at numbers (λ x. word_fits bs x) p.0 y l) in
      all_i numbers (λ x. sound_record o bs x) (λ x l. sym (word_record o bs x long byte l few some most) ∙ and_i (all_at numbers (λ x. below (raised o.count (word bs x))) p.1 x l) (all_at numbers (λ x. word_fits bs x) p.0 x l)))
      (λ h. let few : (y : ℕ) → y < numbers → kind bs y ≤ 2 = λ y l. few_sound o bs y long byte (all_at numbers (λ x. sound_record o bs x) h y l) in
      let at : (x : ℕ) → x < numbers → (below (raised o.count (word bs x)) ≡ true) × (word_fits bs x ≡ true) = λ x l. simp and-eq-true_iff at (word_record o bs x long byte l few some most ∙ all_at numbers (λ x. sound_record o bs x) h x l) in
      and_i (all_i numbers (λ x. word_fits bs x) (λ x l. (at x l).1)) (all_i numbers (λ x. below (raised o.count (word bs x))) (λ x l. (at x l).0)))

  -- where a record does not pass, not all are sound
  pub not_all_sound : all_fit bs ≡ false → false ≡ all_sound o bs numbers
  not_all_sound f = rw f at all_records

  -- all are sound where what is gathered passes and the levels fit
  pub records_are : (s : Seen) → Gathered bs numbers s → (seen_fits s && levels_fit o.count bs) ≡ all_sound o bs numbers
  records_are s g = rw g.fits all_records

  -- levels whose `or` is below the count are below it
  pub lows_fit : (s : Seen) → Gathered bs numbers s → seen_fits s ≡ true → seen_low o.count s ≡ true → levels_fit o.count bs ≡ true
  unfolding levels_fit
  lows_fit s g f h =
      let few : (y : ℕ) → y < numbers → kind bs y ≤ 2 = λ y l. few_fit o bs y long byte (all_at numbers (λ x. word_fits bs x) (sym g.fits ∙ f) y l) in
      all_i numbers (λ x. below (raised o.count (word bs x))) (λ x l. low_fits o bs x long byte l few some most (g.lows o.count f h x l))
