-- What is gathered from many records, and that its tests are those of each.
-- Assumes nothing.
use Rattle.std.specs.Prelude.{◌≡◌, refl, Bool, true, false, ◌&&◌, ℕ, ◌*◌, ◌/◌, ◌%◌, ◌^◌, ◌≤◌, eqb}
use Rattle.std.proofs.Common.{sym, ◌∙◌, arith, ltb-true, lt-ltb}
use Rattle.std.proofs.Math.Bool.{and-eq-true_iff}
use Rattle.std.specs.Int.Bits.{bit_and, bit_or, or_add_and}
use Rattle.std.proofs.lemmas.Nat.{or_shr, or_mod, and_le_l, and_le_r}
use Rattle.bits.specs.AllLaws.{and-false, and-true}
use Rattle.bits.specs.Bit.{bit}
use Rattle.bits.specs.BitLaws.{or_zero, bit_low, bit_and_law}
use Rattle.records.specs.WordLaws.{object_bits, other_bits, not_two, if_even, task_kind, object_kind, other_fits, low, below}
use Rattle.records.specs.declared.Seen.{Seen}

-- ---- what is gathered

unfoldable pub seen_fits : Seen → Bool
seen_fits s =
    object_bits s.objects
    && other_bits s.others
    && not_two s.tripled
    && eqb s.even 0
    && task_kind s.drivers
    && object_kind s.containers

abbrev pub seen_low : ℕ → Seen → Bool
seen_low n s = low n s.objects && low n s.others

-- t is s with the record w, which passes or not
pub record Sees (ok : Bool) (w : ℕ) (s t : Seen) : Type 0 where
  pub fits : seen_fits t ≡ (seen_fits s && ok)
  pub lows : (n : ℕ) → seen_fits t ≡ true → seen_low n t ≡ true → (seen_low n s && low n w) ≡ true

-- ---- a test of what two numbers give together is the test of both

swap : (a b c d : Bool) → ((a && b) && (c && d)) ≡ ((a && c) && (b && d))
swap true b true d = refl
swap true b false d = and-false b
swap false b c d = refl

-- a is b and c
record Splits (a b c : Bool) : Type 0 where
  equal : a ≡ (b && c)

both : {a b c d e f : Bool} → Splits a b c → Splits d e f → Splits (a && d) (b && e) (c && f)
both {a} {b} {c} {d} {e} {f} p q = record { equal = rw (p.equal, q.equal) (swap b c e f) }

same : (a : Bool) → Splits a a true
same a = record { equal = sym (and-true a) }

or_none : (a b : ℕ) → Splits (eqb (bit_or a b) 0) (eqb a 0) (eqb b 0)
or_none a b = record { equal = or_zero a b }

or_top : (a b k : ℕ) → Splits (eqb (bit_or a b / 2 ^ k) 0) (eqb (a / 2 ^ k) 0) (eqb (b / 2 ^ k) 0)
or_top a b k = rw (or_shr a b k) (or_none (a / 2 ^ k) (b / 2 ^ k))

or_part : (a b k m : ℕ) → Splits (eqb (bit_or a b / 2 ^ k % 2 ^ m) 0) (eqb (a / 2 ^ k % 2 ^ m) 0) (eqb (b / 2 ^ k % 2 ^ m) 0)
or_part a b k m = rw (or_shr a b k, or_mod (a / 2 ^ k) (b / 2 ^ k) m) (or_none (a / 2 ^ k % 2 ^ m) (b / 2 ^ k % 2 ^ m))

or_objects : (a b : ℕ) → Splits (object_bits (bit_or a b)) (object_bits a) (object_bits b)
unfolding object_bits
or_objects a b = both (both (both (or_part a b 15 1) (or_part a b 16 8)) (or_part a b 31 1)) (or_top a b 41)

or_others : (a b : ℕ) → Splits (other_bits (bit_or a b)) (other_bits a) (other_bits b)
unfolding other_bits
or_others a b = both (both (both (both (or_part a b 1 7) (or_part a b 15 1)) (or_part a b 23 1)) (or_part a b 24 16)) (or_top a b 42)

or_two : (a b : ℕ) → Splits (not_two (bit_or a b)) (not_two a) (not_two b)
unfolding not_two
or_two a b = or_part a b 2 1

pub or_below : (a b : ℕ) → below (bit_or a b) ≡ (below a && below b)
unfolding below
or_below a b = (both (or_part a b 15 1) (or_part a b 23 1)).equal

and_task : (a b : ℕ) → Splits (task_kind (bit_and a b)) (task_kind a) (task_kind b)
and_task a b = record { equal = sym (bit_low (bit_and a b)) ∙ bit_and_law a b 0 ∙ simp bit_low }

and_object : (a b : ℕ) → Splits (object_kind (bit_and a b)) (object_kind a) (object_kind b)
unfolding bit
and_object a b = record { equal = bit_and_law a b 1 }

-- a part of an `or` is no less than that part of either
le_or : (a b : ℕ) → (a ≤ bit_or a b) × (b ≤ bit_or a b)
le_or a b = omega (arith, or_add_and a b, and_le_l a b, and_le_r a b)

low_or : (n a b : ℕ) → low n (bit_or a b) ≡ true → (low n a && low n b) ≡ true
unfolding low
low_or n a b h =
    let e : bit_or a b / 0x100 % 0x100 ≡ bit_or (a / 0x100 % 0x100) (b / 0x100 % 0x100) = rw (or_shr a b 8) (or_mod (a / 0x100) (b / 0x100) 8) in
    let f : bit_or a b / 0x1_0000 % 0x100 ≡ bit_or (a / 0x1_0000 % 0x100) (b / 0x1_0000 % 0x100) = rw (or_shr a b 16) (or_mod (a / 0x1_0000) (b / 0x1_0000) 8) in
    let p = simp and-eq-true_iff at (rw (e, f) at h) in
    let l = le_or (a / 0x100 % 0x100) (b / 0x100 % 0x100) in
    let r = le_or (a / 0x1_0000 % 0x100) (b / 0x1_0000 % 0x100) in
    simp and-eq-true_iff (omega (arith, ltb-true, lt-ltb))

-- ---- with one record more

pub with_object : (s : Seen) (w d c : ℕ)
    → Sees (object_bits w && task_kind d && object_kind c) w s
    (record {
      objects = bit_or s.objects w;
      others = s.others;
      tripled = s.tripled;
      even = s.even;
      drivers = bit_and s.drivers d;
      containers = bit_and s.containers c;
    })
unfolding seen_fits
with_object s w d c =
    record {
      fits = (both (both (both (both (both (or_objects s.objects w) (same (other_bits s.others))) (same (not_two s.tripled))) (same (eqb s.even 0))) (and_task s.drivers d)) (and_object s.containers c)).equal
          ∙ simp and-true;
      lows = λ n f h. let p = simp and-eq-true_iff at h in let q = simp and-eq-true_iff at (low_or n s.objects w p.0) in simp and-eq-true_iff ((q.0, p.1), q.1);
    }

pub with_other : (s : Seen) (w : ℕ)
    → Sees (other_fits w) w s
    (record {
      objects = s.objects;
      others = bit_or s.others w;
      tripled = bit_or s.tripled (w / 0x100_0000_0000 * 3);
      even = bit_or s.even (if_even w);
      drivers = s.drivers;
      containers = s.containers;
    })
unfolding seen_fits other_fits
with_other s w =
    record {
      fits = (both (both (both (both (both (same (object_bits s.objects)) (or_others s.others w)) (or_two s.tripled (w / 0x100_0000_0000 * 3))) (or_none s.even (if_even w))) (same (task_kind s.drivers))) (same (object_kind s.containers))).equal
          ∙ simp and-true;
      lows = λ n f h. let p = simp and-eq-true_iff at h in let q = simp and-eq-true_iff at (low_or n s.others w p.1) in simp and-eq-true_iff ((p.0, q.0), q.1);
    }
