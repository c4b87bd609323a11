-- A record read as one number of eight bytes, and the tests of soundness on it.
-- Assumes nothing.
use Rattle.std.specs.Prelude.{◌≡◌, refl, Bool, true, false, not, cond, ◌&&◌, ◌||◌, List, ℕ, zero, suc, ◌+◌, ◌-◌, ◌*◌, ◌/◌, ◌%◌, ◌<◌, ◌≤◌, ltb, eqb, get_or}
use Rattle.std.specs.Int.{w8}
use Rattle.std.proofs.Common.{sym, ◌∙◌, inl, inr, ⊎_elim, lt_of_not-le, mod-eq_of_lt, arith, Fits, eqb-true, eq-eqb, ne_eqb, ltb-true, lt-ltb, ltb-false, le-ltb}
use Rattle.std.proofs.lemmas.Bool.{eqb-false, not-true}
use Rattle.std.proofs.Math.Bool.{and-eq-true_iff, true-and, and_assoc}
use Rattle.std.proofs.Math.Nat.{add-mul-mod_self_left}
use Rattle.bits.specs.All.{all_b}
use Rattle.bits.specs.AllLaws.{and_i, and-true, and-false, both_ways, either}
use Rattle.bits.specs.Bit.{joined}
use Rattle.bits.specs.BitLaws.{digit}
use Rattle.rows.specs.Size.{present, numbers}
use Rattle.levels.specs.declared.Order.{Order}
use Rattle.records.specs.Records.{record_size, BytesLent, root_sign, field, kind, level, read_level, driver, container, marks, first_spare, last_spare, is_task, is_object, is_root, in_another, free_record, task_record, object_record_of, sound_record_of, sound_record}
use Rattle.records.specs.RecordLaws.{one_of_two, two_of, sound_task, sound_object, sound_else, field_past}

-- the half of the record of x that starts at f: at 0 kind, level, read level and driver, at 4 container, marks and the spare bytes
unfoldable pub half : List ℕ → ℕ → ℕ → ℕ
half bs x f = joined (field bs x f) (field bs x (f + 1)) (field bs x (f + 2)) (field bs x (f + 3))

-- the whole record of x as one number
unfoldable pub word : List ℕ → ℕ → ℕ
word bs x = half bs x 0 + half bs x 4 * 0x1_0000_0000

-- the container c of the object x is the root sign or another object
unfoldable pub container_fits : List ℕ → ℕ → ℕ → Bool
container_fits bs x c = eqb c root_sign || (is_object bs c && not (eqb c x))

-- the level and the read level of w, each with 0x80 less the count added
abbrev pub raised : ℕ → ℕ → ℕ
raised count w = w % 0x100_0000 + (0x80 - count) * 0x1_0100

-- neither of the two reaches 0x80
unfoldable pub below : ℕ → Bool
below s = eqb (s / 0x8000 % 2) 0 && eqb (s / 0x80_0000 % 2) 0

-- level and driver below 0x80, read level 0, marks 0 or 1, spare bytes 0
unfoldable pub object_bits : ℕ → Bool
object_bits w = eqb (w / 0x8000 % 2) 0 && eqb (w / 0x1_0000 % 0x100) 0 && eqb (w / 0x8000_0000 % 2) 0 && eqb (w / 0x200_0000_0000) 0

-- kind 0 or 1, level and read level below 0x80, driver and container 0, marks 0 to 3, spare bytes 0
unfoldable pub other_bits : ℕ → Bool
other_bits w = eqb (w / 2 % 0x80) 0 && eqb (w / 0x8000 % 2) 0 && eqb (w / 0x80_0000 % 2) 0 && eqb (w / 0x100_0000 % 0x1_0000) 0 && eqb (w / 0x400_0000_0000) 0

-- of three times the marks: they are not 2
unfoldable pub not_two : ℕ → Bool
not_two t = eqb (t / 4 % 2) 0

-- w where it is even, else 0
unfoldable pub if_even : ℕ → ℕ
if_even w = cond (eqb (w % 2) 0) w 0

-- of the kinds 0 to 2, that of a task and that of an object
abbrev pub task_kind : ℕ → Bool
task_kind k = eqb (k % 2) 1

abbrev pub object_kind : ℕ → Bool
object_kind k = eqb (k / 2 % 2) 1

-- where the kind of the container c of x is looked up: a root stands for itself
unfoldable pub place_of : ℕ → ℕ → ℕ
place_of x c = cond (eqb c root_sign) x c

-- the object x may lie in c
unfoldable pub may_lie_in : List ℕ → ℕ → ℕ → Bool
may_lie_in bs x c = not (eqb c x) && ltb (place_of x c) numbers && object_kind (kind bs (place_of x c))

-- the record w of the object x passes, and a record w that is no object's
unfoldable pub object_fits : List ℕ → ℕ → ℕ → Bool
object_fits bs x w = object_bits w && task_kind (kind bs (w / 0x100_0000 % numbers)) && may_lie_in bs x (w / 0x1_0000_0000 % 0x100)

unfoldable pub other_fits : ℕ → Bool
other_fits w = other_bits w && not_two (w / 0x100_0000_0000 * 3) && eqb (if_even w) 0

-- the record of x passes
unfoldable pub word_fits : List ℕ → ℕ → Bool
word_fits bs x = cond (eqb (word bs x % 0x100) 2) (object_fits bs x (word bs x)) (other_fits (word bs x))

-- the level and the read level of w are below n
unfoldable pub low : ℕ → ℕ → Bool
low n w = ltb (w / 0x100 % 0x100) n && ltb (w / 0x1_0000 % 0x100) n

-- the marks of an object, and of a task
abbrev pub object_marks : ℕ → Bool
object_marks m = eqb m 0 || eqb m 1

abbrev pub task_marks : ℕ → Bool
task_marks m = object_marks m || eqb m 3

-- the record of x is sound, each field tested by itself
unfoldable pub plain_sound : ℕ → List ℕ → ℕ → Bool
plain_sound count bs x =
    let w = word bs x in
    let d = w / 0x100_0000 % 0x100 in
    let c = w / 0x1_0000_0000 % 0x100 in
    let m = w / 0x100_0000_0000 in
    eqb w 0
    || (eqb (w % 0x100) 1 && ltb (w / 0x100 % 0x100) count && ltb (w / 0x1_0000 % 0x100) count && eqb d 0 && eqb c 0 && task_marks m)
    || (eqb (w % 0x100) 2 && ltb (w / 0x100 % 0x100) count && eqb (w / 0x1_0000 % 0x100) 0 && is_task bs d && container_fits bs x c && object_marks m)

-- ---- numbers

object_marks_law : (m : ℕ) → object_marks m ≡ ltb m 2
object_marks_law m =
    both_ways _ _
    (λ h. ⊎_elim (λ e. lt-ltb m 2 (omega arith)) (λ e. lt-ltb m 2 (omega arith)) (one_of_two m 0 1 h))
    (λ h. two_of m 0 1 (⊎_elim (λ e. inl (omega (arith, ltb-true))) (λ e. inr (omega (arith, ltb-true))) (digit m)))

task_marks_law : (m : ℕ) → task_marks m ≡ (ltb m 4 && not (eqb m 2))
task_marks_law m =
    rw (object_marks_law m) (⊎_elim
    (λ (t : ltb m 2 ≡ true). let l = ltb-true m 2 t in simp (t, lt-ltb m 4 (omega arith), ne_eqb m 2 (omega arith)))
    (λ (f : ltb m 2 ≡ false). let l = ltb-false m 2 f in simp f (both_ways _ _
    (λ h. let e = eqb-true m 3 h in simp (lt-ltb m 4 (omega arith), ne_eqb m 2 (omega arith)))
    (λ h. let p = simp and-eq-true_iff at h in let n = eqb-false m 2 (not-true _ p.1) in omega (arith, ltb-true, eq-eqb))))
    (either (ltb m 2)))

-- of 0 to 3, three times 2 alone has bit 2
not_two_law : (m : ℕ) → m < 4 → not_two (m * 3) ≡ not (eqb m 2)
unfolding not_two
not_two_law zero l = refl
not_two_law (suc zero) l = refl
not_two_law (suc (suc zero)) l = refl
not_two_law (suc (suc (suc zero))) l = refl
not_two_law (suc (suc (suc (suc m)))) l = absurd (omega (arith, l))

-- of a level and a read level below 0x80, with 0x80 less n added to each, neither reaches 0x80 where both are below n
below_is : (k l r n : ℕ) → k < 0x100 → l < 0x80 → r < 0x80 → n < 0x80 → below (k + l * 0x100 + r * 0x1_0000 + (0x80 - n) * 0x1_0100) ≡ (ltb l n && ltb r n)
unfolding below
below_is k l r n hk hl hr hn =
    let s = k + l * 0x100 + r * 0x1_0000 + (0x80 - n) * 0x1_0100 in
    let e : s / 0x8000 ≡ (l + (0x80 - n)) / 0x80 + 2 * (r + (0x80 - n)) = omega arith in
    let f : s / 0x80_0000 ≡ (r + (0x80 - n)) / 0x80 = omega arith in
    let u : (y : ℕ) → y < 0x80 → (y + (0x80 - n)) / 0x80 < 2 = λ y b. omega arith in
    rw (e, f, add-mul-mod_self_left, mod-eq_of_lt (u l hl), mod-eq_of_lt (u r hr)) (both_ways _ _
    (λ h. let p = simp and-eq-true_iff at h in simp and-eq-true_iff (omega (arith, eqb-true, lt-ltb)))
    (λ h. let p = simp and-eq-true_iff at h in simp and-eq-true_iff (omega (arith, ltb-true, eq-eqb))))

pub half_below : (bs : List ℕ) (x f : ℕ) → ((i : ℕ) → Fits w8 (get_or bs i 0)) → half bs x f < 0x1_0000_0000
unfolding half field
half_below bs x f byte = omega (arith, (byte (record_size * x + f)).fits, (byte (record_size * x + (f + 1))).fits, (byte (record_size * x + (f + 2))).fits, (byte (record_size * x + (f + 3))).fits)

-- ---- an object and its container

module _ (bs : List ℕ) (x w : ℕ) where
  pub in_itself : w / 0x1_0000_0000 % 0x100 ≡ x → object_fits bs x w ≡ false
  unfolding object_fits may_lie_in
  in_itself e = simp (eq-eqb (w / 0x1_0000_0000 % 0x100) x e, and-false)

  pub in_no_number : numbers ≤ place_of x (w / 0x1_0000_0000 % 0x100) → object_fits bs x w ≡ false
  unfolding object_fits may_lie_in
  in_no_number l = simp (le-ltb (place_of x (w / 0x1_0000_0000 % 0x100)) numbers l, and-false)

  pub in_number : (w / 0x1_0000_0000 % 0x100 ≡ x → ⊥)
      → place_of x (w / 0x1_0000_0000 % 0x100) < numbers
      → object_fits bs x w ≡ (object_bits w && task_kind (kind bs (w / 0x100_0000 % numbers)) && object_kind (kind bs (place_of x (w / 0x1_0000_0000 % 0x100))))
  unfolding object_fits may_lie_in
  in_number n l = simp (ne_eqb (w / 0x1_0000_0000 % 0x100) x n, lt-ltb (place_of x (w / 0x1_0000_0000 % 0x100)) numbers l)

-- ---- the spare bytes are tested last

with_spare : (a s i n : Bool) → ((a && s) || ((s && i) && n)) ≡ ((a || (i && n)) && s)
with_spare true true i n = refl
with_spare true false i n = refl
with_spare false true i n = sym (and-true (i && n))
with_spare false false i n = sym (and-false (i && n))

spare_apart : (p h s m l : Bool) → (((p && (h && s)) && m) && l) ≡ ((p && h) && (m && (s && l)))
spare_apart true true true m l = refl
spare_apart true true false m l = sym (and-false m)
spare_apart true false s m l = refl
spare_apart false h s m l = refl

-- ---- over bytes, the number says what the fields say

module _ (o : Order) (bs : List ℕ) (x : ℕ) (long : BytesLent bs) (byte : (i : ℕ) → Fits w8 (get_or bs i 0)) where
  byte_of : (f : ℕ) → field bs x f < 0x100
  unfolding field
  byte_of f = (byte _).fits

  w_kind : word bs x % 0x100 ≡ kind bs x
  unfolding word half
  w_kind = omega (arith, byte_of 0)

  w_level : word bs x / 0x100 % 0x100 ≡ level bs x
  unfolding word half
  w_level = omega (arith, byte_of 0, byte_of 1)

  w_read : word bs x / 0x1_0000 % 0x100 ≡ read_level bs x
  unfolding word half
  w_read = omega (arith, byte_of 0, byte_of 1, byte_of 2)

  w_driver : word bs x / 0x100_0000 % 0x100 ≡ driver bs x
  unfolding word half
  w_driver = omega (arith, byte_of 0, byte_of 1, byte_of 2, byte_of 3)

  w_container : word bs x / 0x1_0000_0000 % 0x100 ≡ container bs x
  unfolding word half
  w_container = omega (arith, byte_of 0, byte_of 1, byte_of 2, byte_of 3, byte_of 4)

  -- the marks, and the spare bytes above them
  rest : ℕ
  rest = marks bs x + first_spare bs x * 0x100 + last_spare bs x * 0x1_0000

  w_rest : word bs x / 0x100_0000_0000 ≡ rest
  unfolding rest word half
  w_rest = omega (arith, byte_of 0, byte_of 1, byte_of 2, byte_of 3, byte_of 4)

  -- a test that no number of more than a byte passes is one of the marks, and of zeros in the spare bytes
  marks_rest : (p : ℕ → Bool) → ((n : ℕ) → p n ≡ true → n < 0x100) → p rest ≡ (p (marks bs x) && (eqb (first_spare bs x) 0 && eqb (last_spare bs x) 0))
  unfolding rest
  marks_rest p few =
      both_ways _ _
      (λ h. let l = few rest h in let e : rest ≡ marks bs x = omega (arith, byte_of 5) in and_i (rw e at h) (simp and-eq-true_iff (omega (arith, eq-eqb))))
      (λ h. let q = simp and-eq-true_iff at h in let e : rest ≡ marks bs x = omega (arith, eqb-true) in rw e q.0)

  task_is : task_record o bs x
      ≡ (eqb (kind bs x) 1 && ltb (level bs x) o.count && ltb (read_level bs x) o.count && eqb (driver bs x) 0 && eqb (container bs x) 0 && task_marks rest)
  unfolding task_record is_task
  task_is = rw (marks_rest task_marks (λ n h. let p = simp (task_marks_law, and-eq-true_iff) at h in omega (arith, ltb-true))) (simp and_assoc)

  place_is : (is_root present bs x || in_another bs x) ≡ (container_fits bs x (container bs x) && eqb (first_spare bs x) 0)
  unfolding container_fits
  place_is = with_spare (eqb (container bs x) root_sign) (eqb (first_spare bs x) 0) (is_object bs (container bs x)) (not (eqb (container bs x) x))

  object_is : object_record_of present o bs x
      ≡ (eqb (kind bs x) 2 && ltb (level bs x) o.count && eqb (read_level bs x) 0 && is_task bs (driver bs x) && container_fits bs x (container bs x) && object_marks rest)
  unfolding object_record_of is_object
  object_is =
      rw (place_is, marks_rest object_marks (λ n h. let p = simp object_marks_law at h in omega (arith, ltb-true)))
      (spare_apart (eqb (kind bs x) 2 && ltb (level bs x) o.count && eqb (read_level bs x) 0 && is_task bs (driver bs x)) (container_fits bs x (container bs x)) (eqb (first_spare bs x) 0) (object_marks (marks bs x)) (eqb (last_spare bs x) 0))

  -- all eight bytes are zero
  pub free_word : eqb (word bs x) 0 ≡ free_record bs x
  unfolding word half free_record all_b
  free_word =
      both_ways _ _
      (λ h. simp (true-and, and-eq-true_iff) (omega (arith, eqb-true, eq-eqb)))
      (λ h. let p = simp (true-and, and-eq-true_iff) at h in omega (arith, eqb-true, eq-eqb))

  pub plain_record : plain_sound o.count bs x ≡ sound_record o bs x
  unfolding plain_sound sound_record_of
  plain_record = simp (free_word, task_is, object_is, w_kind, w_level, w_read, w_driver, w_container, w_rest)

  -- ---- the tests of the levels, and of many fields at once

  w_low : word bs x % 0x100_0000 ≡ kind bs x + level bs x * 0x100 + read_level bs x * 0x1_0000
  unfolding word half
  w_low = omega (arith, byte_of 0, byte_of 1, byte_of 2)

  -- of levels below 0x80, those below the count fit
  levels_fit_law : o.count < 0x80 → level bs x < 0x80 → read_level bs x < 0x80
      → below (raised o.count (word bs x)) ≡ (ltb (level bs x) o.count && ltb (read_level bs x) o.count)
  levels_fit_law m l r = simp (w_low, below_is (kind bs x) (level bs x) (read_level bs x) o.count (byte_of 0) l r m)

  -- a driver that is a task is one of the numbers
  driver_below : (d : ℕ) → is_task bs d ≡ true → d < numbers
  unfolding is_task
  driver_below d t = lt_of_not-le (λ (l : numbers ≤ d). omega (arith, eqb-true, field_past present bs d 0 long l))

  object_bits_law : object_bits (word bs x) ≡ (eqb (level bs x / 0x80) 0 && eqb (read_level bs x) 0 && eqb (driver bs x / 0x80) 0 && eqb (rest / 2) 0)
  unfolding object_bits
  object_bits_law =
      let l : word bs x / 0x8000 % 2 ≡ level bs x / 0x80 = omega (arith, w_level) in
      let d : word bs x / 0x8000_0000 % 2 ≡ driver bs x / 0x80 = omega (arith, w_driver) in
      let m : word bs x / 0x200_0000_0000 ≡ rest / 2 = omega (arith, w_rest) in
      simp (l, w_read, d, m)

  other_bits_law : other_bits (word bs x)
      ≡ (eqb (kind bs x / 2) 0 && eqb (level bs x / 0x80) 0 && eqb (read_level bs x / 0x80) 0 && eqb (driver bs x + container bs x * 0x100) 0 && eqb (rest / 4) 0)
  unfolding other_bits
  other_bits_law =
      let k : word bs x / 2 % 0x80 ≡ kind bs x / 2 = omega (arith, w_kind) in
      let l : word bs x / 0x8000 % 2 ≡ level bs x / 0x80 = omega (arith, w_level) in
      let r : word bs x / 0x80_0000 % 2 ≡ read_level bs x / 0x80 = omega (arith, w_read) in
      let d : word bs x / 0x100_0000 % 0x1_0000 ≡ driver bs x + container bs x * 0x100 = omega (arith, w_driver, w_container) in
      let m : word bs x / 0x400_0000_0000 ≡ rest / 4 = omega (arith, w_rest) in
      simp (k, l, r, d, m)

  -- a record that passes has a kind of 0 to 2, and so has a sound one
  pub few_fit : word_fits bs x ≡ true → kind bs x ≤ 2
  unfolding word_fits other_fits
  few_fit h =
      ⊎_elim
      (λ (t : eqb (word bs x % 0x100) 2 ≡ true). omega (arith, w_kind, eqb-true (word bs x % 0x100) 2 t))
      (λ (f : eqb (word bs x % 0x100) 2 ≡ false). let p = simp (f, other_bits_law, and-eq-true_iff) at h in omega (arith, eqb-true))
      (either (eqb (word bs x % 0x100) 2))

  pub few_sound : sound_record o bs x ≡ true → kind bs x ≤ 2
  few_sound h =
      ⊎_elim
      (λ t. omega (arith, eqb-true (kind bs x) 1 t))
      (λ t. ⊎_elim
      (λ n. omega (arith, eqb-true (kind bs x) 2 n))
      (λ n. let e = sym (sound_else present o bs x (eqb-false (kind bs x) 1 t) (eqb-false (kind bs x) 2 n)) ∙ h in omega (arith, w_kind, eqb-true (word bs x) 0 (free_word ∙ e)))
      (either (eqb (kind bs x) 2)))
      (either (eqb (kind bs x) 1))

  -- ---- where no kind is above 2, the record is sound where its levels fit and its number passes

  module _ (mine : x < numbers) (few : (y : ℕ) → y < numbers → kind bs y ≤ 2) (some : 0 < o.count) (most : o.count < 0x80) where
    task_kind_law : (d : ℕ) → d < numbers → task_kind (kind bs d) ≡ is_task bs d
    unfolding is_task
    task_kind_law d l = both_ways _ _ (λ h. omega (arith, few d l, eqb-true, eq-eqb)) (λ h. omega (arith, eqb-true, eq-eqb))

    object_kind_law : (c : ℕ) → c < numbers → object_kind (kind bs c) ≡ is_object bs c
    unfolding is_object
    object_kind_law c l = both_ways _ _ (λ h. omega (arith, few c l, eqb-true, eq-eqb)) (λ h. omega (arith, eqb-true, eq-eqb))

    past : (c : ℕ) → numbers ≤ c → is_object bs c ≡ false
    unfolding is_object
    past c l = rw (field_past present bs c 0 long l)

    may_lie_in_law : kind bs x ≡ 2 → (c : ℕ) → may_lie_in bs x c ≡ container_fits bs x c
    unfolding may_lie_in container_fits place_of
    may_lie_in_law e c =
        ⊎_elim
        (λ (t : eqb c root_sign ≡ true). let r = eqb-true c root_sign t in simp (t, ne_eqb c x (omega arith), lt-ltb x numbers mine, e))
        (λ (f : eqb c root_sign ≡ false). ⊎_elim
        (λ (t : ltb c numbers ≡ true). simp (f, t, object_kind_law c (ltb-true c numbers t), and-true) (and_swap (not (eqb c x)) (is_object bs c)))
        (λ (g : ltb c numbers ≡ false). simp (f, g, past c (ltb-false c numbers g), and-false))
        (either (ltb c numbers)))
        (either (eqb c root_sign))
      where
        and_swap : (a b : Bool) → (a && b) ≡ (b && a)
        and_swap true b = sym (and-true b)
        and_swap false b = sym (and-false b)

    passes : Bool
    passes = below (raised o.count (word bs x)) && word_fits bs x

    passes_free : kind bs x ≡ 0 → passes ≡ free_record bs x
    unfolding passes word_fits other_fits other_bits not_two if_even
    passes_free e =
        let even : word bs x % 2 ≡ 0 = omega (arith, w_kind) in
        simp (ne_eqb (word bs x % 0x100) 2 (omega (arith, w_kind)), even, sym free_word) (both_ways _ _
        (λ h. let p = simp and-eq-true_iff at h in p.1.1)
        (λ h. let z = eqb-true _ _ h in and_i (zero_fits z) (rw z)))
      where
        zero_fits : word bs x ≡ 0 → below (raised o.count (word bs x)) ≡ true
        zero_fits z = simp (z, below_is 0 0 0 o.count (omega arith) (omega arith) (omega arith) most, lt-ltb 0 o.count some)

    passes_task : kind bs x ≡ 1 → passes ≡ task_record o bs x
    unfolding passes word_fits other_fits if_even
    passes_task e =
        let odd : word bs x % 2 ≡ 1 = omega (arith, w_kind) in
        simp (ne_eqb (word bs x % 0x100) 2 (omega (arith, w_kind)), odd, other_bits_law, w_rest, task_is, task_marks_law)
        (both_ways _ _
        (λ h. let p = simp and-eq-true_iff at h in
        let q = simp (levels_fit_law most (omega (arith, eqb-true)) (omega (arith, eqb-true)), and-eq-true_iff) at p.0 in
        simp and-eq-true_iff (omega (arith, eqb-true, ltb-true, eq-eqb, lt-ltb), (omega (arith, eqb-true, lt-ltb), sym (not_two_law rest (omega (arith, eqb-true))) ∙ p.1.0.1)))
        (λ h. let p = simp and-eq-true_iff at h in
        simp (and-eq-true_iff, levels_fit_law most (omega (arith, ltb-true)) (omega (arith, ltb-true)), not_two_law rest (ltb-true rest 4 p.1.0))
        (omega (arith, ltb-true, lt-ltb), ((omega (arith, eqb-true, ltb-true, eq-eqb), p.1.1), refl))))

    passes_object : kind bs x ≡ 2 → passes ≡ object_record_of present o bs x
    unfolding passes word_fits object_fits
    passes_object e =
        simp (eq-eqb (word bs x % 0x100) 2 (omega (arith, w_kind)), object_bits_law, w_container, may_lie_in_law e, object_is, object_marks_law)
        (both_ways _ _
        (λ h. let p = simp and-eq-true_iff at h in
        let q = simp (levels_fit_law most (omega (arith, eqb-true)) (omega (arith, eqb-true)), and-eq-true_iff) at p.0 in
        let d : word bs x / 0x100_0000 % numbers ≡ driver bs x = omega (arith, eqb-true, w_driver) in
        let t = rw (task_kind_law (driver bs x) (omega (arith, eqb-true))) at (rw d at p.1.0.1) in
        simp and-eq-true_iff (((omega (arith, eqb-true, ltb-true, eq-eqb, lt-ltb), t), p.1.1), omega (arith, eqb-true, lt-ltb)))
        (λ h. let p = simp and-eq-true_iff at h in
        let b = driver_below (driver bs x) p.0.0.1 in
        let d : word bs x / 0x100_0000 % numbers ≡ driver bs x = omega (arith, w_driver) in
        simp (and-eq-true_iff, d, task_kind_law (driver bs x) b, levels_fit_law most (omega (arith, ltb-true)) (omega (arith, eqb-true)))
        (omega (arith, eqb-true, ltb-true, lt-ltb), (((omega (arith, eqb-true, ltb-true, eq-eqb), p.0.0.1), p.0.1)))))

    pub word_record : (below (raised o.count (word bs x)) && word_fits bs x) ≡ sound_record o bs x
    unfolding passes
    word_record =
        ⊎_elim
        (λ t. let e = eqb-true (kind bs x) 1 t in passes_task e ∙ sym (sound_task present o bs x e))
        (λ t. ⊎_elim
        (λ n. let e = eqb-true (kind bs x) 2 n in passes_object e ∙ sym (sound_object present o bs x e))
        (λ n. let f = eqb-false (kind bs x) 1 t in let g = eqb-false (kind bs x) 2 n in passes_free (omega (arith, few x mine)) ∙ sym (sound_else present o bs x f g))
        (either (eqb (kind bs x) 2)))
        (either (eqb (kind bs x) 1))

    -- levels below the count fit
    pub low_fits : low o.count (word bs x) ≡ true → below (raised o.count (word bs x)) ≡ true
    unfolding low
    low_fits h = let p = simp (w_level, w_read, and-eq-true_iff) at h in simp (levels_fit_law most (omega (arith, ltb-true)) (omega (arith, ltb-true)), and-eq-true_iff) p
