-- Laws of what is printed.
-- Assumes nothing.
use Rattle.std.specs.Prelude.{◌≡◌, refl, Option, List, [], ◌∷◌, ◌++◌, ℕ, zero, suc, ◌+◌, ◌-◌, ◌/◌, ◌%◌, ◌≤◌, ◌<◌, min, eqb, ltb, length, take}
use Rattle.std.proofs.Common.{sym, ap, ◌∙◌, inl, inr, arith, append_assoc, append-nil, take_all, length-take, length-append, lt-ltb, le-ltb, ltb-false}
use Rattle.std.specs.List.{position, position_or_len}
use Rattle.std.specs.Option.{unwrap_or}
use Rattle.std.proofs.lemmas.List.{take_min}
use Rattle.std.proofs.lemmas.Slice.{take-put_mid}
use Rattle.std.proofs.Math.Seq.{take-append-add}
use borrow.Rule.Slice.PartMut.{put_mid}
use Rattle.bits.specs.AllLaws.{either}
use Rattle.script.specs.Print.{digit, decimal, until, reply_line, held, Printed}
use Rattle.script.specs.declared.text.Text.{Text}
use Rattle.script.specs.declared.print.Reply.{Reply}
use Rattle.script.specs.declared.print.Reply.TheVariants.{Bad, Verdict, Rounds}

pub take_more : (n : ℕ) (l m : List ℕ) → take n (take n l ++ m) ≡ take n (l ++ m)
take_more zero l m = refl
take_more (suc n) [] m = refl
take_more (suc n) (a ∷ l) m = ap (λ (t : List ℕ). a ∷ t) (take_more n l m)

pub nothing_printed : {n : ℕ} (a : Text n) → Printed a [] a
nothing_printed {n} a = record { stored = rw (append-nil, take_all n (held a) (omega (arith, length-take a.len a.bytes, a.within))) }

-- one text after another
pub then : {n : ℕ} {a b c : Text n} {s t : List ℕ} → Printed a s b → Printed b t c → Printed a (s ++ t) c
then {n} {a} {s = s} {t = t} p q =
    record { stored = q.stored ∙ ap (λ (h : List ℕ). take n (h ++ t)) p.stored ∙ take_more n (held a ++ s) t ∙ rw append_assoc }

-- where there is room, the whole text is there
pub printed_whole : {n : ℕ} {a b : Text n} {t : List ℕ} → Printed a t b → length (held a) + length t ≤ n → held b ≡ held a ++ t
printed_whole {n} {a} {t = t} p h = p.stored ∙ take_all n (held a ++ t) (omega (arith, length-append (held a) t))

-- text that is copied in at once, as much of it as there is room for
pub copied : (l t : List ℕ) {n at k : ℕ} {s : List ℕ} → length l ≡ n → at ≤ n → k ≡ min (length t) (n - at) → s ≡ take k t → take (at + k) (put_mid at (at + k - at) l s) ≡ take n (take at l ++ t)
copied l t {n} {at} {k} {s} z b e p =
    let h = take at l in
    let room : n ≡ length h + (n - at) = omega (arith, length-take at l, z) in
    let less : k ≡ min (n - at) (length t) = omega (arith, e) in
    take-put_mid at (at + k - at) l s (at + k) (omega (arith, ap length p, length-take k t)) (omega (arith, z))
    ∙ ap (λ (x : List ℕ). h ++ x) (p ∙ ap (λ (x : ℕ). take x t) less ∙ take_min (n - at) t)
    ∙ sym (ap (λ (x : ℕ). take x (h ++ t)) room ∙ take-append-add h t (n - at))

-- ---- the bytes before the first of a kind

until_position : (stop : ℕ) (l : List ℕ) → position_or_len (λ b. eqb b stop) l ≡ length (until stop l)
unfolding until
until_position stop [] = refl
until_position stop (b ∷ bs) = elim (either (eqb b stop)) [ inl h ↦ rw h | inr h ↦ rw h (omega (arith, until_position stop bs)) ]

pub until_within : (stop : ℕ) (l : List ℕ) → length (until stop l) ≤ length l
unfolding until
until_within stop [] = omega arith
until_within stop (b ∷ bs) = elim (either (eqb b stop)) [ inl h ↦ rw h (omega arith) | inr h ↦ rw h (omega (arith, until_within stop bs)) ]

pub until_taken : (stop : ℕ) (l : List ℕ) → take (length (until stop l)) l ≡ until stop l
unfolding until
until_taken stop [] = refl
until_taken stop (b ∷ bs) = elim (either (eqb b stop)) [ inl h ↦ rw h | inr h ↦ rw h (ap (λ (t : List ℕ). b ∷ t) (until_taken stop bs)) ]

-- where the first stands, or else the end
pub until_end : (stop : ℕ) (l : List ℕ) {r : Option ℕ} → r ≡ position (λ b. eqb b stop) l → unwrap_or r (length l) ≡ length (until stop l)
until_end stop l e =
    let n = length (until stop l) in
    rw (e, until_position stop l) (elim (either (ltb n (length l))) [
      | inl h ↦ rw h
      | inr h ↦ rw h (omega (arith, ltb-false n (length l) h, until_within stop l))
    ])

-- ---- decimal

pub one_digit : (n : ℕ) → n < 10 → decimal n ≡ digit n ∷ []
unfolding decimal
one_digit n h = rw (lt-ltb _ _ h)

pub two_digits : (n : ℕ) → 10 ≤ n → n < 100 → decimal n ≡ digit (n / 10) ∷ digit (n % 10) ∷ []
unfolding decimal
two_digits n h l = rw (le-ltb _ _ h, lt-ltb _ _ l)

pub three_digits : (n : ℕ) → 10 ≤ n → 100 ≤ n → decimal n ≡ digit (n / 100) ∷ digit (n / 10 % 10) ∷ digit (n % 10) ∷ []
unfolding decimal
three_digits n h l = rw (le-ltb _ _ h, le-ltb _ _ l)

pub small : (n : ℕ) → length (decimal n) ≤ 3
unfolding decimal
small n =
    elim (either (ltb n 10)) [
      | inl a ↦ rw a (omega arith)
      | inr a ↦ elim (either (ltb n 100)) [ inl b ↦ rw (a, b) (omega arith) | inr b ↦ rw (a, b) (omega arith) ]
    ]

pub reply_short : (r : Reply) → length (reply_line r) ≤ 8
unfolding reply_line
reply_short Bad = omega arith
reply_short (Verdict v) = simp length-append (omega (arith, small v))
reply_short (Rounds v n) = simp length-append (omega (arith, small v, small n))

pub reply_within : (r : Reply) {n : ℕ} {a b : Text n} → Printed a (reply_line r) b → length (held b) ≤ length (held a) + 8
reply_within r {n} {a} p = omega (arith, ap length p.stored, length-take n (held a ++ reply_line r), length-append (held a) (reply_line r), reply_short r)
