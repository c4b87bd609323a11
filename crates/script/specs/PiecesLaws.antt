-- Laws of words, pieces and numbers: what a loop over the bytes of a line knows at its place, and what the pieces are.
-- Assumes nothing.
use Rattle.std.specs.Prelude.{◌≡◌, refl, Bool, true, false, not, cond, ◌&&◌, Option, Some, None, List, [], ◌∷◌, ℕ, suc, ◌+◌, ◌-◌, ◌*◌, ◌^◌, ◌≤◌, ◌<◌, leb, ltb, eqb, length, get_or, take, drop}
use Rattle.std.proofs.Common.{inl, inr, ap, ◌∙◌, arith, take_all, add-one, drop_of_length-le, length-drop, drop-cons, drop-drop, ltb-false, eqb-true, le-leb, leb-true}
use Rattle.std.specs.Cmp.Lexicographic.{pointwise}
use Rattle.std.specs.List.{position, position_or_len}
use Rattle.std.specs.Option.{unwrap_or}
use Rattle.std.proofs.lemmas.Bool.{false≢true, lt-leb}
use Rattle.std.proofs.lemmas.List.Sums.{prefix_len-le-length}
use Rattle.std.proofs.Math.Nat.{pow-succ', pow-le-pow_right}
use Rattle.bits.specs.AllLaws.{either, and_l, and_r, and-false}
use Rattle.script.specs.Script.{space, into, pieces, digits, value_from, value, is_number, same_word}
use Rattle.script.specs.Pieces.{first, afterwards, number_of}

pub cond_both : {A : Type 0} (b : Bool) (x : A) → cond b x x ≡ x
cond_both true x = refl
cond_both false x = refl

-- ---- words

pub same_eq : (a b : List ℕ) → same_word a b ≡ true → a ≡ b
unfolding same_word
same_eq [] [] e = refl
same_eq [] (y ∷ b) e = absurd (false≢true e)
same_eq (x ∷ a) [] e = absurd (false≢true e)
same_eq (x ∷ a) (y ∷ b) e =
    let p = eqb-true x y (and_l _ _ e) in
    let q = same_eq a b (and_r (eqb x y) _ e) in
    cc

pub same_length : (a b : List ℕ) → (length a ≡ length b → ⊥) → same_word a b ≡ false
same_length a b h = go (same_word a b) refl
  where
    go : (t : Bool) → same_word a b ≡ t → t ≡ false
    go true e = absurd (h (ap length (same_eq a b e)))
    go false e = refl

-- `==` on slices compares them just so
pub same_pointwise : (a b : List ℕ) → pointwise eqb a b ≡ same_word a b
unfolding same_word
same_pointwise [] [] = refl
same_pointwise [] (y ∷ b) = refl
same_pointwise (x ∷ a) [] = refl
same_pointwise (x ∷ a) (y ∷ b) = rw (same_pointwise a b)

-- ---- pieces

first_position : (l : List ℕ) → position_or_len (λ b. eqb b space) l ≡ length (first l)
unfolding first
first_position [] = refl
first_position (b ∷ bs) = elim (either (eqb b space)) [ inl h ↦ rw h | inr h ↦ rw h (omega (arith, first_position bs)) ]

-- where the first space stands, or else the end
pub first_end : (l : List ℕ) {r : Option ℕ} → r ≡ position (λ b. eqb b space) l → unwrap_or r (length l) ≡ length (first l)
first_end l e =
    let n = position_or_len (λ b. eqb b space) l in
    rw (e, ← first_position l) (elim (either (ltb n (length l))) [
      | inl h ↦ rw h
      | inr h ↦ rw h (omega (arith, ltb-false n (length l) h, prefix_len-le-length (λ b. not (eqb b space)) l))
    ])

pub first_within : (l : List ℕ) → length (first l) ≤ length l
unfolding first
first_within [] = omega arith
first_within (b ∷ bs) =
    let h = first_within bs in
    elim (eqb b space) as (λ t. length (cond t [] (b ∷ first bs)) ≤ suc (length bs)) [ true ↦ omega arith | false ↦ omega arith ]

pub take_first : (l : List ℕ) → take (length (first l)) l ≡ first l
unfolding first
take_first [] = refl
take_first (b ∷ bs) =
    let h = take_first bs in
    elim (eqb b space) as (λ t. take (length (cond t [] (b ∷ first bs))) (b ∷ bs) ≡ cond t [] (b ∷ first bs)) [ true ↦ refl | false ↦ ap (λ (r : List ℕ). b ∷ r) h ]

pub pieces_first : (l : List ℕ) → pieces l ≡ first l ∷ afterwards (drop (length (first l)) l)
unfolding first afterwards pieces into
pieces_first [] = refl
pieces_first (b ∷ bs) =
    let h = pieces_first bs in
    elim (eqb b space) as (λ t. cond t ([] ∷ pieces bs) (into b (pieces bs)) ≡ cond t [] (b ∷ first bs) ∷ afterwards (drop (length (cond t [] (b ∷ first bs))) (b ∷ bs))) [
      | true ↦ refl
      | false ↦ ap (into b) h
    ]

pub piece_at : (l : List ℕ) (from end : ℕ) → end ≡ from + length (first (drop from l)) → take (end - from) (drop from l) ≡ first (drop from l)
piece_at l from end e =
    let h : end - from ≡ length (first (drop from l)) = omega arith in
    rw h (take_first (drop from l))

pub piece_within : (l : List ℕ) (from : ℕ) → from ≤ length l → from + length (first (drop from l)) ≤ length l
piece_within l from h = omega (arith, first_within (drop from l), length-drop from l)

-- what is left from a place on, as a slice that reaches to the end has it
pub rest_from : (l : List ℕ) (i : ℕ) → take (length l - i) (drop i l) ≡ drop i l
rest_from l i = take_all (length l - i) (drop i l) (omega (arith, length-drop i l))

-- what follows a piece that ends at i, where the line goes on
pub after_at : (l : List ℕ) (i : ℕ) → i < length l → afterwards (drop i l) ≡ first (drop (i + 1) l) ∷ afterwards (drop (i + 1 + length (first (drop (i + 1) l))) l)
unfolding afterwards
after_at l i p = rw (drop-cons l i 0 p, ← add-one i, ← drop-drop _ (i + 1) l) (pieces_first (drop (i + 1) l))

pub after_end : (l : List ℕ) (i : ℕ) → length l ≤ i → afterwards (drop i l) ≡ []
unfolding afterwards
after_end l i p = rw (drop_of_length-le l p)

-- ---- numbers

pub digits_at : (p : List ℕ) (i : ℕ) → i < length p → digits (drop i p) ≡ (leb 48 (get_or p i 0) && leb (get_or p i 0) 57 && digits (drop (i + 1) p))
unfolding digits
digits_at p i h = rw (add-one, drop-cons p i 0 h)

pub value_at : (v : ℕ) (p : List ℕ) (i : ℕ) → i < length p → value_from v (drop i p) ≡ value_from (10 * v + (get_or p i 0 - 48)) (drop (i + 1) p)
unfolding value_from
value_at v p i h = rw (add-one, drop-cons p i 0 h)

pub too_short : (p : List ℕ) → length p < 1 → is_number p ≡ false
unfolding is_number
too_short p h = rw (lt-leb _ _ h)

pub too_long : (p : List ℕ) → 5 < length p → is_number p ≡ false
unfolding is_number
too_long p h = rw (lt-leb _ _ h, and-false)

pub no_digits : (p : List ℕ) → digits p ≡ false → is_number p ≡ false
unfolding is_number
no_digits p e = rw (e, and-false)

-- past the last digit, with their value v
pub number_read : (p : List ℕ) (v i : ℕ) → 1 ≤ length p → length p ≤ 5 → length p ≤ i → digits p ≡ digits (drop i p) → value p ≡ value_from v (drop i p)
    → number_of p ≡ cond (leb v 65535) (Some v) None
unfolding number_of is_number digits value_from
number_read p v i a b h d e =
    let none = drop_of_length-le p h in
    rw (le-leb _ _ a, le-leb _ _ b, d, e, none)

-- one digit more
pub digit_fits : {v i d : ℕ} → v < 10 ^ i → d < 10 → i < 5 → (10 * v + d < 10 ^ (i + 1)) × (10 * v + d < 100000)
digit_fits {v} {i} {d} h l m =
    let e = ap (λ (k : ℕ). 10 ^ k) (add-one i) ∙ pow-succ' 10 i in
    omega (arith, pow-le-pow_right {n = 10} (omega arith) {i = i + 1} {j = 5} (omega arith))

pub number_short : (p : List ℕ) → is_number p ≡ true → length p ≤ 5
unfolding is_number
number_short p e = leb-true _ _ (and_r (leb 1 (length p)) _ (and_l _ _ (and_l _ _ e)))
