-- What the operations on rows do to each column of each row, for every number n of words a row.
-- Assumes nothing.
use Rattle.std.specs.Prelude.{◌≡◌, refl, ◌⊎◌, Bool, true, false, not, ◌&&◌, ◌||◌, cond, List, ℕ, zero, suc, ◌+◌, ◌-◌, ◌*◌, ◌/◌, ◌%◌, ◌^◌, ◌≤◌, ◌<◌, eqb, ltb, length, get_or, set, replicate}
use Rattle.std.proofs.Common.{sym, ap, ap₂, ◌∙◌, inl, inr, ⊎_elim, le_refl, le_trans, mul-le-mul_left, arith, add-one, length-set, get_or-set_same, get_or-set_other, eqb-true, eq-eqb, ltb-true, ltb-false, lt-ltb, le-ltb}
use Rattle.std.proofs.Math.Bool.{and_assoc, and_comm, and-eq-true_iff}
use Rattle.std.proofs.Math.Nat.{le-suc}
use Rattle.std.proofs.Math.Arith.{digits_div, digits_mod}
use Rattle.std.specs.Int.Bits.{bit_and, bit_or, and_zero_l, or_zero_r}
use Rattle.std.proofs.Math.ListN.{get_or-eq_default}
use Rattle.std.proofs.Math.Pow.{pow-lt}
use Rattle.std.proofs.lemmas.List.{set-get_or}
use Rattle.std.proofs.Math.Seq.{set_out, paste}
use Rattle.std.proofs.lemmas.List.Edits.{paste_none, fill_from_more}
use Rattle.std.proofs.lemmas.Bool.{eqb-false}
use Rattle.bits.specs.Bit.{bit, word_of}
use Rattle.bits.specs.BitLaws.{bit_and_law, bit_or_law, bit_pow, bit_not, bit_zero, bit_word, word_is, word_lt}
use Rattle.bits.specs.All.{any_b, up_to}
use Rattle.bits.specs.AllLaws.{either, both_ways, or_l, and_i, and-false, and-true, or_false, any_ext, any_here, any_one, up_more}
use Rattle.bits.specs.LoopLaws.{up_keeps, up_sets, up_ext}
use Rattle.bits.specs.WordsLaws.{get_d_zeros}
use Rattle.rows.specs.Size.{Size, small, large, numbers_of}
use Rattle.rows.specs.Rows.{place, cell, add_cell, cut_cell, clear_row, clear_column, clear_thing, join_row, bridged}

-- ---- sizes

-- there is a number
pub some_number : (size : Size) → 0 < numbers_of size
some_number small = omega arith
some_number large = omega arith

-- ---- a store

-- the word at q after a change f of the word at p. A change that leaves 0 as it is may also fall past the end
get_d_change : (f : ℕ → ℕ) (ws : List ℕ) (p q : ℕ) → (p < length ws) ⊎ (f 0 ≡ 0) → get_or (set ws p (f (get_or ws p 0))) q 0 ≡ cond (eqb q p) (f (get_or ws q 0)) (get_or ws q 0)
get_d_change f ws p q h = ⊎_elim hit miss (either (eqb q p))
  where
    here : (p < length ws) ⊎ (f 0 ≡ 0) → (ltb p (length ws) ≡ true) ⊎ (ltb p (length ws) ≡ false) → get_or (set ws p (f (get_or ws p 0))) p 0 ≡ f (get_or ws p 0)
    here (inl l) b = get_or-set_same ws p _ 0 l
    here (inr z) (inl b) = get_or-set_same ws p _ 0 (ltb-true _ _ b)
    here (inr z) (inr b) =
        let e : get_or ws p 0 ≡ 0 = get_or-eq_default ws 0 (ltb-false _ _ b) in
        ap (λ (l : List ℕ). get_or l p 0) (set_out ws p _ (ltb-false _ _ b)) ∙ e ∙ sym z ∙ ap f (sym e)

    hit : eqb q p ≡ true → get_or (set ws p (f (get_or ws p 0))) q 0 ≡ cond (eqb q p) (f (get_or ws q 0)) (get_or ws q 0)
    hit e = rw (e, eqb-true q p e) (here h (either (ltb p (length ws))))

    miss : eqb q p ≡ false → get_or (set ws p (f (get_or ws p 0))) q 0 ≡ cond (eqb q p) (f (get_or ws q 0)) (get_or ws q 0)
    miss e = rw e (get_or-set_other ws p q _ 0 (eqb-false q p e))

-- a loop of stores of y, one place after the other, is one fill
pub up_fill : (ws : List ℕ) (p y n : ℕ) → p + n ≤ length ws → up_to (λ i v. set v (p + i) y) n ws ≡ paste ws p (replicate n y) n
unfolding up_to
up_fill ws p y zero h = paste_none ws p (replicate 0 y)
up_fill ws p y (suc n) h =
    ap (λ (v : List ℕ). set v (p + n) y) (up_fill ws p y n (omega arith)) ∙ fill_from_more ws p n y (omega arith)
    ∙ ap (λ (k : ℕ). paste ws p (replicate k y) k) (add-one n)

cell_change : (n : ℕ) (f : ℕ → ℕ) (ws : List ℕ) (p x y : ℕ) → (p < length ws) ⊎ (f 0 ≡ 0)
    → cell n (set ws p (f (get_or ws p 0))) x y ≡ cond (eqb (place n x y) p) (bit (f (get_or ws (place n x y) 0)) (y % 64)) (cell n ws x y)
unfolding cell
cell_change n f ws p x y h = ap (λ (w : ℕ). bit w (y % 64)) (get_d_change f ws p (place n x y) h) ∙ go (eqb (place n x y) p)
  where
    go : (b : Bool) → bit (cond b (f (get_or ws (place n x y) 0)) (get_or ws (place n x y) 0)) (y % 64) ≡ cond b (bit (f (get_or ws (place n x y) 0)) (y % 64)) (bit (get_or ws (place n x y) 0) (y % 64))
    go true = refl
    go false = refl

-- ---- no two columns of rows of n words stand at one place

pub same_place : (n x q x' q' : ℕ) → q < n → q' < n → eqb (n * x' + q') (n * x + q) ≡ (eqb x' x && eqb q' q)
same_place n x q x' q' h h' = both_ways _ _ there back
  where
    there : eqb (n * x' + q') (n * x + q) ≡ true → (eqb x' x && eqb q' q) ≡ true
    there e =
        let p : x' * n + q' ≡ x * n + q = omega (arith, eqb-true (n * x' + q') (n * x + q) e) in
        and_i
        (eq-eqb x' x (sym (digits_div x' h') ∙ ap (λ (k : ℕ). k / n) p ∙ digits_div x h))
        (eq-eqb q' q (sym (digits_mod x' h') ∙ ap (λ (k : ℕ). k % n) p ∙ digits_mod x h))

    back : (eqb x' x && eqb q' q) ≡ true → eqb (n * x' + q') (n * x + q) ≡ true
    back e = let d = simp and-eq-true_iff at e in eq-eqb _ _ (ap₂ (λ (k l : ℕ). n * k + l) (eqb-true x' x d.0) (eqb-true q' q d.1))

-- word q of row x' is among the words of row x that pass
any_place : (n x x' q : ℕ) (p : ℕ → Bool) → q < n → any_b n (λ i. eqb (n * x' + q) (n * x + i) && p i) ≡ (eqb x' x && p q)
any_place n x x' q p h =
    any_ext n _ _ (λ i l. ap (λ (b : Bool). b && p i) (same_place n x i x' q l h ∙ and_comm (eqb x' x) (eqb q i)) ∙ and_assoc (eqb q i) (eqb x' x) (p i))
    ∙ any_one n (λ i. eqb x' x && p i) q h

-- of t tables of r rows each, a column of a row has its place
pub place_below : (n r t j x y : ℕ) → j < t → x < r → y < 64 * n → place n (r * j + x) y < n * (r * t)
place_below n r t j x y lj lx ly =
    let row : suc (r * j + x) ≤ r * t = omega (arith, mul-le-mul_left r lj) in
    omega (arith, mul-le-mul_left n row)

low : (y : ℕ) → y % 64 < 64
low y = omega arith

same_cell : (n x y x' y' : ℕ) → y < 64 * n → y' < 64 * n → (eqb (place n x' y') (place n x y) && eqb (y' % 64) (y % 64)) ≡ (eqb x' x && eqb y' y)
same_cell n x y x' y' h h' =
    let d : y ≡ 64 * (y / 64) + y % 64 = omega arith in
    let d' : y' ≡ 64 * (y' / 64) + y' % 64 = omega arith in
    ap (λ (b : Bool). b && eqb (y' % 64) (y % 64)) (same_place n x (y / 64) x' (y' / 64) (omega arith) (omega arith))
    ∙ and_assoc (eqb x' x) (eqb (y' / 64) (y / 64)) (eqb (y' % 64) (y % 64))
    ∙ ap (λ (b : Bool). eqb x' x && b) (sym (ap₂ eqb d' d ∙ same_place 64 (y / 64) (y % 64) (y' / 64) (y' % 64) (low y) (low y')))

-- ---- one column of one row

cond_or : (e h q : Bool) → cond e (h || q) h ≡ (h || (e && q))
cond_or true h q = refl
cond_or false h q = sym (or_false h)

cond_cut : (e h q : Bool) → cond e (h && not q) h ≡ (h && not (e && q))
cond_cut true h q = refl
cond_cut false h q = sym (and-true h)

-- a word joined with k
cell_or : (n : ℕ) (ws : List ℕ) (p k x y : ℕ) → p < length ws
    → cell n (set ws p (bit_or (get_or ws p 0) k)) x y ≡ (cell n ws x y || (eqb (place n x y) p && bit k (y % 64)))
unfolding cell
cell_or n ws p k x y l =
    cell_change n (λ w. bit_or w k) ws p x y (inl l)
    ∙ ap (λ (b : Bool). cond (eqb (place n x y) p) b (cell n ws x y)) (bit_or_law _ _ _)
    ∙ cond_or (eqb (place n x y) p) (cell n ws x y) (bit k (y % 64))

pub cell_add : (n : ℕ) (ws : List ℕ) (x y x' y' : ℕ) → place n x y < length ws → y < 64 * n → y' < 64 * n
    → cell n (add_cell n ws x y) x' y' ≡ (cell n ws x' y' || (eqb x' x && eqb y' y))
unfolding add_cell
cell_add n ws x y x' y' l h h' =
    cell_or n ws (place n x y) (2 ^ (y % 64)) x' y' l
    ∙ ap (λ (b : Bool). cell n ws x' y' || b)
    (ap (λ (b : Bool). eqb (place n x' y') (place n x y) && b) (bit_pow (y % 64) (y' % 64)) ∙ same_cell n x y x' y' h h')

-- a cut past the end changes nothing, and no column there is set
pub cell_cut : (n : ℕ) (ws : List ℕ) (x y x' y' : ℕ) → y < 64 * n → y' < 64 * n
    → cell n (cut_cell n ws x y) x' y' ≡ (cell n ws x' y' && not (eqb x' x && eqb y' y))
unfolding cell cut_cell
cell_cut n ws x y x' y' h h' =
    cell_change n (λ w. bit_and w ((2 ^ 64 - 1) - 2 ^ (y % 64))) ws (place n x y) x' y' (inr (and_zero_l ((2 ^ 64 - 1) - 2 ^ (y % 64))))
    ∙ ap (λ (b : Bool). cond (eqb (place n x' y') (place n x y)) b (cell n ws x' y'))
    (bit_and_law _ _ _ ∙ ap (λ (b : Bool). cell n ws x' y' && b)
    (bit_not 64 (2 ^ (y % 64)) (y' % 64) (pow-lt (low y)) (low y') ∙ ap not (bit_pow (y % 64) (y' % 64))))
    ∙ cond_cut (eqb (place n x' y') (place n x y)) (cell n ws x' y') (eqb (y' % 64) (y % 64))
    ∙ ap (λ (b : Bool). cell n ws x' y' && not b) (same_cell n x y x' y' h h')

-- ---- loops that clear

and_nor : (h a b : Bool) → ((h && not a) && not b) ≡ (h && not (a || b))
and_nor true true b = refl
and_nor true false b = refl
and_nor false a b = refl

-- a loop whose step i clears where p i holds clears where some p i does
up_clears : {A : Type 0} (f : ℕ → A → A) (has : A → Bool) (p : ℕ → Bool) (n : ℕ) → ((i : ℕ) (s : A) → i < n → has (f i s) ≡ (has s && not (p i)))
    → (s : A) → has (up_to f n s) ≡ (has s && not (any_b n p))
unfolding up_to any_b
up_clears f has p zero h s = sym (and-true (has s))
up_clears f has p (suc n) h s =
    h n (up_to f n s) (le_refl (suc n))
    ∙ ap (λ (b : Bool). b && not (p n)) (up_clears f has p n (λ i t l. h i t (le_trans l (le-suc n))) s)
    ∙ and_nor (has s) (any_b n p) (p n)

pub cell_row : (n x : ℕ) (ws : List ℕ) (x' y : ℕ) → y < 64 * n → cell n (clear_row n x ws) x' y ≡ (cell n ws x' y && not (eqb x' x))
unfolding clear_row
cell_row n x ws x' y h =
    up_clears _ (λ v. cell n v x' y) (λ i. eqb (place n x' y) (n * x + i) && true) n
    (λ i v l. cell_change n (λ w. 0) v (n * x + i) x' y (inr refl)
    ∙ ap (λ (b : Bool). cond (eqb (place n x' y) (n * x + i)) b (cell n v x' y)) (bit_zero (y % 64) ∙ sym (and-false (cell n v x' y)))
    ∙ cond_cut (eqb (place n x' y) (n * x + i)) (cell n v x' y) true) ws
    ∙ ap (λ (b : Bool). cell n ws x' y && not b) (any_place n x x' (y / 64) (λ i. true) (omega arith) ∙ and-true (eqb x' x))

pub cell_column : (n r y : ℕ) (ws : List ℕ) (x' y' : ℕ) → y < 64 * n → y' < 64 * n
    → cell n (clear_column n r y ws) x' y' ≡ (cell n ws x' y' && not (ltb x' r && eqb y' y))
unfolding clear_column
cell_column n r y ws x' y' h h' =
    up_clears _ (λ v. cell n v x' y') (λ x. eqb x' x && eqb y' y) r (λ x v l. cell_cut n v x y x' y' h h') ws
    ∙ ap (λ (b : Bool). cell n ws x' y' && not b) (any_here r (λ x. eqb y' y) x')

-- in each table, row z < r and column y stay, but for row k and column k
pub cell_clear : (n r t k : ℕ) (ws : List ℕ) (i z y : ℕ) → i < t → z < r → y < 64 * n → k < r → k < 64 * n
    → cell n (clear_thing n r t k ws) (r * i + z) y ≡ (cell n ws (r * i + z) y && not (eqb z k) && not (eqb y k))
unfolding clear_thing
cell_clear n r t k ws i z y it zr yn kr kn =
    cell_column n (r * t) k _ (r * i + z) y kn yn
    ∙ ap₂ (λ (b e : Bool). b && not (e && eqb y k))
    (up_clears _ (λ v. cell n v (r * i + z) y) (λ j. eqb (r * i + z) (r * j + k)) t (λ j v l. cell_row n (r * j + k) v (r * i + z) y yn) ws
    ∙ ap (λ (b : Bool). cell n ws (r * i + z) y && not b) (any_ext t _ _ (λ j l. same_place r j k i z kr zr) ∙ any_one t (λ j. eqb z k) i it))
    (lt-ltb (r * i + z) (r * t) (omega (arith, mul-le-mul_left r it)))

-- ---- lengths stay

pub length_add : (n : ℕ) (ws : List ℕ) (x y : ℕ) → length (add_cell n ws x y) ≡ length ws
unfolding add_cell
length_add n ws x y = length-set ws _ _

pub length_cut : (n : ℕ) (ws : List ℕ) (x y : ℕ) → length (cut_cell n ws x y) ≡ length ws
unfolding cut_cell
length_cut n ws x y = length-set ws _ _

up_length : (f : ℕ → List ℕ → List ℕ) (n : ℕ) → ((i : ℕ) (v : List ℕ) → length (f i v) ≡ length v) → (ws : List ℕ) → length (up_to f n ws) ≡ length ws
up_length f n h ws = up_keeps f (λ v. length v ≡ length ws) n (λ i v l e. h i v ∙ e) ws refl

pub length_row : (n x : ℕ) (ws : List ℕ) → length (clear_row n x ws) ≡ length ws
unfolding clear_row
length_row n x ws = up_length _ n (λ i v. length-set v _ 0) ws

pub length_column : (n r y : ℕ) (ws : List ℕ) → length (clear_column n r y ws) ≡ length ws
unfolding clear_column
length_column n r y ws = up_length _ r (λ x v. length_cut n v x y) ws

pub length_clear : (n r t k : ℕ) (ws : List ℕ) → length (clear_thing n r t k ws) ≡ length ws
unfolding clear_thing
length_clear n r t k ws = length_column n (r * t) k _ ∙ up_length _ t (λ i v. length_row n (r * i + k) v) ws

-- ---- words that hold nothing

pub cell_past : (n : ℕ) (ws : List ℕ) (x y : ℕ) → length ws ≤ place n x y → cell n ws x y ≡ false
unfolding cell
cell_past n ws x y h = ap (λ (w : ℕ). bit w (y % 64)) (get_or-eq_default ws 0 h) ∙ bit_zero (y % 64)

pub cell_zeros : (n m x y : ℕ) → cell n (replicate m 0) x y ≡ false
unfolding cell
cell_zeros n m x y = ap (λ (w : ℕ). bit w (y % 64)) (get_d_zeros m (place n x y)) ∙ bit_zero (y % 64)

-- ---- loops that set

length_join : (n x : ℕ) (t : ℕ → Bool) (ws : List ℕ) → length (join_row n x t ws) ≡ length ws
unfolding join_row
length_join n x t ws = up_length _ n (λ i v. length-set v _ _) ws

cell_join : (n x : ℕ) (t : ℕ → Bool) (ws : List ℕ) (x' y : ℕ) → n * x + n ≤ length ws → y < 64 * n
    → cell n (join_row n x t ws) x' y ≡ (cell n ws x' y || (eqb x' x && t y))
unfolding join_row
cell_join n x t ws x' y room h =
    let d : 64 * (y / 64) + y % 64 ≡ y = omega arith in
    up_sets _ (λ v. length v ≡ length ws) (λ v. cell n v x' y) (λ i. eqb (place n x' y) (n * x + i) && t (64 * i + y % 64)) n (λ i v e. length-set v _ _ ∙ e)
    (λ i v l e. cell_or n v (n * x + i) _ x' y (omega arith)
    ∙ ap (λ (b : Bool). cell n v x' y || (eqb (place n x' y) (n * x + i) && b)) (bit_word (λ j. t (64 * i + j)) (y % 64) (low y))) ws refl
    ∙ ap (λ (b : Bool). cell n ws x' y || b) (any_place n x x' (y / 64) (λ i. t (64 * i + y % 64)) (omega arith) ∙ ap (λ (k : ℕ). eqb x' x && t k) d)

length_step : (n x : ℕ) (t : ℕ → Bool) (v : List ℕ) (b : Bool) → length (cond b (join_row n x t v) v) ≡ length v
length_step n x t v true = length_join n x t v
length_step n x t v false = refl

pub length_bridged : (n r : ℕ) (from to : ℕ → Bool) (ws : List ℕ) → length (bridged n r from to ws) ≡ length ws
unfolding bridged
length_bridged n r from to ws = up_length _ r (λ x v. length_step n x _ v (from x)) ws

-- row x and column y after bridging: what was there, and each column that passes in each row that does
pub cell_bridged : (n r : ℕ) (from to : ℕ → Bool) (ws : List ℕ) (x y : ℕ) → n * r ≤ length ws → y < 64 * n
    → cell n (bridged n r from to ws) x y ≡ (cell n ws x y || (ltb x r && (from x && (to y && not (eqb y x)))))
unfolding bridged
cell_bridged n r from to ws x y room h =
    up_sets _ (λ v. length v ≡ length ws) (λ v. cell n v x y) (λ z. eqb x z && (from z && (to y && not (eqb y z)))) r
    (λ z v e. length_step n z _ v (from z) ∙ e) (λ z v l e. one z v (from z) l e) ws refl
    ∙ ap (λ (b : Bool). cell n ws x y || b) (any_here r (λ z. from z && (to y && not (eqb y z))) x)
  where
    one : (z : ℕ) (v : List ℕ) (b : Bool) → z < r → length v ≡ length ws
        → cell n (cond b (join_row n z (λ y. to y && not (eqb y z)) v) v) x y ≡ (cell n v x y || (eqb x z && (b && (to y && not (eqb y z)))))
    one z v true l e = cell_join n z (λ y. to y && not (eqb y z)) v x y (omega (arith, mul-le-mul_left n l)) h
    one z v false l e = sym (rw (and-false (eqb x z)) (or_false (cell n v x y)))

-- one row more
pub bridged_more : (n r : ℕ) (from to : ℕ → Bool) (ws v : List ℕ) → v ≡ bridged n r from to ws
    → cond (from r) (join_row n r (λ y. to y && not (eqb y r)) v) v ≡ bridged n (r + 1) from to ws
unfolding bridged
bridged_more n r from to ws v e = up_more _ r ws v e

-- the rows to come are as they were
pub bridged_later : (n r : ℕ) (from to : ℕ → Bool) (ws : List ℕ) (x y : ℕ) → r ≤ x → n * r ≤ length ws → y < 64 * n
    → cell n (bridged n r from to ws) x y ≡ cell n ws x y
bridged_later n r from to ws x y l room h =
    cell_bridged n r from to ws x y room h
    ∙ ap (λ (b : Bool). cell n ws x y || (b && (from x && (to y && not (eqb y x))))) (le-ltb x r l)
    ∙ or_false (cell n ws x y)

-- ---- rows joined by equal tests are equal, and no column that passes changes nothing

pub join_ext : (n x : ℕ) (s t : ℕ → Bool) (ws : List ℕ) → ((y : ℕ) → y < 64 * n → s y ≡ t y) → join_row n x s ws ≡ join_row n x t ws
unfolding join_row
join_ext n x s t ws e =
    up_ext _ _ n
    (λ i v l. ap (λ (w : ℕ). set v (n * x + i) (bit_or (get_or v (n * x + i) 0) w))
    (word_is (λ j. t (64 * i + j)) _ (word_lt _) (λ j b. bit_word (λ j. s (64 * i + j)) j b ∙ e (64 * i + j) (omega arith)))) ws

join_none : (n x : ℕ) (ws : List ℕ) → join_row n x (λ y. false) ws ≡ ws
unfolding join_row
join_none n x ws = up_keeps _ (λ v. v ≡ ws) n (λ i v l e. still v (n * x + i) ∙ e) ws refl
  where
    still : (v : List ℕ) (p : ℕ) → set v p (bit_or (get_or v p 0) (word_of (λ j. false))) ≡ v
    still v p =
        ap (λ (w : ℕ). set v p (bit_or (get_or v p 0) w)) (sym (word_is (λ j. false) 0 (omega arith) (λ j b. bit_zero j)))
        ∙ ap (set v p) (or_zero_r (get_or v p 0))
        ∙ set-get_or v p 0

pub bridged_none : (n r : ℕ) (from to : ℕ → Bool) (ws : List ℕ) → ((y : ℕ) → y < 64 * n → to y ≡ false) → bridged n r from to ws ≡ ws
unfolding bridged
bridged_none n r from to ws h = up_keeps _ (λ v. v ≡ ws) r (λ x v l e. go x v (from x) ∙ e) ws refl
  where
    go : (x : ℕ) (v : List ℕ) (b : Bool) → cond b (join_row n x (λ y. to y && not (eqb y x)) v) v ≡ v
    go x v true = join_ext n x _ (λ y. false) v (λ y l. ap (λ (b : Bool). b && not (eqb y x)) (h y l)) ∙ join_none n x v
    go x v false = refl

-- ---- what is set stays so, wherever a column is set: past the end too

pub add_kept : (n : ℕ) (ws : List ℕ) (x y x' y' : ℕ) → cell n ws x' y' ≡ true → cell n (add_cell n ws x y) x' y' ≡ true
unfolding add_cell
add_kept n ws x y x' y' h =
    ⊎_elim
    (λ l. cell_or n ws (place n x y) (2 ^ (y % 64)) x' y' (ltb-true _ _ l) ∙ or_l (cell n ws x' y') _ h)
    (λ l. rw (set_out ws (place n x y) (bit_or (get_or ws (place n x y) 0) (2 ^ (y % 64))) (ltb-false _ _ l)) h)
    (either (ltb (place n x y) (length ws)))
