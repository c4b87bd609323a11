-- A place in a text and what is left there; what the answers to fields, objects' words and tasks tell of a reading.
-- Assumes nothing.
use Rattle.std.specs.Prelude.{◌≡◌, Bool, true, false, cond, None, Some, Result, Ok, Err, List, [], ◌∷◌, ◌++◌, ℕ, ◌+◌, ◌-◌, ◌*◌, ◌≤◌, ◌<◌, eqb, length, get_or, take, drop}
use Rattle.std.proofs.Math.Path.{refl}
use Rattle.std.proofs.Common.{sym, ap, ◌∙◌, arith, add-one, length-drop, drop_of_length-le, drop-cons, drop-drop, eqb-true, eq-eqb, le-leb}
use Rattle.std.proofs.lemmas.Bool.{false≢true, lt-leb}
use Rattle.std.proofs.lemmas.List.{append_assoc, take-append-le, take-take, take-append-drop, length-take-le}
use Rattle.std.proofs.lemmas.Result.{err_from_is_err_and}
use Rattle.std.specs.Result.{IsErrAnd}
use Rattle.std.proofs.Math.Decide.{dec_lt}
use Rattle.std.proofs.Math.Seq.{drop-append_seam}
use Rattle.layout.specs.Layout.{Object, Task, closing, object_word, driver_word, level_word, task_word, image_word, reads_word, digit, decimal, field_text, head_text, task_text}
use Rattle.layout.specs.Reading.{Reading, found, lost, after, expect, is_digit, more_digits, number, field, head, task_at}
use Rattle.layout.specs.Answers.{digit_at, stands_at, answer}
use Rattle.layout.specs.declared.fields.Found.{Found}
use Rattle.layout.specs.declared.fields.Lost.{Lost}
use Rattle.layout.proofs.NumberLaws.{starts, digit_is, digit_bounds, more_stop, more_digit, first_digit, field_read, head_read, task_read, field_longer, head_longer, task_longer, expect_is}

-- ---- a place, and what is left there

pub ends : (l : List ℕ) (e : ℕ) → e ≤ length l → length l - length (drop e l) ≡ e
ends l e h = omega (arith, length-drop e l)

pub cons_at : (l : List ℕ) (at : ℕ) → at < length l → drop at l ≡ get_or l at 0 ∷ drop (at + 1) l
cons_at l at h = rw add-one (drop-cons l at 0 h)

abbrev pub Tail : List ℕ → List ℕ → Type 0
Tail t u = (k : ℕ) × (u ≡ drop k t)

pub tail_then : {t u v : List ℕ} → Tail t u → Tail u v → Tail t v
tail_then {t} p q = (p.0 + q.0, q.1 ∙ ap (drop q.0) p.1 ∙ drop-drop q.0 p.0 t)

pub tail_append : (x u : List ℕ) → Tail (x ++ u) u
tail_append x u = (length x, sym (drop-append_seam x u))

pub tail_cons : (b : ℕ) (u : List ℕ) → Tail (b ∷ u) u
tail_cons b u = (1, refl)

pub tail_field : (w : List ℕ) (n : ℕ) (u : List ℕ) → Tail (field_text w n u) u
unfolding field_text
tail_field w n u = tail_then (tail_append w (decimal n ++ u)) (tail_append (decimal n) u)

pub tail_head : (h : Object) (u : List ℕ) → Tail (head_text h u) u
unfolding head_text
tail_head h u = tail_then (tail_field object_word h.number _) (tail_then (tail_field driver_word h.driver _) (tail_field level_word h.level u))

pub tail_task : (a : Task) (u : List ℕ) → Tail (task_text a u) u
unfolding task_text
tail_task a u = tail_then (tail_field task_word a.number _) (tail_then (tail_field image_word a.image _) (tail_then (tail_field level_word a.level _) (tail_then (tail_field reads_word a.reads (closing ∷ u)) (tail_cons closing u))))

pub rest_at : (l u : List ℕ) → Tail l u → u ≡ drop (length l - length u) l
rest_at l u t =
    elim (dec_lt (length l) t.0) [
      | yes p ↦
          let e : u ≡ [] = t.1 ∙ drop_of_length-le l {i = t.0} (omega arith) in
          let n = ap length e in
          e ∙ sym (drop_of_length-le l {i = length l - length u} (omega arith))
      | no p ↦
          let e : length l - length u ≡ t.0 = rw t.1 (ends l t.0 (omega arith)) in
          rw e t.1
    ]

pub rest_in : (l t u : List ℕ) (at : ℕ) → drop at l ≡ t → Tail t u → u ≡ drop (length l - length u) l
rest_in l t u at e p = rest_at l u (tail_then (at, sym e) p)

-- what was read of the rest at `at`, and goes on at e
pub record Goes {A : Type 0} (l : List ℕ) (at : ℕ) (r : Reading A) (a : A) (e : ℕ) : Type 0 where
  pub is : r ≡ found a (drop e l)
  pub within : e ≤ length l
  pub less : length (drop e l) ≤ length (drop at l)

pub goes : {A : Type 0} (l t u : List ℕ) (at e : ℕ) (r : Reading A) (a b : A) → drop at l ≡ t → Tail t u → length u ≤ length t → r ≡ found a u → a ≡ b → length l - length u ≡ e → Goes l at r b e
goes l t u at e r a b p q s f g h =
    let d = rest_in l t u at p q in
    record { is = f ∙ rw (g, ← h, ← d); within = omega arith; less = rw (← h, ← d, p) s }

-- what is left there is less, if something was read
fewer : (l t u : List ℕ) (at e : ℕ) → drop at l ≡ t → Tail t u → length u < length t → length l - length u ≡ e → length (drop e l) < length (drop at l)
fewer l t u at e p q s h = rw (← h, ← rest_in l t u at p q, p) s

-- the reader left at e, in a text of length n
pub record Leaves {A : Type 0} (n : ℕ) (r : Reading A) (e : ℕ) : Type 0 where
  pub rest : List ℕ
  pub is : r ≡ lost rest
  pub place : n - length rest ≡ e

pub leaves_at : {A : Type 0} (l : List ℕ) (r : Reading A) (e : ℕ) → r ≡ lost (drop e l) → e ≤ length l → Leaves (length l) r e
leaves_at l r e h w = record { rest = drop e l; is = h; place = ends l e w }

-- ---- a byte

pub stands : (l : List ℕ) (at c : ℕ) → stands_at c (drop at l) ≡ true → (at < length l) × (drop at l ≡ c ∷ drop (at + 1) l)
unfolding stands_at
stands l at c e = elim (dec_lt at (length l)) [
  | yes p ↦
      let f = cons_at l at p in
      (p, f ∙ ap (λ (b : ℕ). b ∷ drop (at + 1) l) (eqb-true (get_or l at 0) c (rw f at e)))
  | no p ↦ absurd (false≢true (rw (drop_of_length-le l {i = at} (omega arith)) at e))
]

pub stands_expected : {A : Type 0} (l : List ℕ) (at c : ℕ) (a : A) → stands_at c (drop at l) ≡ true → expect c a (drop at l) ≡ found a (drop (at + 1) l)
stands_expected l at c a e = ap (expect c a) (stands l at c e).1 ∙ expect_is c a (drop (at + 1) l)

pub stands_not : {A : Type 0} (c : ℕ) (a : A) (t : List ℕ) → stands_at c t ≡ false → expect c a t ≡ lost t
unfolding stands_at expect
stands_not c a [] e = refl
stands_not c a (b ∷ t) e = rw e

pub stands_past : (l : List ℕ) (at c : ℕ) → length l ≤ at → false ≡ stands_at c (drop at l)
unfolding stands_at
stands_past l at c h = rw (drop_of_length-le l h)

pub stands_is : (l : List ℕ) (at c : ℕ) → at < length l → eqb (get_or l at 0) c ≡ stands_at c (drop at l)
unfolding stands_at
stands_is l at c h = rw (cons_at l at h)

-- ---- a digit

pub digit_past : (l : List ℕ) (at : ℕ) → length l ≤ at → None ≡ digit_at (drop at l)
unfolding digit_at
digit_past l at h = rw (drop_of_length-le l h)

pub digit_low : (l : List ℕ) (at : ℕ) → at < length l → get_or l at 0 < 48 → None ≡ digit_at (drop at l)
unfolding digit_at is_digit
digit_low l at h p = rw (cons_at l at h, lt-leb 48 (get_or l at 0) p)

pub digit_high : (l : List ℕ) (at : ℕ) → at < length l → 57 < get_or l at 0 → None ≡ digit_at (drop at l)
unfolding digit_at is_digit
digit_high l at h p = rw (cons_at l at h, le-leb 48 (get_or l at 0) (omega arith), lt-leb (get_or l at 0) 57 p)

pub digit_here : (l : List ℕ) (at : ℕ) → at < length l → 48 ≤ get_or l at 0 → get_or l at 0 ≤ 57 → Some (get_or l at 0 - 48) ≡ digit_at (drop at l)
unfolding digit_at is_digit
digit_here l at h p q = rw (cons_at l at h, le-leb 48 (get_or l at 0) p, le-leb (get_or l at 0) 57 q)

at_digit : (t : List ℕ) (d : ℕ) → digit_at t ≡ Some d → (s : List ℕ) × (t ≡ digit d ∷ s) × (d ≤ 9)
unfolding digit_at
at_digit [] d h = absurd (cc)
at_digit (b ∷ t) d h = go (is_digit b) refl h
  where
    go : (y : Bool) → is_digit b ≡ y → cond y (Some (b - 48)) None ≡ Some d → (s : List ℕ) × (b ∷ t ≡ digit d ∷ s) × (d ≤ 9)
    go true e p =
        let q = digit_bounds b e in
        let v : b - 48 ≡ d = cc in
        let is : b ≡ 48 + d = omega (arith, q) in
        (t, ap (λ (x : ℕ). x ∷ t) is, omega (arith, q))
    go false e p = absurd (cc)

at_none : (t : List ℕ) → digit_at t ≡ None → starts t ≡ false
unfolding digit_at starts
at_none [] h = refl
at_none (b ∷ t) h = go (is_digit b) refl h
  where
    go : (y : Bool) → is_digit b ≡ y → cond y (Some (b - 48)) None ≡ None → y ≡ false
    go true e p = absurd (cc)
    go false e p = refl

drop_is : (l s : List ℕ) (at x : ℕ) → drop at l ≡ x ∷ s → (at < length l) × (s ≡ drop (at + 1) l)
drop_is l s at x e =
    let n = ap length e in
    let h : at < length l = omega (arith, length-drop at l) in
    let f = drop-cons l at 0 h in
    (h, rw add-one (cc))

-- the digit d stands at the place p, and j is the next one
pub record Here (l : List ℕ) (p j d : ℕ) : Type 0 where
  pub within : j ≤ length l
  pub small : d ≤ 9
  pub is : drop p l ≡ digit d ∷ drop j l

pub here : (l : List ℕ) (p j d : ℕ) → p + 1 ≡ j → digit_at (drop p l) ≡ Some d → Here l p j d
here l p j d e h =
    let t = at_digit (drop p l) d h in
    let s = drop_is l t.0 p _ t.1 in
    record { within = omega (arith, s.0); small = t.2; is = t.1 ∙ rw (s.1, e) }

pub none_here : (l : List ℕ) (at : ℕ) → digit_at (drop at l) ≡ None → starts (drop at l) ≡ false
none_here l at e = at_none (drop at l) e

-- ---- a number of no digit, of a zero, of one, two and three digits

pub number_none : (t : List ℕ) → starts t ≡ false → number t ≡ lost t
unfolding starts number
number_none [] e = refl
number_none (b ∷ t) e = go (eqb b 48) refl
  where
    go : (y : Bool) → eqb b 48 ≡ y → cond y (found 0 t) (cond (is_digit b) (more_digits 2 (b - 48) t) (lost (b ∷ t))) ≡ lost (b ∷ t)
    go true p = absurd (false≢true (sym e ∙ rw (eqb-true b 48 p) (digit_is 0 (omega arith))))
    go false p = rw e

number_zero : (t : List ℕ) → number (digit 0 ∷ t) ≡ found 0 t
unfolding number
number_zero t = refl

pub zero_digit : (l : List ℕ) (p q a : ℕ) → Here l p q a → a ≡ 0 → number (drop p l) ≡ found 0 (drop q l)
zero_digit l p q a h z = ap number h.is ∙ rw z (number_zero (drop q l))

pub one_digit : (l : List ℕ) (p q a : ℕ) → Here l p q a → 1 ≤ a → starts (drop q l) ≡ false → number (drop p l) ≡ found a (drop q l)
one_digit l p q a h z s = ap number h.is ∙ first_digit a (drop q l) z h.small ∙ more_stop 2 a (drop q l) s

pub two_digits : (l : List ℕ) (p q r a b : ℕ) → Here l p q a → 1 ≤ a → Here l q r b → starts (drop r l) ≡ false → number (drop p l) ≡ found (10 * a + b) (drop r l)
two_digits l p q r a b h z i s = ap number (h.is ∙ ap (λ (x : List ℕ). digit a ∷ x) i.is) ∙ first_digit a _ z h.small ∙ more_digit 1 a b _ i.small ∙ more_stop 1 _ (drop r l) s

pub three_digits : (l : List ℕ) (p q r s a b c : ℕ) → Here l p q a → 1 ≤ a → Here l q r b → Here l r s c → number (drop p l) ≡ found (10 * (10 * a + b) + c) (drop s l)
three_digits l p q r s a b c h z i j =
    ap number (h.is ∙ ap (λ (x : List ℕ). digit a ∷ x) (i.is ∙ ap (λ (x : List ℕ). digit b ∷ x) j.is)) ∙ first_digit a _ z h.small ∙ more_digit 1 a b _ i.small ∙ more_digit 0 _ c _ j.small ∙ no_more _ (drop s l)
  where
    no_more : (v : ℕ) (t : List ℕ) → more_digits 0 v t ≡ found v t
    no_more v t = unfold more_digits in refl

-- ---- a word

-- byte by byte
pub word_step : (l w : List ℕ) (i p : ℕ) → i < length w → stands_at (get_or w i 0) (drop p l) ≡ true → field (drop i w) (drop p l) ≡ field (drop (i + 1) w) (drop (p + 1) l)
unfolding field
word_step l w i p a s = rw ((stands l p (get_or w i 0) s).1, add-one i, drop-cons w i 0 a, eq-eqb (get_or w i 0) (get_or w i 0) refl)

other_byte : (c : ℕ) (v t : List ℕ) → stands_at c t ≡ false → field (c ∷ v) t ≡ lost t
unfolding field stands_at
other_byte c v [] e = refl
other_byte c v (b ∷ t) e = rw e

pub word_lost : (l w : List ℕ) (i p : ℕ) → i < length w → stands_at (get_or w i 0) (drop p l) ≡ false → field (drop i w) (drop p l) ≡ lost (drop p l)
word_lost l w i p a s = ap (λ (v : List ℕ). field v (drop p l)) (drop-cons w i 0 a) ∙ other_byte _ _ _ s

pub word_end : (l w : List ℕ) (i p : ℕ) → length w ≤ i → field (drop i w) (drop p l) ≡ number (drop p l)
unfolding field
word_end l w i p a = rw (drop_of_length-le w a)

-- the whole word
pub word_stands : (w t u : List ℕ) → t ≡ w ++ u → field w t ≡ number u
unfolding field
word_stands [] t u e = rw e
word_stands (c ∷ w) t u e = rw (e, eq-eqb c c refl) (word_stands w (w ++ u) u refl)

-- by its first four bytes and its last four
pub word_ends : (w t u v : List ℕ) → 4 ≤ length w → length w ≤ 8 → t ≡ take 4 w ++ u → drop (length w - 4) t ≡ drop (length w - 4) w ++ v → field w t ≡ number (drop (length w) t)
word_ends w t u v few many p q =
    let k = length w - 4 in
    let first : take k t ≡ take k w = ap (take k) p ∙ take-append-le k (take 4 w) u (rw (length-take-le 4 w few) (omega arith)) ∙ take-take k 4 w (omega arith) in
    let whole : t ≡ w ++ v = sym (take-append-drop k t) ∙ rw (first, q, ← append_assoc (take k w) (drop k w) v, take-append-drop k w) in
    word_stands w t v whole ∙ ap number (sym (ap (drop (length w)) whole ∙ drop-append_seam w v))

-- ---- an answer

pub found_is : {A : Type 0} (l : List ℕ) (r : Reading A) (a : A) (e : ℕ) → r ≡ found a (drop e l) → e ≤ length l → Ok (record { value = a; end = e }) ≡ answer (length l) r
unfolding answer
found_is l r a e h w = rw (h, ends l e w)

pub lost_is : {A : Type 0} (n : ℕ) (r : Reading A) (e : ℕ) → Leaves n r e → Err (record { at = e }) ≡ answer n r
unfolding answer
lost_is n r e h = rw (h.is, h.place)

-- the error that a `?` passes on
pub passed_on : {T E : Type 0} (x : E) (out : Result T E) → IsErrAnd out (λ y. y ≡ x) → out ≡ Err x
passed_on x out h = let p = err_from_is_err_and out h in p.1 ∙ ap Err p.2

-- what it tells of the reading
found_of : {A : Type 0} (n : ℕ) (r : Reading A) (f : Found A) → answer n r ≡ Ok f → (u : List ℕ) × (r ≡ found f.value u) × (n - length u ≡ f.end)
unfolding answer
found_of n (found a u) f e = let v : a ≡ f.value = cc in (u, rw v, cc)
found_of n (lost u) f e = absurd (cc)

pub lost_of : {A : Type 0} (n : ℕ) (r : Reading A) (x : Lost) → answer n r ≡ Err x → Leaves n r x.at
unfolding answer
lost_of n (found a u) x e = absurd (cc)
lost_of n (lost u) x e = record { rest = u; is = refl; place = cc }

pub field_got : (l w : List ℕ) (at : ℕ) (f : Found ℕ) → answer (length l) (field w (drop at l)) ≡ Ok f → Goes l at (field w (drop at l)) f.value f.end
field_got l w at f e =
    let g = found_of (length l) _ f e in
    let r = field_read w (drop at l) f.value g.0 g.1 in
    goes l (field_text w f.value g.0) g.0 at f.end _ f.value f.value r.1 (tail_field w f.value g.0) (omega (arith, field_longer w f.value g.0)) g.1 refl g.2

-- ---- the answer to an object's words

pub head_no_number : (n e : ℕ) (t : List ℕ) → Leaves n (field object_word t) e → Leaves n (head t) e
unfolding head after
head_no_number n e t h = record { rest = h.rest; is = rw h.is; place = h.place }

pub head_no_driver : (n e a : ℕ) (t u : List ℕ) → field object_word t ≡ found a u → Leaves n (field driver_word u) e → Leaves n (head t) e
unfolding head after
head_no_driver n e a t u f h = record { rest = h.rest; is = rw (f, h.is); place = h.place }

pub head_no_level : (n e a b : ℕ) (t u v : List ℕ) → field object_word t ≡ found a u → field driver_word u ≡ found b v → Leaves n (field level_word v) e → Leaves n (head t) e
unfolding head after
head_no_level n e a b t u v f g h = record { rest = h.rest; is = rw (f, g, h.is); place = h.place }

pub head_whole : (a b c : ℕ) (t u v w : List ℕ) → field object_word t ≡ found a u → field driver_word u ≡ found b v → field level_word v ≡ found c w → head t ≡ found (record { number = a; driver = b; level = c }) w
unfolding head after
head_whole a b c t u v w f g h = rw (f, g, h)

pub head_got : (l : List ℕ) (at : ℕ) (f : Found Object) → answer (length l) (head (drop at l)) ≡ Ok f → Goes l at (head (drop at l)) f.value f.end × (length (drop f.end l) < length (drop at l))
head_got l at f e =
    let g = found_of (length l) _ f e in
    let r = head_read (drop at l) f.value g.0 g.1 in
    let more = head_longer f.value g.0 in (
      goes l (head_text f.value g.0) g.0 at f.end _ f.value f.value r.1 (tail_head f.value g.0) (omega (arith, more)) g.1 refl g.2,
      fewer l (head_text f.value g.0) g.0 at f.end r.1 (tail_head f.value g.0) more g.2,
    )

-- ---- the answer to a task

-- the rest of a task's form after its number, its image and its level
pub record Three (t : List ℕ) (n i l : ℕ) (w : List ℕ) : Type 0 where
  pub u : List ℕ
  pub v : List ℕ
  pub first : field task_word t ≡ found n u
  pub second : field image_word u ≡ found i v
  pub third : field level_word v ≡ found l w

pub task_no_number : (n e : ℕ) (t : List ℕ) → Leaves n (field task_word t) e → Leaves n (task_at t) e
unfolding task_at after
task_no_number n e t h = record { rest = h.rest; is = rw h.is; place = h.place }

pub task_no_image : (n e a : ℕ) (t u : List ℕ) → field task_word t ≡ found a u → Leaves n (field image_word u) e → Leaves n (task_at t) e
unfolding task_at after
task_no_image n e a t u f h = record { rest = h.rest; is = rw (f, h.is); place = h.place }

pub task_no_level : (n e a b : ℕ) (t u v : List ℕ) → field task_word t ≡ found a u → field image_word u ≡ found b v → Leaves n (field level_word v) e → Leaves n (task_at t) e
unfolding task_at after
task_no_level n e a b t u v f g h = record { rest = h.rest; is = rw (f, g, h.is); place = h.place }

pub task_no_reads : (n e a b c : ℕ) (t w : List ℕ) → Three t a b c w → Leaves n (field reads_word w) e → Leaves n (task_at t) e
unfolding task_at after
task_no_reads n e a b c t w s h = record { rest = h.rest; is = rw (s.first, s.second, s.third, h.is); place = h.place }

-- what the closing bracket settles
pub task_closes : (a b c d : ℕ) (t w x : List ℕ) → Three t a b c w → field reads_word w ≡ found d x → task_at t ≡ expect closing (record { number = a; image = b; level = c; reads = d }) x
unfolding task_at after
task_closes a b c d t w x s h = rw (s.first, s.second, s.third, h)

pub task_got : (l : List ℕ) (at : ℕ) (f : Found Task) → answer (length l) (task_at (drop at l)) ≡ Ok f → Goes l at (task_at (drop at l)) f.value f.end × (length (drop f.end l) < length (drop at l))
task_got l at f e =
    let g = found_of (length l) _ f e in
    let r = task_read (drop at l) f.value g.0 g.1 in
    let more = task_longer f.value g.0 in (
      goes l (task_text f.value g.0) g.0 at f.end _ f.value f.value r.1 (tail_task f.value g.0) (omega (arith, more)) g.1 refl g.2,
      fewer l (task_text f.value g.0) g.0 at f.end r.1 (tail_task f.value g.0) more g.2,
    )
