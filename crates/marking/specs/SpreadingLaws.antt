-- The spread on sets keeps step with the rounds of the model.
-- Assumes nothing.
use Rattle.std.specs.Prelude.{◌≡◌, refl, ◌⊎◌, Bool, true, ◌&&◌, ◌||◌, List}
use Rattle.std.proofs.Math.Path.{sym, ap, ap₂}
use Rattle.std.proofs.Common.{◌∙◌, inl, inr, ⊎_elim, true≢false, zero-add, arith}
use Rattle.std.proofs.Math.Bool.{false, not, and-eq-true_iff, or_assoc}
use Prim.Native.Nat.{ℕ, zero, suc, ◌+◌, ◌-◌, ◌≤◌, ◌<◌}
use Rattle.std.proofs.lemmas.Bool.{not-true}
use Rattle.bits.specs.All.{all_b, any_b, ◌⇒◌, count_b}
use Rattle.bits.specs.AllLaws.{either, any_ext, any_at, all_at, not_so, and_i, and-true, and-false}
use Rattle.bits.specs.LoopLaws.{count_le, count_more}
use Rattle.rows.specs.Size.{row_size, numbers}
use Rattle.rows.specs.Rows.{cell}
use Rattle.sets.specs.declared.Set.{Set}
use Rattle.sets.specs.Sets.{last, has, set_of, joined}
use Rattle.sets.specs.SetLaws.{in_set, set_ext, empty_at}
use Rattle.sets.specs.WalkLaws.{joined_ext}
use Rattle.model.specs.State.{Memory, in_use, marked}
use Rattle.model.proofs.StateLaws.{object_used, marked_below}
use Rattle.model.specs.Effects.{mark_where}
use Rattle.model.specs.Spread.{reached, driven, round, marks_some, rounds, after_rounds, spread}
use Rattle.model.proofs.MarkLaws.{MoreMarks, more_none, more_then, kept_in_use, kept_marked, where_length}
use Rattle.model.proofs.SpreadLaws.{Sized, Closed, sized_more, by_flows, round_only, more_round, marked_round, unmarked, round_fewer, rest_rounds, after_keeps, spread_only}
use Rattle.marking.specs.declared.rounds.Spread.{Spread}
use Rattle.marking.specs.MarksLaws.{Marks, marks_none, marks_ext, marks_then, marks_where, marks_same, kept_object_of}
use Rattle.marking.specs.Rounds.{Table, by_flow, by_driver, round_set, spread_sets}
use Rattle.marking.specs.RoundLaws.{Sources, round_is, first_sources, next_sources}

table_more : {m v : Memory} {ws : List ℕ} → MoreMarks m v → Table m ws → Table v ws
table_more {m} {v} g t =
    record {
      owns = λ d x l k n. t.owns d x l k (was x n) ∙ sym (kept_object_of g d x);
      drives = λ d x l k n e. t.drives d x l k (was x n) (sym (kept_object_of g d x) ∙ e);
    }
  where
    was : (x : ℕ) → marked v x ≡ false → marked m x ≡ false
    was x n = not_so _ (λ e. true≢false (sym (kept_marked g x e) ∙ n))

sources_ext : {v : Memory} {q r : ℕ → Bool} → ((x : ℕ) → x < numbers → r x ≡ q x) → Sources v q → Sources v r
sources_ext e s =
    record {
      are = λ y l c. s.are y l (sym (e y l) ∙ c);
      old_flow = λ x y lx ly m f u c. s.old_flow x y lx ly m (sym (e y ly) ∙ f) u c;
      old_object = λ x y lx ly m f o. s.old_object x y lx ly m (sym (e y ly) ∙ f) o;
    }

-- ---- a round of sets

-- what is newly marked by a round
abbrev newly : Memory → ℕ → Bool
newly v x = marked (round v) x && not (marked v x)

round_new : (v : Memory) (ws : List ℕ) (left src : Set) → Sized v → Table v ws → Sources v (has src) → left ≡ set_of (λ x. unmarked v x) → round_set v.words ws left src ≡ set_of (newly v)
unfolding round_set by_flow by_driver
round_new v ws left src h t s e = set_ext _ _ (λ x l. ap₂ (λ (a b : Bool). a || b) (flow x l) (driver x l) ∙ round_is v ws (has src) h t s x l)
  where
    flow : (x : ℕ) → x < numbers → by_flow row_size v.words ws (has left) (has src) x ≡ by_flow row_size v.words ws (unmarked v) (has src) x
    flow x l = ap (λ (b : Bool). joined row_size v.words (has src) x && b) (in_set _ e x l)

    driver : (x : ℕ) → x < numbers → by_driver row_size v.words ws (has left) (has src) x ≡ by_driver row_size v.words ws (unmarked v) (has src) x
    driver x l = ap₂ (λ (a b : Bool). a && b) (joined_ext row_size ws _ _ x (λ y k. ap (λ (b : Bool). (has src y || b) && cell row_size ws numbers y) (flow y k))) (in_set _ e x l)

-- ---- the loop

-- of things in use, unmarked and then marked or not
shed : (i a b : Bool) → (a ≡ true → b ≡ true) → ((i && not a) && not (b && not a)) ≡ (i && not b)
shed i true b h = rw (h refl, and-false i)
shed i false true h = rw (and-false (i && true), and-false i)
shed i false false h = and-true (i && true)

gained : (i a b : Bool) → ((i && not a) && not (i && not b)) ≡ ((i && not a) && b)
gained true a true = refl
gained true a false = refl
gained false a b = refl

rest_after : (k : ℕ) (m : Memory) → marks_some m ≡ false → after_rounds k m ≡ m
unfolding after_rounds
rest_after zero m e = refl
rest_after (suc k) m e = rw e

-- after k rounds that marked something: what is left unmarked, and the sources of the next round
pub record Spreading (m : Memory) (k : ℕ) (left src : Set) : Type 0 where
  pub now : Memory
  pub more : MoreMarks m now
  pub counted : rounds numbers m ≡ k + rounds (numbers - k) now
  pub after : after_rounds numbers m ≡ after_rounds (numbers - k) now
  -- so no count of rounds exceeds the last number
  pub few : k + count_b numbers (unmarked now) ≤ last
  pub left_is : left ≡ set_of (λ x. unmarked now x)
  pub sources : Sources now (has src)

pub unmarked_set : (m : Memory) {used src left : Set} → used ≡ set_of (in_use m) → src ≡ set_of (marked m) → left ≡ set_of (λ x. has used x && not (has src x)) → left ≡ set_of (λ x. unmarked m x)
unmarked_set m a b e = e ∙ set_ext _ _ (λ x l. ap₂ (λ (p q : Bool). p && not q) (in_set _ a x l) (in_set _ b x l))

-- one that is marked is not left to be marked
some_marked : (m : Memory) {src : Set} → src ≡ set_of (marked m) → any_b numbers (has src) ≡ true → count_b numbers (unmarked m) < numbers
some_marked m {src} e some = omega (arith, count_more numbers (unmarked m) (λ x. true) (λ x l p. refl) (not_so _ all), count_le numbers (λ x. true))
  where
    all : all_b numbers (λ x. true ⇒ unmarked m x) ≡ true → ⊥
    all p =
        let a = any_at numbers _ some in
        let u = simp and-eq-true_iff at (all_at numbers _ p a.0 a.1) in
        true≢false (sym a.2 ∙ in_set _ e a.0 a.1 ∙ not-true _ u.1)

pub spreading_first : (m : Memory) {src left : Set} → src ≡ set_of (marked m) → any_b numbers (has src) ≡ true → left ≡ set_of (λ x. unmarked m x) → Spreading m 0 left src
spreading_first m e some f =
    record {
      now = m;
      more = more_none m;
      counted = sym (zero-add _);
      after = refl;
      few = omega (arith, some_marked m e some);
      left_is = f;
      sources = sources_ext (in_set _ e) (first_sources m);
    }

-- a turn
module _ (m : Memory) (h : Sized m) (ws : List ℕ) (t : Table m ws) {k : ℕ} {left src new : Set} (s : Spreading m k left src) (r : new ≡ round_set m.words ws left src) where
  sized : Sized s.now
  sized = sized_more s.more h

  new_is : new ≡ set_of (newly s.now)
  new_is =
      r ∙ ap (λ (w : List ℕ). round_set w ws left src) (sym s.more.words_kept)
      ∙ round_new s.now ws left src sized (table_more s.more t) s.sources s.left_is

  some_is : marks_some s.now ≡ any_b numbers (has new)
  unfolding marks_some
  some_is = any_ext numbers _ _ (λ x l. sym (in_set _ new_is x l))

  module _ (some : any_b numbers (has new) ≡ true) where
    marks : marks_some s.now ≡ true
    marks = some_is ∙ some

    pub spreading_below : k < last
    spreading_below = omega (arith, s.few, round_fewer s.now sized marks)

    pub spreading_next : {left' : Set} → left' ≡ set_of (λ x. has left x && not (has new x)) → Spreading m (k + 1) left' new
    unfolding rounds after_rounds
    spreading_next e =
        let v = s.now in
        let j : numbers - k ≡ suc (numbers - (k + 1)) = omega (arith, spreading_below) in
        let c : rounds (numbers - k) v ≡ 1 + rounds (numbers - (k + 1)) (round v) = rw j (rw marks) in
        record {
          now = round v;
          more = more_then s.more (more_round v);
          counted = omega (arith, s.counted, c);
          after = s.after ∙ rw j (rw marks);
          few = omega (arith, s.few, round_fewer v sized marks);
          left_is = e
              ∙ set_ext _ _ (λ x b. ap₂ (λ (p q : Bool). p && not q) (in_set _ s.left_is x b) (in_set _ new_is x b)
              ∙ shed (in_use v x) (marked v x) (marked (round v) x) (kept_marked (more_round v) x) ∙ ap (λ (i : Bool). i && not (marked (round v) x)) (sym (kept_in_use (more_round v) x)));
          sources = next_sources v sized (has new) (in_set _ new_is);
        }

  pub spreading_end : any_b numbers (has new) ≡ false → {before : Set} → before ≡ set_of (λ x. unmarked m x)
      → {all : Set} → all ≡ set_of (λ x. has before x && not (has left x)) → record { marked = all; rounds = k } ≡ spread_sets m
  unfolding spread_sets
  spreading_end none e {all} f =
      let v = s.now in
      let z : marks_some v ≡ false = some_is ∙ none in
      let c : k ≡ rounds numbers m = omega (arith, s.counted, rest_rounds (numbers - k) v z) in
      let a : v ≡ after_rounds numbers m = sym (s.after ∙ rest_after (numbers - k) v z) in
      let l : all ≡ set_of (λ x. unmarked m x && marked (after_rounds numbers m) x) =
      f ∙ set_ext _ _ (λ x b. ap₂ (λ (p q : Bool). p && not q) (in_set _ e x b) (in_set _ s.left_is x b)
      ∙ ap (λ (i : Bool). unmarked m x && not (i && not (marked v x))) (kept_in_use s.more x)
      ∙ gained (in_use m x) (marked m x) (marked v x) ∙ ap (λ (w : Memory). unmarked m x && marked w x) a) in
      λ i. record { marked = l i; rounds = c i }

-- ---- the memory that the rounds leave

round_marks : (n : Memory) → Sized n → Marks n (λ x. reached n x || driven (by_flows n) x) (round n)
unfolding round
round_marks n h = marks_then (marks_where (reached n) n h) (marks_where _ _ (where_length (reached n) n ∙ h))

after_marks : (k : ℕ) (m : Memory) → Sized m → Marks m (marked (after_rounds k m)) (after_rounds k m)
after_marks k m h =
    after_keeps (λ n. Marks m (marked n) n)
    (λ n g. let z = sized_more g.more h in
    marks_ext (marks_then g (round_marks n z)) (λ x l d. sym (or_assoc (marked n x) (reached n x) _) ∙ sym (marked_round n z x l)))
    k m (marks_ext (marks_none m) (λ x l d. sym d))

-- what is newly marked is in use
after_used : (m : Memory) → Sized m → (x : ℕ) → x < numbers → marked m x ≡ false → marked (after_rounds numbers m) x ≡ true → in_use m x ≡ true
unfolding spread
after_used m h x l d e =
    ⊎_elim (λ c. absurd (true≢false (sym c ∙ d))) (λ c. c)
    (spread_only (λ x. (marked m x ≡ true) ⊎ (in_use m x ≡ true)) m
    (record { by_flow_law = λ x y q k u f. inr u; by_driver_law = λ x y q k o f. inr (object_used m y o) }) h (λ y k q. inl q) x l e)

pub spread_is : (m : Memory) → Sized m → {done : Spread} {n : Memory} → done ≡ spread_sets m → n ≡ mark_where (has done.marked) m
    → record { verdict = 0; rounds = done.rounds; memory = n } ≡ spread m
unfolding spread spread_sets
spread_is m h {done} {n} e f =
    let r = ap (λ (d : Spread). d.rounds) e in
    let a = f ∙ marks_same h (marks_where _ m h) (after_marks numbers m h) (λ x l d. in_set _ (ap (λ (d : Spread). d.marked) e) x l ∙ same x l d) in
    λ i. record { verdict = 0; rounds = r i; memory = a i }
  where
    same : (x : ℕ) → x < numbers → marked m x ≡ false → (unmarked m x && marked (after_rounds numbers m) x) ≡ marked (after_rounds numbers m) x
    same x l d = go (marked (after_rounds numbers m) x) (after_used m h x l d)
      where
        go : (b : Bool) → (b ≡ true → in_use m x ≡ true) → (unmarked m x && b) ≡ b
        go true u = rw (u refl, d)
        go false u = and-false (unmarked m x)

-- ---- where there is no round

-- nothing goes from a marked thing to another
still : (m : Memory) → Sized m → Closed m (λ x. marked m x ≡ true) → marks_some m ≡ false
unfolding marks_some
still m h c =
    not_so _
    (λ p. let s = any_at numbers _ p in
    let t = simp and-eq-true_iff at s.2 in
    true≢false (sym (round_only _ m m c (more_none m) h (λ x l e. e) s.0 s.1 t.0) ∙ not-true _ t.1))

-- nothing is marked
pub spread_none : (m : Memory) → Sized m → {src : Set} → src ≡ set_of (marked m) → any_b numbers (has src) ≡ false → record { verdict = 0; rounds = 0; memory = m } ≡ spread m
unfolding spread
spread_none m h e f =
    let s = still m h (record { by_flow_law = λ x y q l u f. absurd (none x q); by_driver_law = λ x y q l o d. absurd (none x q) }) in
    let r = sym (rest_rounds numbers m s) in
    let a = sym (rest_after numbers m s) in
    λ i. record { verdict = 0; rounds = r i; memory = a i }
  where
    none : (x : ℕ) → marked m x ≡ true → ⊥
    none x p = true≢false (sym p ∙ empty_at _ e f x (marked_below m x h p))

-- all in use are marked
pub sets_none : (m : Memory) → Sized m → {left : Set} → left ≡ set_of (λ x. unmarked m x) → any_b numbers (has left) ≡ false → record { marked = left; rounds = 0 } ≡ spread_sets m
unfolding spread_sets
sets_none m h e f =
    let s = still m h (record { by_flow_law = λ x y q l u f. all y l u; by_driver_law = λ x y q l o d. all y l (object_used m y o) }) in
    let r = sym (rest_rounds numbers m s) in
    let a = e ∙ set_ext _ (λ x. unmarked m x && marked (after_rounds numbers m) x) (λ x l. rw (empty_at _ e f x l)) in
    λ i. record { marked = a i; rounds = r i }
  where
    all : (x : ℕ) → x < numbers → in_use m x ≡ true → marked m x ≡ true
    all x l u = ⊎_elim (λ p. p) (λ p. absurd (true≢false (sym (and_i u (ap not p)) ∙ empty_at _ e f x l))) (either (marked m x))
