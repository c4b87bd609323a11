-- What rounds of the spread keep, what they mark and that they come to rest.
-- Assumes nothing.
use Rattle.std.specs.Prelude.{◌≡◌, refl, ◌⊎◌, Bool, true, false, not, ◌&&◌, ◌||◌, ℕ, zero, suc, ◌≤◌, ◌<◌, length}
use Rattle.std.proofs.Common.{sym, ◌∙◌, inl, inr, ⊎_elim, true≢false, zero-le, arith}
use Rattle.std.proofs.Math.Path.{ap}
use Rattle.std.proofs.Math.Bool.{and-eq-true_iff}
use Rattle.std.proofs.lemmas.Bool.{not-true}
use Rattle.bits.specs.All.{count_b, ◌⇒◌}
use Rattle.bits.specs.AllLaws.{either, or_cases, or_l, or_r, and_i, any_i, any_at, all_fails, not_so}
use Rattle.bits.specs.LoopLaws.{count_le, count_more}
use Rattle.rows.specs.Size.{Size, numbers_of}
use Rattle.records.specs.Records.{lent_bytes}
use Rattle.model.specs.State.{MemoryOf, in_use, object, driver_of, marked, has_flow}
use Rattle.model.proofs.StateLaws.{object_used, marked_below}
use Rattle.model.specs.Effects.{mark_where}
use Rattle.model.specs.Spread.{reached, driven, round, marks_some, rounds, after_rounds, spread}
use Rattle.model.proofs.MarkLaws.{MoreMarks, kept_marked, kept_in_use, kept_object, kept_driver, kept_flow, more_then, more_none, where_more, where_length, marked_where}

pub more_round : {size : Size} (m : MemoryOf size) → MoreMarks m (round m)
unfolding round
more_round m = more_then (where_more (reached m) m) (where_more _ _)

-- ---- sizes

abbrev pub Sized : {size : Size} → MemoryOf size → Type 0
Sized {size} m = length m.bytes ≡ lent_bytes size

pub sized_more : {size : Size} {m n : MemoryOf size} → MoreMarks m n → Sized m → Sized n
sized_more g h = g.length_kept ∙ h

-- ---- what a round marks

-- within a round, when the flows are done
abbrev pub by_flows : {size : Size} → MemoryOf size → MemoryOf size
by_flows m = mark_where (reached m) m

module _ {size : Size} (m : MemoryOf size) (h : Sized m) (x : ℕ) (l : x < numbers_of size) where
  pub marked_flows : marked (by_flows m) x ≡ (marked m x || reached m x)
  marked_flows = marked_where (reached m) m x l h

  pub marked_round : marked (round m) x ≡ (marked m x || reached m x || driven (by_flows m) x)
  unfolding round
  marked_round = marked_where (driven (by_flows m)) (by_flows m) x l (where_length (reached m) m ∙ h) ∙ ap (λ (b : Bool). b || driven (by_flows m) x) marked_flows

-- Q goes along flows to things in use, and from drivers to their objects
pub record Closed {size : Size} (m : MemoryOf size) (Q : ℕ → Type 0) : Type 0 where
  pub by_flow_law : (x y : ℕ) → Q x → y < numbers_of size → in_use m y ≡ true → has_flow m x y ≡ true → Q y
  pub by_driver_law : (x y : ℕ) → Q x → y < numbers_of size → object m y ≡ true → driver_of m y ≡ x → Q y

-- whatever is marked is in Q
abbrev pub MarksIn : {size : Size} → (ℕ → Type 0) → MemoryOf size → Type 0
MarksIn {size} Q n = (x : ℕ) → x < numbers_of size → marked n x ≡ true → Q x

-- where the marked are in such a Q, a round marks nothing outside it
pub round_only : {size : Size} (Q : ℕ → Type 0) (m n : MemoryOf size) → Closed m Q → MoreMarks m n → Sized n → MarksIn Q n → MarksIn Q (round n)
unfolding reached driven
round_only {size} Q m n c g h q x l e = ⊎_elim (along x l) driver (or_cases _ _ (sym (marked_round n h x l) ∙ e))
  where
    gv : MoreMarks m (by_flows n)
    gv = more_then g (where_more (reached n) n)

    flow : (y : ℕ) → y < numbers_of size → reached n y ≡ true → Q y
    flow y k r =
        let t = simp and-eq-true_iff at r in
        let s = any_at (numbers_of size) _ t.1 in
        let u = simp and-eq-true_iff at s.2 in
        c.by_flow_law s.0 y (q s.0 s.1 u.0) k (sym (kept_in_use g y) ∙ t.0.1) (sym (kept_flow g s.0 y) ∙ u.1)

    along : (y : ℕ) → y < numbers_of size → (marked n y || reached n y) ≡ true → Q y
    along y k r = ⊎_elim (q y k) (flow y k) (or_cases _ _ r)

    driver : driven (by_flows n) x ≡ true → Q x
    driver r =
        let t = simp and-eq-true_iff at r in
        let k = marked_below (by_flows n) _ (where_length (reached n) n ∙ h) t.1 in
        c.by_driver_law _ x (along _ k (sym (marked_flows n h _ k) ∙ t.1)) l (sym (kept_object gv x) ∙ t.0) (sym (kept_driver gv x))

-- at rest, the marked are such a Q
pub rest_closed : {size : Size} (m : MemoryOf size) → Sized m → marks_some m ≡ false → Closed m (λ x. marked m x ≡ true)
unfolding marks_some reached driven
rest_closed {size} m h r =
    record {
      by_flow_law = λ x y e l u f.
          new y l (λ n. or_l _ _ (or_r (marked m y) _ (and_i (and_i (ap not n) u) (any_i (numbers_of size) _ x (marked_below m x h e) (and_i e f)))));
      by_driver_law = λ x y e l o d.
          new y l (λ n. or_r (marked m y || reached m y) _ (and_i (kept_object g y ∙ o) (ap (marked (by_flows m)) (kept_driver g y ∙ d) ∙ kept_marked g x e)));
    }
  where
    g : MoreMarks m (by_flows m)
    g = where_more (reached m) m

    -- what a round would mark is marked
    new : (y : ℕ) → y < numbers_of size → (marked m y ≡ false → (marked m y || reached m y || driven (by_flows m) y) ≡ true) → marked m y ≡ true
    new y l f =
        ⊎_elim (λ e. e) (λ n. absurd (true≢false (sym (any_i (numbers_of size) _ y l (and_i (marked_round m h y l ∙ f n) (ap not n))) ∙ r))) (either (marked m y))

-- ---- rounds

-- what a round keeps, rounds keep
pub after_keeps : {size : Size} (P : MemoryOf size → Type 0) → ((m : MemoryOf size) → P m → P (round m)) → (k : ℕ) (m : MemoryOf size) → P m → P (after_rounds k m)
unfolding after_rounds
after_keeps P h zero m p = p
after_keeps P h (suc k) m p = ⊎_elim (λ e. rw e (after_keeps P h k (round m) (h m p))) (λ e. rw e p) (either (marks_some m))

-- the unmarked things in use
abbrev pub unmarked : {size : Size} → MemoryOf size → ℕ → Bool
unmarked m x = in_use m x && not (marked m x)

-- a round that marks something leaves fewer of them
pub round_fewer : {size : Size} (m : MemoryOf size) → Sized m → marks_some m ≡ true → count_b (numbers_of size) (unmarked (round m)) < count_b (numbers_of size) (unmarked m)
unfolding marks_some
round_fewer {size} m h e =
    count_more (numbers_of size) (unmarked (round m)) (unmarked m) still (all_fails (numbers_of size) _ s.0 s.1 (fails s.0 s.1 t.0 (not-true _ t.1)))
  where
    g : MoreMarks m (round m)
    g = more_round m

    s : (x : ℕ) × (x < numbers_of size) × ((marked (round m) x && not (marked m x)) ≡ true)
    s = any_at (numbers_of size) _ e

    t : (marked (round m) s.0 ≡ true) × (not (marked m s.0) ≡ true)
    t = simp and-eq-true_iff at s.2

    -- only things in use are newly marked
    used : Closed m (λ x. (marked m x ≡ true) ⊎ (in_use m x ≡ true))
    used = record { by_flow_law = λ x y q l u f. inr u; by_driver_law = λ x y q l o d. inr (object_used m y o) }

    fails : (x : ℕ) → x < numbers_of size → marked (round m) x ≡ true → marked m x ≡ false → (unmarked m x ⇒ unmarked (round m) x) ≡ false
    fails x l p n =
        let u : in_use m x ≡ true = ⊎_elim (λ q. absurd (true≢false (sym q ∙ n))) (λ u. u) (round_only _ m m used (more_none m) h (λ y k q. inl q) x l p) in
        simp (u, n, p, kept_in_use g x)

    still : (x : ℕ) → x < numbers_of size → unmarked (round m) x ≡ true → unmarked m x ≡ true
    still x l p =
        let q = simp and-eq-true_iff at p in
        and_i (sym (kept_in_use g x) ∙ q.0) (ap not (not_so (marked m x) (λ n. true≢false (sym (kept_marked g x n) ∙ not-true _ q.1))))

-- as many rounds as there are of them are enough
pub rounds_rest : {size : Size} (k : ℕ) (m : MemoryOf size) → Sized m → count_b (numbers_of size) (unmarked m) ≤ k → marks_some (after_rounds k m) ≡ false
unfolding after_rounds
rounds_rest zero m h l = not_so (marks_some m) (λ e. absurd (omega (arith, round_fewer m h e)))
rounds_rest (suc k) m h l =
    ⊎_elim (λ e. rw e (rounds_rest k (round m) (sized_more (more_round m) h) (omega (arith, round_fewer m h e)))) (λ e. rw e e) (either (marks_some m))

-- and no more than that mark something
pub rounds_few : {size : Size} (k : ℕ) (m : MemoryOf size) → Sized m → rounds k m ≤ count_b (numbers_of size) (unmarked m)
unfolding rounds
rounds_few zero m h = zero-le
rounds_few (suc k) m h =
    ⊎_elim
    (λ e. rw e (omega (arith, rounds_few k (round m) (sized_more (more_round m) h), round_fewer m h e)))
    (λ e. rw e zero-le)
    (either (marks_some m))

-- at rest there is no round
pub rest_rounds : {size : Size} (k : ℕ) (m : MemoryOf size) → marks_some m ≡ false → rounds k m ≡ 0
unfolding rounds
rest_rounds zero m e = refl
rest_rounds (suc k) m e = rw e

-- ---- the spread

pub spread_more : {size : Size} (m : MemoryOf size) → MoreMarks m (spread m).memory
unfolding spread
spread_more m = after_keeps (MoreMarks m) (λ n g. more_then g (more_round n)) _ m (more_none m)

-- where the marked are in a Q so closed, the spread marks nothing outside it
pub spread_only : {size : Size} (Q : ℕ → Type 0) (m : MemoryOf size) → Closed m Q → Sized m → MarksIn Q m → MarksIn Q (spread m).memory
unfolding spread
spread_only Q m c h q =
    (after_keeps (λ n. MoreMarks m n × MarksIn Q n)
    (λ n p. (more_then p.0 (more_round n), round_only Q m n c p.0 (sized_more p.0 h) p.1))
    _ m (more_none m, q)).1

-- one more round marks nothing
pub spread_rests : {size : Size} (m : MemoryOf size) → Sized m → marks_some (spread m).memory ≡ false
unfolding spread
spread_rests m h = rounds_rest _ m h (count_le _ _)
