-- A round by sets: only the sources of the last round feed something new.
-- Assumes nothing.
use Rattle.std.specs.Prelude.{◌≡◌, refl, Bool, false, not, ◌&&◌, ◌||◌, List, ℕ, ◌<◌}
use Rattle.std.proofs.Common.{sym, ap, ◌∙◌, true≢false, eqb-true, eq-eqb}
use Rattle.std.proofs.Math.Logic.{⊎_elim}
use Rattle.std.proofs.Math.Bool.{true, and-eq-true_iff}
use Rattle.std.proofs.lemmas.Bool.{not-true}
use Rattle.bits.specs.All.{any_b}
use Rattle.bits.specs.AllLaws.{either, both_ways, and_i, and_l, and-true, and-false, or_cases, or_l, or_r, any_i, any_at}
use Rattle.rows.specs.Size.{row_size, numbers}
use Rattle.rows.specs.Rows.{cell}
use Rattle.sets.specs.Sets.{joined}
use Rattle.model.specs.State.{Memory, in_use, object, driver_of, marked, has_flow}
use Rattle.model.specs.Effects.{object_of}
use Rattle.model.specs.Spread.{reached, driven, round}
use Rattle.model.proofs.StateLaws.{marked_below, object_used}
use Rattle.model.proofs.MarkLaws.{MoreMarks, kept_in_use, kept_object, kept_driver, kept_flow, kept_marked, where_more, where_length}
use Rattle.model.proofs.SpreadLaws.{Sized, by_flows, more_round, marked_flows, marked_round, unmarked}
use Rattle.marking.specs.Rounds.{Table, by_flow, by_driver}
use Rattle.marking.specs.MarksLaws.{kept_object_of}

-- whatever the other marked things feed or drive is marked
pub record Sources (v : Memory) (q : ℕ → Bool) : Type 0 where
  pub are : (y : ℕ) → y < numbers → q y ≡ true → marked v y ≡ true
  pub old_flow : (x y : ℕ) → x < numbers → y < numbers → marked v y ≡ true → q y ≡ false → in_use v x ≡ true → has_flow v y x ≡ true → marked v x ≡ true
  pub old_object : (x y : ℕ) → x < numbers → y < numbers → marked v y ≡ true → q y ≡ false → object_of v y x ≡ true → marked v x ≡ true

-- ---- what a round marks

module _ (v : Memory) (ws : List ℕ) (q : ℕ → Bool) where
  abbrev flowed : ℕ → Bool
  flowed x = by_flow row_size v.words ws (unmarked v) q x

  abbrev owned : ℕ → Bool
  owned x = by_driver row_size v.words ws (unmarked v) q x

  module _ (h : Sized v) (t : Table v ws) (s : Sources v q) where
    flow_is : (x : ℕ) → x < numbers → flowed x ≡ reached v x
    unfolding by_flow joined reached has_flow
    flow_is x l = both_ways _ _ there back
      where
        there : (any_b numbers (λ y. q y && cell row_size v.words y x) && unmarked v x) ≡ true → reached v x ≡ true
        there e =
            let p = simp and-eq-true_iff at e in
            let a = any_at numbers _ p.0 in
            let b = simp and-eq-true_iff at a.2 in
            and_i (and_i p.1.1 p.1.0) (any_i numbers _ a.0 a.1 (and_i (s.are a.0 a.1 b.0) b.1))

        back : reached v x ≡ true → (any_b numbers (λ y. q y && cell row_size v.words y x) && unmarked v x) ≡ true
        back e =
            let p = simp and-eq-true_iff at e in
            let a = any_at numbers _ p.1 in
            let b = simp and-eq-true_iff at a.2 in
            ⊎_elim
            (λ d. and_i (any_i numbers _ a.0 a.1 (and_i d b.1)) (and_i p.0.1 p.0.0))
            (λ d. absurd (true≢false (sym (s.old_flow x a.0 l a.1 b.0 d p.0.1 b.1) ∙ not-true _ p.0.0)))
            (either (q a.0))

    driver_is : (x : ℕ) → x < numbers → marked v x ≡ false → owned x ≡ driven (by_flows v) x
    unfolding by_driver joined driven object_of
    driver_is x l n = both_ways _ _ there back
      where
        g : MoreMarks v (by_flows v)
        g = where_more (reached v) v

        there : (any_b numbers (λ y. ((q y || flowed y) && cell row_size ws numbers y) && cell row_size ws y x) && unmarked v x) ≡ true → driven (by_flows v) x ≡ true
        there e =
            let p = simp and-eq-true_iff at e in
            let a = any_at numbers _ p.0 in
            let b = simp and-eq-true_iff at a.2 in
            let o = simp and-eq-true_iff at (sym (t.owns a.0 x a.1 l n) ∙ b.1) in
            and_i (kept_object g x ∙ o.0)
            (ap (marked (by_flows v)) (kept_driver g x ∙ eqb-true _ _ o.1) ∙ marked_flows v h a.0 a.1
            ∙ ⊎_elim (λ c. or_l _ _ (s.are a.0 a.1 c)) (λ c. or_r (marked v a.0) _ (sym (flow_is a.0 a.1) ∙ c)) (or_cases (q a.0) (flowed a.0) b.0.0))

        back : driven (by_flows v) x ≡ true → (any_b numbers (λ y. ((q y || flowed y) && cell row_size ws numbers y) && cell row_size ws y x) && unmarked v x) ≡ true
        back e =
            let p = simp and-eq-true_iff at e in
            let d = driver_of v x in
            let o : object v x ≡ true = sym (kept_object g x) ∙ p.0 in
            let m : marked (by_flows v) d ≡ true = ap (marked (by_flows v)) (sym (kept_driver g x)) ∙ p.1 in
            let k = marked_below (by_flows v) d (where_length (reached v) v ∙ h) m in
            let own : object_of v d x ≡ true = and_i o (eq-eqb d d refl) in
            let old : q d ≡ false → marked v d ≡ true → ⊥ = λ f c. true≢false (sym (s.old_object x d l k c f own) ∙ n) in
            let feeds : (q d || flowed d) ≡ true = ⊎_elim
            (λ c. ⊎_elim (λ f. or_l _ _ f) (λ f. absurd (old f c)) (either (q d))) (λ c. or_r (q d) _ (flow_is d k ∙ c)) (or_cases (marked v d) (reached v d) (sym (marked_flows v h d k) ∙ m)) in
            and_i (any_i numbers _ d k (and_i (and_i feeds (t.drives d x k l n own)) (t.owns d x k l n ∙ own))) (and_i (object_used v x o) (ap not n))

    new_is : (x : ℕ) → x < numbers → marked v x ≡ false → (flowed x || owned x) ≡ (marked (round v) x && not (marked v x))
    new_is x l n = rw (flow_is x l, driver_is x l n, marked_round v h x l, n) (sym (and-true _))

    -- just what is newly marked
    pub round_is : (x : ℕ) → x < numbers → (flowed x || owned x) ≡ (marked (round v) x && not (marked v x))
    unfolding by_flow by_driver
    round_is x l = ⊎_elim (λ (e : marked v x ≡ true). simp (e, and-false)) (λ n. new_is x l n) (either (marked v x))

-- ---- the newly marked are the sources of the next round

pub first_sources : (m : Memory) → Sources m (marked m)
first_sources m =
    record {
      are = λ y l e. e;
      old_flow = λ x y lx ly e f u c. absurd (true≢false (sym e ∙ f));
      old_object = λ x y lx ly e f o. absurd (true≢false (sym e ∙ f));
    }

pub next_sources : (v : Memory) → Sized v → (q : ℕ → Bool) → ((x : ℕ) → x < numbers → q x ≡ (marked (round v) x && not (marked v x))) → Sources (round v) q
unfolding reached driven object_of
next_sources v h q e =
    record {
      are = λ y l c. and_l (marked (round v) y) _ (sym (e y l) ∙ c);
      old_flow = λ x y lx ly m f u c.
          fed x lx (λ n. or_l _ _ (or_r (marked v x) _ (and_i (and_i (ap not n) (sym (kept_in_use g x) ∙ u)) (any_i numbers _ y ly (and_i (was y ly m f) (sym (kept_flow g y x) ∙ c))))));
      old_object = λ x y lx ly m f c.
          let o = simp and-eq-true_iff at (sym (kept_object_of g y x) ∙ c) in
          fed x lx (λ n. or_r (marked v x || reached v x) _ (and_i (kept_object b x ∙ o.0) (ap (marked (by_flows v)) (kept_driver b x ∙ eqb-true _ _ o.1) ∙ kept_marked b y (was y ly m f))));
    }
  where
    g : MoreMarks v (round v)
    g = more_round v

    b : MoreMarks v (by_flows v)
    b = where_more (reached v) v

    was : (y : ℕ) → y < numbers → marked (round v) y ≡ true → q y ≡ false → marked v y ≡ true
    was y l m f = ⊎_elim (λ c. c) (λ n. absurd (true≢false (sym (e y l ∙ and_i m (ap not n)) ∙ f))) (either (marked v y))

    fed : (x : ℕ) → x < numbers → (marked v x ≡ false → (marked v x || reached v x || driven (by_flows v) x) ≡ true) → marked (round v) x ≡ true
    fed x l f = ⊎_elim (λ c. kept_marked g x c) (λ n. marked_round v h x l ∙ f n) (either (marked v x))
