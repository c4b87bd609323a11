-- What the sets and the pass over the rows make of the memory.
-- Assumes nothing.
use Rattle.std.specs.Prelude.{◌≡◌, Bool, true, false, cond, ◌&&◌, ◌||◌, ℕ, ◌+◌, ◌≤◌, ◌<◌, eqb}
use Rattle.std.proofs.Math.Path.{sym, ap, ap₂}
use Rattle.std.proofs.Common.{◌∙◌, le_refl, arith}
use Rattle.std.proofs.Math.Bool.{not}
use mathlib.Core.List.{List}
use Rattle.std.proofs.lemmas.Bool.{not-true}
use Rattle.bits.specs.All.{any_b}
use Rattle.bits.specs.AllLaws.{and-false, any_ext}
use Rattle.rows.specs.Size.{row_size, numbers, WordsLent}
use Rattle.rows.specs.Rows.{cell, join_row, bridged}
use Rattle.rows.proofs.RowLaws.{join_ext, bridged_more, bridged_later, bridged_none}
use Rattle.records.specs.Records.{field}
use Rattle.sets.specs.declared.Set.{Set}
use Rattle.sets.specs.Sets.{has, set_of}
use Rattle.sets.specs.SetLaws.{in_set, set_ext, empty_at}
use Rattle.model.specs.State.{Memory, in_use, object, marked, has_flow}
use Rattle.model.specs.Effects.{object_of, feeder, fed_by, bridge, with_words, effect}
use Rattle.model.specs.Events.{feeds_unmarked}

module _ (m : Memory) (x : ℕ) where
  -- ---- what x feeds, as a set

  -- an empty row feeds nothing
  pub fed_none : {row : Set} → row ≡ set_of (λ y. cell row_size m.words x y) → not (any_b numbers (has row)) ≡ true → row ≡ set_of (fed_by m x)
  unfolding fed_by has_flow
  fed_none is none = is ∙ set_ext _ (fed_by m x) (λ y l. rw (empty_at _ is (not-true _ none) y l) (sym (and-false (in_use m y && not (eqb y x)))))

  pub fed_is : {used others row fed : Set} → used ≡ set_of (λ y. not (eqb (field m.bytes y 0) 0)) → others ≡ set_of (λ y. has used y && not (eqb y x))
      → row ≡ set_of (λ y. cell row_size m.words x y) → fed ≡ set_of (λ y. has others y && has row y) → fed ≡ set_of (fed_by m x)
  unfolding fed_by in_use has_flow
  fed_is u o r f =
      f ∙ set_ext _ _ (λ y l. ap₂ (λ (a b : Bool). a && b) (in_set _ o y l ∙ ap (λ (b : Bool). b && not (eqb y x)) (in_set _ u y l)) (in_set _ r y l))

  pub feeds_is : {marks fed rest : Set} → marks ≡ set_of (λ y. not (eqb (field m.bytes y 5) 0)) → fed ≡ set_of (fed_by m x)
      → rest ≡ set_of (λ y. has fed y && not (has marks y)) → marked m x ≡ true → any_b numbers (has rest) ≡ feeds_unmarked m x
  unfolding feeds_unmarked marked
  feeds_is k f r t =
      rw t (any_ext numbers _ _ (λ y l. in_set _ r y l ∙ ap₂ (λ (a b : Bool). a && not b) (in_set _ f y l) (in_set _ k y l)))

  -- ---- the pass over the rows

  -- the words after the rows below p
  abbrev pub passed : ℕ → List ℕ
  passed p = bridged row_size p (feeder m x) (fed_by m x) m.words

  pub all_passed : {v : List ℕ} → v ≡ passed numbers → with_words m v ≡ effect (bridge x) m
  unfolding effect
  all_passed e = ap (with_words m) e

  -- where nothing is fed it changes nothing
  pub none_fed : {fed : Set} → fed ≡ set_of (fed_by m x) → not (any_b numbers (has fed)) ≡ true → m ≡ effect (bridge x) m
  unfolding effect
  none_fed is none = ap (with_words m) (sym (bridged_none row_size numbers (feeder m x) (fed_by m x) m.words (empty_at _ is (not-true _ none))))

  -- row p is asked as it was
  module _ (lent : WordsLent m.words) (small : x < numbers) {p : ℕ} (l : p ≤ numbers) {v : List ℕ} (is : v ≡ passed p) {asked : Bool} (a : asked ≡ feeder (with_words m v) x p) where
    as_it_was : feeder m x p ≡ asked
    unfolding feeder in_use has_flow object_of object
    as_it_was =
        sym (a ∙ ap (λ (b : Bool). in_use m p && not (eqb p x) && (b || object_of m p x))
        (ap (λ (u : List ℕ). cell row_size u p x) is ∙ bridged_later row_size p (feeder m x) (fed_by m x) m.words p x (le_refl p) (omega arith) small))

    one_more_law : cond asked (join_row row_size p (λ y. fed_by m x y && not (eqb y p)) v) v ≡ passed (p + 1)
    one_more_law = rw as_it_was at (bridged_more row_size p (feeder m x) (fed_by m x) m.words v is)

    -- it is a feeder's, and joined; or it is no feeder's
    pub feeder_joined : {fed s : Set} {u : List ℕ} → fed ≡ set_of (fed_by m x) → s ≡ set_of (λ y. has fed y && not (eqb y p)) → u ≡ join_row row_size p (has s) v
        → asked ≡ true → u ≡ passed (p + 1)
    feeder_joined f b j t =
        j ∙ join_ext row_size p _ (λ y. fed_by m x y && not (eqb y p)) v (λ y k. in_set _ b y k ∙ ap (λ (b : Bool). b && not (eqb y p)) (in_set _ f y k))
        ∙ (rw t at one_more_law)

    pub other_passed : asked ≡ false → v ≡ passed (p + 1)
    other_passed t = rw t at one_more_law
