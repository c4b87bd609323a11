-- Laws of the numbers that follow a piece.
-- Assumes nothing.
use Rattle.std.specs.Prelude.{◌≡◌, refl, Bool, true, false, cond, ◌&&◌, Option, Some, None, List, [], ◌∷◌, ◌++◌, ℕ, zero, suc, ◌+◌, ◌-◌, ◌<◌, leb, ltb, eqb, length, take, drop, set, replicate}
use Rattle.std.proofs.Common.{sym, ap, ◌∙◌, inl, inr, zero-add, arith, length-append, ltb-true, lt-ltb, eq-eqb, ne_eqb}
use Rattle.std.proofs.Math.Nat.{add-zero, sub-zero, suc-sub-suc}
use Rattle.std.proofs.Math.Decide.{dec_lt}
use Rattle.std.proofs.Math.Dec.{leb-zero, leb-suc-suc, leb-suc-zero}
use Rattle.std.proofs.lemmas.List.{set_at}
use Rattle.std.proofs.Math.Seq.{append_snoc}
use Rattle.std.proofs.lemmas.Option.{same_Some, none-some}
use Rattle.bits.specs.AllLaws.{either, and-false}
use Rattle.script.specs.Script.{is_number, value, all_numbers, values}
use Rattle.script.specs.Pieces.{first, afterwards, number_of, ending_at, number_after, numbers_from, no_values}
use Rattle.script.specs.PiecesLaws.{cond_both, piece_at, after_at, after_end}
use Rattle.script.specs.declared.pieces.Found.{Found}

-- ---- one number

-- a number v follows a piece that ends at `at`, and ends at e itself
pub record Next (l : List ℕ) (at v e : ℕ) : Type 0 where
  pub piece : List ℕ
  pub follows : afterwards (drop at l) ≡ piece ∷ afterwards (drop e l)
  pub number : is_number piece ≡ true
  pub is : value piece ≡ v
  pub later : at < e

-- no piece follows, or one that is no number
pub data Missed : List (List ℕ) → Type 0 where
  none : Missed []
  other : {p : List ℕ} {ps : List (List ℕ)} → is_number p ≡ false → Missed (p ∷ ps)

-- the piece from at + 1 to end was read as r
pub number_after_law : (l : List ℕ) (at end : ℕ) (r : Option ℕ) → at < length l → end ≡ at + 1 + length (first (drop (at + 1) l)) → r ≡ number_of (take (end - (at + 1)) (drop (at + 1) l)) → number_after l at ≡ ending_at r end
unfolding number_after
number_after_law l at end r h e f = rw (lt-ltb _ _ h, f, piece_at l (at + 1) end e, e)

pub next_number : (l : List ℕ) (at v e : ℕ) → number_after l at ≡ Some (record { value = v; end = e }) → Next l at v e
unfolding number_after number_of ending_at
next_number l at v e h = go (ltb at (length l)) (is_number p) refl refl h
  where
    p : List ℕ
    p = first (drop (at + 1) l)

    go : (t u : Bool) → ltb at (length l) ≡ t → is_number p ≡ u → cond t (ending_at (cond u (Some (value p)) None) (at + 1 + length p)) None ≡ Some (record { value = v; end = e }) → Next l at v e
    go true true a b q =
        let found = same_Some _ _ q in
        let is : value p ≡ v = ap (λ (f : Found). f.value) found in
        let ends : at + 1 + length p ≡ e = ap (λ (f : Found). f.end) found in
        record {
          piece = p;
          follows = rw (← ends) (after_at l at (ltb-true _ _ a));
          number = b;
          is = is;
          later = omega arith;
        }
    go true false a b q = absurd (none-some _ q)
    go false u a b q = absurd (none-some _ q)

pub no_next : (l : List ℕ) (at : ℕ) → number_after l at ≡ None → at < length l → is_number (first (drop (at + 1) l)) ≡ false
unfolding number_after number_of ending_at
no_next l at h a = go (is_number p) (rw (lt-ltb _ _ a) at h)
  where
    p : List ℕ
    p = first (drop (at + 1) l)

    go : (u : Bool) → ending_at (cond u (Some (value p)) None) (at + 1 + length p) ≡ None → u ≡ false
    go true q = absurd (none-some _ (sym q))
    go false q = refl

pub missed : (l : List ℕ) (at : ℕ) → number_after l at ≡ None → Missed (afterwards (drop at l))
missed l at h =
    elim (dec_lt at (length l)) [
      | yes a ↦ rw (after_at l at a) (other (no_next l at h a))
      | no a ↦ rw (after_end l at (omega arith)) none
    ]

-- ---- all numbers

pub numbers_more : (vs : List ℕ) (n : ℕ) (p : List ℕ) (ps : List (List ℕ)) → (n ≡ 16 → ⊥) → is_number p ≡ true → numbers_from vs n (p ∷ ps) ≡ numbers_from (set vs n (value p)) (n + 1) ps
unfolding numbers_from
numbers_more vs n p ps h e = rw (ne_eqb _ _ h, e)

pub numbers_full : (vs : List ℕ) (n : ℕ) (p : List ℕ) (ps : List (List ℕ)) → n ≡ 16 → numbers_from vs n (p ∷ ps) ≡ None
unfolding numbers_from
numbers_full vs n p ps h = rw (eq-eqb _ _ h)

pub numbers_stop : (vs : List ℕ) (n : ℕ) (p : List ℕ) (ps : List (List ℕ)) → is_number p ≡ false → numbers_from vs n (p ∷ ps) ≡ None
unfolding numbers_from
numbers_stop vs n p ps e = rw e (cond_both (eqb n 16) None)

-- n numbers stand in the list, and there is room for k more
pub numbers_from_law : (ps : List (List ℕ)) (vs : List ℕ) (n k : ℕ) → length vs ≡ n → n + k ≡ 16
    → numbers_from (vs ++ replicate k 0) n ps ≡ cond (all_numbers ps && leb (length ps) k) (Some (record { values = vs ++ (values ps ++ replicate (k - length ps) 0); count = n + length ps })) None
unfolding all_numbers values
numbers_from_law [] vs n k e f = unfold numbers_from in simp (leb-zero, add-zero, sub-zero)
numbers_from_law (p ∷ ps) vs n zero e f = numbers_full (vs ++ []) n p ps (omega arith) ∙ simp (leb-suc-zero, and-false)
numbers_from_law (p ∷ ps) vs n (suc k) e f =
    let one : length (vs ++ (value p ∷ [])) ≡ n + 1 = simp (length-append, e) in
    let more = simp (append_snoc vs (value p)) at (numbers_from_law ps (vs ++ (value p ∷ [])) (n + 1) k one (omega arith)) in
    let g : n + suc (length ps) ≡ n + 1 + length ps = omega arith in
    elim (either (is_number p)) [
      | inl t ↦ numbers_more (vs ++ replicate (suc k) 0) n p ps (omega arith) t ∙ rw (set_at vs 0 (replicate k 0) (value p) n e, t, leb-suc-suc, suc-sub-suc, g) more
      | inr t ↦ rw t (numbers_stop (vs ++ replicate (suc k) 0) n p ps t)
    ]

pub numbers_are : (ps : List (List ℕ)) → numbers_from no_values 0 ps ≡ cond (all_numbers ps && leb (length ps) 16) (Some (record { values = values ps ++ replicate (16 - length ps) 0; count = length ps })) None
numbers_are ps = rw zero-add at (numbers_from_law ps [] 0 16 refl refl)
