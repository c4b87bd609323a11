-- What lies inside an object, and row 7 of a move: the claims on every sound memory, proved.
-- Assumes nothing.
use Rattle.std.specs.Prelude.{◌≡◌, refl, Bool, true, false, not, ◌&&◌, ◌||◌, ◌⊎◌, ℕ, eqb}
use Rattle.std.proofs.Common.{sym, ap, ◌∙◌, inl, inr, arith, eqb-true, eq-eqb}
use Rattle.std.proofs.Math.Bool.{and-eq-true_iff}
use Rattle.std.proofs.Math.Logic.{⊎_elim}
use Rattle.std.proofs.lemmas.Bool.{not-false}
use Rattle.bits.specs.AllLaws.{and-false}
use Rattle.rows.specs.Size.{Size}
use Rattle.levels.specs.declared.Order.{Order}
use Rattle.levels.specs.Order.{at_or_below, order_passes}
use Rattle.records.specs.Records.{sound_of}
use Rattle.model.specs.declared.Call.TheVariants.{Move}
use Rattle.model.specs.State.{MemoryOf, lengths_fit, task, object, level_of, driver_of, lies_in, marked, has_write}
use Rattle.model.specs.Inside.{inside}
use Rattle.model.proofs.InsideLaws as inside_laws
use Rattle.model.specs.Events.{OutcomeOf, unless, first_failing, verdict_of, outcome, move}
use Rattle.model.specs.Monitor.{perform}
use Rattle.model.proofs.TableLaws.{fitted_fits}
use Rattle.containment.specs.Claims.{InsideExact, Misplaced, from_itself, to_itself, to_the_same, not_there, to_its_inside, MovePlace}

pub inside_exact : InsideExact
inside_exact size o m ok = inside_laws.inside_exact m o ok

-- ---- row 7

-- of a move's rows from 7 on, only the first gives 7
place_alone : (place held rule levels honest : Bool) → unless place 7 (unless held 8 (unless rule 11 (unless levels 11 (unless honest 1 0)))) ≡ 7 → place ≡ false
unfolding unless
place_alone false h r l n e = refl
place_alone true false r l n e = absurd (omega arith)
place_alone true true false l n e = absurd (omega arith)
place_alone true true true false n e = absurd (omega arith)
place_alone true true true true false e = absurd (omega arith)
place_alone true true true true true e = absurd (omega arith)

place_first : (place : Bool) (rest : ℕ) → place ≡ false → unless place 7 rest ≡ 7
unfolding unless
place_first place rest e = rw e

one_fails : (a b : Bool) → (a && b) ≡ false → (a ≡ false) ⊎ (b ≡ false)
one_fails true b e = inr e
one_fails false b e = inl refl

module _ {size : Size} (o : Order) (m : MemoryOf size) (ok : sound_of size o m.bytes ≡ true) (x f t : ℕ) (h : object m t ≡ true) where
  -- the test of row 7
  placed : Bool
  placed = not (eqb x f) && not (eqb x t) && not (eqb f t) && lies_in m x f && not (inside m t x)

  cause : placed ≡ false → Misplaced m x f t
  unfolding placed
  cause e = ⊎_elim (λ e4. ⊎_elim (λ e3. ⊎_elim (λ e2. ⊎_elim
      (λ n. from_itself (eqb-true x f (not-false _ n)))
      (λ n. to_itself (eqb-true x t (not-false _ n))) (one_fails _ _ e2))
      (λ n. to_the_same (eqb-true f t (not-false _ n))) (one_fails _ _ e3))
      not_there (one_fails _ _ e4))
      (λ n. to_its_inside ((inside_laws.inside_exact m o ok t x h).0 (not-false _ n))) (one_fails _ _ e)

  fails : Misplaced m x f t → placed ≡ false
  unfolding placed
  fails (from_itself e) = rw (eq-eqb x f e)
  fails (to_itself e) = rw (eq-eqb x t e, and-false)
  fails (to_the_same e) = rw (eq-eqb f t e, and-false)
  fails (not_there e) = rw (e, and-false)
  fails (to_its_inside i) = rw ((inside_laws.inside_exact m o ok t x h).1 i, and-false)

-- past rows 4 and 6
move_rows_law : {size : Size} (o : Order) (m : MemoryOf size) → lengths_fit m ≡ true → (s : sound_of size o m.bytes ≡ true) → order_passes o ≡ true → (e d x f t : ℕ)
    → (task m e && task m d && object m x && object m f && object m t) ≡ true → driver_of m x ≡ d → (h : object m t ≡ true)
    → let honest = at_or_below o (level_of m x) (level_of m e) in (perform o m (Move e d x f t)).verdict
    ≡ unless (placed o m s x f t h) 7
    (unless (has_write m e f && has_write m e t && has_write m d f && has_write m d t) 8
    (unless (honest || marked m d) 11
    (unless (at_or_below o (level_of m x) (level_of m d) && at_or_below o (level_of m x) (level_of m t)) 11
    (unless honest 1 0))))
unfolding outcome verdict_of first_failing unless move placed
move_rows_law {size} o m l s p e d x f t n q h =
    ap (λ (out : OutcomeOf size). out.verdict) (fitted_fits o m (outcome m (move o m e d x f t)) l s p) ∙ rw (n, eq-eqb (driver_of m x) d q)

pub move_place : MovePlace
move_place size o m l s p e d x f t n q =
    let h = (simp and-eq-true_iff at n).1 in
    let rows = move_rows_law o m l s p e d x f t n q h in
    (λ v. cause o m s x f t h (place_alone _ _ _ _ _ (sym rows ∙ v)), λ c. rows ∙ place_first _ _ (fails o m s x f t h c))
