-- The tables of the events on objects: each verdict is its decision's under the rows above it, and each list of effects is the code's.
-- Assumes nothing.
use Rattle.std.specs.Prelude.{◌≡◌, false, cond, ◌&&◌, ◌||◌, List, [], ◌∷◌, ℕ, ◌≤◌, ◌<◌, eqb}
use Rattle.std.proofs.Math.Path.{refl, ap}
use Rattle.std.proofs.Common.{ap₂, sym, ◌∙◌, arith}
use Rattle.std.proofs.Math.Logic.{⊎_elim}
use Rattle.std.proofs.Math.Bool.{Bool, true, not, and_comm, and-eq-true_iff}
use borrow.Author.Tests.{eqb-true, lt-ltb}
use Rattle.bits.specs.All.{any_b}
use Rattle.bits.specs.AllLaws.{and_l, and_r, either, any_ext}
use Rattle.rows.specs.Rows.{add_cell, clear_thing}
use Rattle.rows.specs.Size.{present, row_size, numbers, tables}
use Rattle.levels.specs.declared.Order.{Order}
use Rattle.levels.specs.Order.{at_or_below}
use Rattle.records.specs.Records.{BytesLent, set_record, is_task, is_object, driver, container}
use Rattle.records.proofs.KeepLaws.{lies_in_law}
use Rattle.model.specs.Verdicts.{granted, slipped, row_number, row_driver, row_place, row_held, row_rule, row_filled, row_feeding}
use Rattle.model.specs.State.{Memory, memory, task, object, level_of, read_level_of, driver_of, lies_in, marked, has_write}
use Rattle.model.specs.Ready.{Ready}
use Rattle.model.specs.Effects.{Effect, flow_if, read_access, bridge, clear, effect, effects}
use Rattle.model.specs.Events.{unless, first_failing, verdict_of, feeds_unmarked, read, write, move, delete}
use Rattle.places.specs.Places.{bytes_inside}
use Rattle.places.specs.PlaceLaws.{inside_is}
use Rattle.decisions.specs.Decisions.{Decision}
use Rattle.decisions.specs.Decisions.{apart, read_decision, write_decision, move_decision, delete_decision}
use Rattle.decisions.specs.Facts.{writes, both_write}
use Rattle.decisions.specs.DecisionLaws.{Told, told_by, told_tests, under, ends_done, apart_joins, task_small, object_small}
use Rattle.events.specs.Judged.{all_write, may_move, move_named, is_empty, driven, last_rows, move_rows, delete_rows, read_ruled, write_ruled, move_ruled, delete_ruled, read_judged, write_judged, move_judged, delete_judged, read_does, write_does, move_does, delete_does}

-- a flow that one of two conditions records, of which at most one holds, is recorded where either holds
one_flow : (b p q : Bool) (x y : ℕ) (rest : List Effect) (m : Memory)
    → effects (flow_if ((not b && p) || (b && q)) x y ∷ rest) m ≡ effects (flow_if (not b && p) x y ∷ flow_if (b && q) x y ∷ rest) m
unfolding effects effect
one_flow true p true x y rest m = refl
one_flow true p false x y rest m = refl
one_flow false true q x y rest m = refl
one_flow false false q x y rest m = refl

-- the rows of a filled container and of what feeds are the last
last_two : (number driver place held object_task object_driver empty feeds : Bool)
    → unless number row_number (unless driver row_driver (unless place row_place (unless held row_held
    (unless (object_task && object_driver) row_rule (unless empty row_filled (unless (not feeds) row_feeding (unless true slipped granted)))))))
    ≡ last_rows empty feeds (unless number row_number (unless driver row_driver (unless place row_place (unless held row_held
    (apart object_driver (unless object_task row_rule granted))))))
unfolding unless last_rows apart
last_two false d p h t o e f = refl
last_two true false p h t o e f = refl
last_two true true false h t o e f = refl
last_two true true true false t o e f = refl
last_two true true true true true true e f = refl
last_two true true true true true false e f = refl
last_two true true true true false true e f = refl
last_two true true true true false false e f = refl

-- a last test of the row of the place is asked only where nothing up to it refuses
last_asked : (number driver place last : Bool) (rest : ℕ) → unless number row_number (unless driver row_driver (unless place row_place granted)) ≡ granted
    → unless last row_place rest ≡ unless number row_number (unless driver row_driver (unless (place && last) row_place rest))
unfolding unless
last_asked false d p l v e = absurd (omega arith)
last_asked true false p l v e = absurd (omega arith)
last_asked true true false l v e = absurd (omega arith)
last_asked true true true l v e = refl

last_unasked : (number driver place last : Bool) (rest : ℕ) → (unless number row_number (unless driver row_driver (unless place row_place granted)) ≡ granted → ⊥)
    → unless number row_number (unless driver row_driver (unless place row_place granted)) ≡ unless number row_number (unless driver row_driver (unless (place && last) row_place rest))
unfolding unless
last_unasked false d p l v n = refl
last_unasked true false p l v n = refl
last_unasked true true false l v n = refl
last_unasked true true true l v n = absurd (n refl)

-- so is the walk of a move, with v told by the rows above it and by the other tests of its own
module _ (bs ws : List ℕ) (e d x f t rest : ℕ) {v : ℕ} (is : v ≡ driven bs (move_named bs e d x f t) d x (unless (may_move bs x f t) row_place granted)) where
  pub walk_asked : {inside : Bool} {held : ℕ} → v ≡ granted → inside ≡ bytes_inside bs t x → held ≡ unless (all_write ws e d f t) row_held rest
      → unless (not inside) row_place held ≡ move_rows bs ws e d x f t rest
  unfolding driven move_rows
  walk_asked g i h = rw (i, h) (last_asked (move_named bs e d x f t) (eqb (driver bs x) d) (may_move bs x f t) _ _ (sym is ∙ g))

  pub walk_unasked : (v ≡ granted → ⊥) → v ≡ move_rows bs ws e d x f t rest
  unfolding driven move_rows
  walk_unasked n = is ∙ last_unasked (move_named bs e d x f t) (eqb (driver bs x) d) (may_move bs x f t) _ _ (λ q. n (is ∙ q))

-- where the numbers are wrong, neither is asked
neither_asked : (a b f : Bool) (v w : ℕ) → last_rows a f (unless false row_number v) ≡ last_rows b f (unless false row_number w)
unfolding unless last_rows
neither_asked a b f v w = refl

-- where they are asked, the numbers are right
asked_named : (bs : List ℕ) (named : Bool) (d x rest : ℕ) → driven bs named d x rest ≡ granted → named ≡ true
unfolding driven unless
asked_named bs true d x rest h = refl
asked_named bs false d x rest h = absurd (omega arith)

pub asked_small : (bs : List ℕ) → BytesLent bs → (e d x k rest : ℕ) {named : Bool} → named ≡ (is_task bs e && is_task bs d && is_object bs x && is_object bs k)
    → {v : ℕ} → v ≡ driven bs named d x rest → v ≡ granted → x < numbers
unfolding object
asked_small bs long e d x k rest is told g =
    let p = simp and-eq-true_iff at (sym is ∙ asked_named bs _ d x rest (sym told ∙ g)) in
    object_small (memory bs []) x long p.0.1

-- what a deletion leaves: the flows past the object, then its record, its flows and the accesses to it cleared, then a flow to the driver
pub deleted : (m : Memory) (e d x : ℕ) (b : Bool) {bs bridged cleared ws : List ℕ} → memory m.bytes bridged ≡ effect (bridge x) m → bs ≡ set_record m.bytes x 0 0 0 0 0 0 0
    → cleared ≡ clear_thing row_size numbers tables x bridged → ws ≡ cond b (add_cell row_size cleared e d) cleared
    → memory bs ws ≡ effects (bridge x ∷ clear x ∷ flow_if b e d ∷ []) m
unfolding effects effect
deleted m e d x b p q r s =
    ap₂ memory q (s ∙ ap (λ (v : List ℕ). cond b (add_cell row_size v e d) v) r) ∙ ap (effects (clear x ∷ flow_if b e d ∷ [])) p

module _ (o : Order) (m : Memory) where
  infix 40 ◌⊑◌
  abbrev ◌⊑◌ : ℕ → ℕ → Bool
  a ⊑ b = at_or_below o a b

  abbrev L : ℕ → ℕ
  L x = level_of m x

  abbrev R : ℕ → ℕ
  R x = read_level_of m x

  -- ---- read and write
  module _ (e d x : ℕ) where
    pub read_verdict : verdict_of (read o m e d x)
        ≡ driven m.bytes (task m e && task m d && object m x) d x (apart (L x ⊑ L d) (read_ruled o m e d x).verdict)
    unfolding verdict_of first_failing unless read read_ruled read_decision driven
    read_verdict =
        let honest = L e ⊑ L x || R e ⊑ L x in
        ap (driven m.bytes (task m e && task m d && object m x) d x)
        (apart_joins (L e ⊑ L d || R e ⊑ L d) (honest || marked m d) true (L x ⊑ L d) honest)

    pub read_told : Told m (read o m e d x) (read_judged o m e d x) (λ j. read_does e d x j.first j.second)
    unfolding read read_ruled read_decision unless effects
    read_told =
        let to_driver = marked m e || L e ⊑ L d in
        told_by (read_ruled o m e d x) refl (read_does e d x) (λ t. rw (t.1.1.0, t.1.1.1.0) (ends_done (L e ⊑ L x || R e ⊑ L x)))
        (one_flow (marked m d) (marked m e || (L e ⊑ L x && L e ⊑ L d)) to_driver x e (flow_if (marked m d && to_driver) d e ∷ []) (effect (read_access e x) m))

    pub write_verdict : verdict_of (write o m e d x)
        ≡ driven m.bytes (task m e && task m d && object m x) d x (apart (L x ⊑ L d) (write_ruled o m e d x).verdict)
    unfolding verdict_of first_failing unless write write_ruled write_decision driven
    write_verdict =
        let honest = L x ⊑ L e in
        ap (driven m.bytes (task m e && task m d && object m x) d x)
        (apart_joins true (honest || marked m d) true (L x ⊑ L d) honest)

    pub write_told : Told m (write o m e d x) (write_judged o m e d x) (λ j. write_does e d x j.first j.second)
    unfolding write write_ruled write_decision unless effects effect
    write_told = told_by (write_ruled o m e d x) refl (write_does e d x) (λ t. rw t.1.1.0 (ends_done (L x ⊑ L e))) refl

  -- ---- move and delete
  pub move_told : (e d x f t : ℕ) → Told m (move o m e d x f t) (move_judged o m e d x f t)
      (λ j. move_does e d x t j.first j.second)
  unfolding move move_ruled move_decision unless effects effect
  move_told e d x f t = told_by (move_ruled o m e d x t) refl (move_does e d x t) (λ p. rw (p.1.1.1.1.0, and_r (L x ⊑ L d) (L x ⊑ L t) p.1.1.1.1.1.0) (ends_done (L x ⊑ L e))) refl

  pub delete_told : (e d x k : ℕ) → Told m (delete o m e d x k) (delete_judged o m e d x k) (λ j. delete_does e d x j.first j.second)
  unfolding delete delete_ruled delete_decision unless effects effect
  delete_told e d x k = told_by (delete_ruled o m e d x) refl (delete_does e d x) (λ t. rw (and_l (L x ⊑ L e) (L x ⊑ L d) t.1.1.1.1.0)) refl

  -- an access is looked for in its table, past which there is none; and an object's container by its byte
  module _ (r : Ready o m.bytes m.words) where
    lies : (x k : ℕ) → is_object m.bytes k ≡ true → lies_in m x k ≡ eqb (container m.bytes x) k
    unfolding is_object
    lies x k h = lies_in_law present o m.bytes r.3 x k (eqb-true _ 2 h)

    pub move_verdict : (e d x f t : ℕ) → verdict_of (move o m e d x f t)
        ≡ move_rows m.bytes m.words e d x f t (apart (L x ⊑ L d) (move_ruled o m e d x t).verdict)
    unfolding verdict_of first_failing unless move move_ruled move_decision task object has_write move_named may_move writes all_write driven move_rows
    move_verdict e d x f t =
        let honest = L x ⊑ L e in
        under (move_named m.bytes e d x f t) _ _ _
        (λ h. let p = simp and-eq-true_iff at h in
        rw (
          lies x f p.0.1,
          inside_is o m r.3 t x p.1 p.0.0.1,
          lt-ltb e numbers (task_small m e r.0 p.0.0.0.0),
          lt-ltb d numbers (task_small m d r.0 p.0.0.0.1),
        )
        (ap
        (λ (v : ℕ).
        unless (eqb (driver_of m x) d) row_driver
        (unless (may_move m.bytes x f t && not (bytes_inside m.bytes t x)) row_place
        (unless (has_write m e f && has_write m e t && has_write m d f && has_write m d t) row_held v)))
        (ap (λ (b : Bool). unless (honest || marked m d) row_rule (unless b row_rule (unless honest slipped granted))) (and_comm (L x ⊑ L d) (L x ⊑ L t))
        ∙ apart_joins true (honest || marked m d) (L x ⊑ L t) (L x ⊑ L d) honest)))

    empty_is : (x : ℕ) → is_object m.bytes x ≡ true → not (any_b numbers (λ y. object m y && lies_in m y x)) ≡ is_empty m.bytes x
    unfolding object is_empty
    empty_is x h = ap not (any_ext numbers _ _ (λ y l. ap (λ (b : Bool). is_object m.bytes y && b) (lies y x h)))

    pub delete_verdict : (e d x k : ℕ) → verdict_of (delete o m e d x k)
        ≡ delete_rows m.bytes m.words e d x k (apart (L x ⊑ L d) (delete_ruled o m e d x).verdict)
    unfolding verdict_of first_failing delete delete_ruled delete_decision task object has_write writes both_write driven delete_rows
    delete_verdict e d x k =
        last_two named (eqb (driver_of m x) d) (lies_in m x k) (has_write m e k && has_write m d k) (L x ⊑ L e) (L x ⊑ L d) empty (feeds_unmarked m x)
        ∙ ⊎_elim
        (λ h. let p = simp and-eq-true_iff at h in
        rw (empty_is x p.0.1, lies x k p.1, lt-ltb e numbers (task_small m e r.0 p.0.0.0), lt-ltb d numbers (task_small m d r.0 p.0.0.1)))
        (λ h. rw h (neither_asked empty (is_empty m.bytes x) (feeds_unmarked m x) _ _))
        (either named)
      where
        named : Bool
        named = task m e && task m d && object m x && object m k

        empty : Bool
        empty = not (any_b numbers (λ y. object m y && lies_in m y x))

  -- ---- what a call that is done stores fits its place
  module _ (long : BytesLent m.bytes) {j : Decision} where
    pub read_fits : (e d x : ℕ) → j ≡ read_judged o m e d x → j.verdict ≤ slipped → e < numbers
    unfolding read
    read_fits e d x is h =
        let p = simp and-eq-true_iff at (told_tests (read_told e d x) is h refl).0 in
        task_small m e long p.0.0

    pub write_fits : (e d x : ℕ) → j ≡ write_judged o m e d x → j.verdict ≤ slipped → e < numbers
    unfolding write
    write_fits e d x is h =
        let p = simp and-eq-true_iff at (told_tests (write_told e d x) is h refl).0 in
        task_small m e long p.0.0

    pub move_fits : (e d x f t : ℕ) → j ≡ move_judged o m e d x f t → j.verdict ≤ slipped → t < numbers
    unfolding move
    move_fits e d x f t is h =
        let p = simp and-eq-true_iff at (told_tests (move_told e d x f t) is h refl).0 in
        object_small m t long p.1

    pub delete_fits : (e d x k : ℕ) → j ≡ delete_judged o m e d x k → j.verdict ≤ slipped → (x < numbers) × (is_object m.bytes x ≡ true)
    unfolding delete object
    delete_fits e d x k is h =
        let p = simp and-eq-true_iff at (told_tests (delete_told e d x k) is h refl).0 in
        (object_small m x long p.0.1, p.0.1)
