-- The tests of the events that make, move and clear things allow their effects.
-- Assumes nothing.
use Rattle.std.specs.Prelude.{◌≡◌, true, not, [], ◌∷◌, ℕ, ltb}
use Rattle.std.proofs.Math.Path.{refl}
use Rattle.std.proofs.Common.{◌∙◌}
use Rattle.std.proofs.Math.Bool.{and-eq-true_iff}
use Rattle.std.proofs.Math.Logic.{inl}
use borrow.Author.Tests.{eq-eqb, ne_eqb, ltb-true, not-true}
use Rattle.rows.specs.Size.{Size, numbers_of}
use Rattle.levels.specs.declared.Order.{Order}
use Rattle.levels.specs.Order.{at_or_below}
use Rattle.levels.specs.OrderLaws.{IsOrder}
use Rattle.records.specs.Records.{Place, root, within}
use Rattle.model.specs.State.{MemoryOf, in_use, task, object, level_of, marked}
use Rattle.model.proofs.StateLaws.{task_used, object_used, used_apart, used_below}
use Rattle.model.specs.Effects.{Effect, flow_if, make_task, make_object, move_to, bridge, clear, effect}
use Rattle.model.proofs.EffectLaws.{Long, fit_long, in_use_after, level_after}
use Rattle.model.specs.Events.{execute, create, create_root, move, delete}
use Rattle.model.proofs.TableLaws.{Holds}
use Rattle.containment.specs.Lists.{StandingOf}
use Rattle.containment.proofs.Invariant.{MayFlow, Limits, to_marked, under_marked}
use Rattle.containment.proofs.Follows.{Follows, same_use}
use Rattle.containment.proofs.Preserve.{after, MayMake, Allowed, AllAllowed, object_follows, clear_follows, move_follows, effect_keeps}

module _ {size : Size} (s : StandingOf size) (ok : IsOrder s.order) (k : Limits s) where
  abbrev o : Order
  o = s.order

  abbrev m : MemoryOf size
  m = s.memory

  long : Long m
  long = fit_long m k.fits

  -- the flows of a task c that follow, where the driver d is marked: to d, and to a thing at or below it
  module _ (e : Effect) (a : Allowed s e) (f : Follows o m (effect e m) s.outside s.outside) (c d : ℕ)
      (tc : task m c ≡ true) (td : task m d ≡ true) (h : marked m d ≡ true) where
    still_used : (x : ℕ) → task m x ≡ true → in_use (effect e m) x ≡ true
    still_used x t = same_use (f.tasks x t) ∙ task_used m x t

    to_driver : MayFlow (after s e) c d
    to_driver = (still_used c tc, still_used d td, to_marked (after s e) ok (effect_keeps s ok k e a) c d (f.marks d td h))

    to_driven : (y : ℕ) → in_use (effect e m) y ≡ true → at_or_below o (level_of (effect e m) y) (level_of m d) ≡ true → MayFlow (after s e) c y
    to_driven y u l = (still_used c tc, u, under_marked (after s e) ok (effect_keeps s ok k e a) c d y (f.marks d td h) (rw (f.tasks d td).level l))

  pub execute_allowed : (c i n l r : ℕ) → Holds (execute o m c i n l r).tests → AllAllowed s (execute o m c i n l r).effects
  unfolding execute
  execute_allowed c i n l r h =
      let t = simp and-eq-true_iff at h.0 in
      let g = simp and-eq-true_iff at h.1.1.1.0 in
      let ln = ltb-true n (numbers_of size) t.1 in
      let free = not-true (in_use m n) h.1.0 in
      let ui = object_used m i t.0.1 in
      let e = make_task n l r in
      let ne = ne_eqb i n (used_apart m i n ui free) in (
        (ln, free),
        (
          λ p. (
            in_use_after i e m long ln ∙ rw ne ui,
            in_use_after n e m long ln ∙ rw (eq-eqb n n refl),
            inl (rw (level_after n e m long ln, level_after i e m long ln, eq-eqb n n refl, ne) g.0),
          ),
          tt,
        ),
      )

  created_allowed : (c d n : ℕ) (p : Place) (l : ℕ) → task m c ≡ true → task m d ≡ true → ltb n (numbers_of size) ≡ true → not (in_use m n) ≡ true → at_or_below o l (level_of m d) ≡ true
      → AllAllowed s (make_object n l d p (marked m d) ∷ flow_if (marked m d) c n ∷ flow_if (marked m d) c d ∷ [])
  unfolding effect in_use task
  created_allowed c d n p l tc td ln free above =
      let e = make_object n l d p (marked m d) in
      let ln' = ltb-true n (numbers_of size) ln in
      let a : MayMake s n l d (marked m d) = record { below = ln'; free = not-true (in_use m n) free; driver = td; above = above; mark = refl } in
      let f = object_follows s ok k n l d p (marked m d) a in (
        a,
        (
          λ g. to_driven e a f c d tc td g n (in_use_after n e m long ln' ∙ rw (eq-eqb n n refl)) (rw (level_after n e m long ln', eq-eqb n n refl) above),
          (λ g. to_driver e a f c d tc td g, tt),
        ),
      )

  pub create_allowed : (c d n q l : ℕ) → Holds (create o m c d n q l).tests → AllAllowed s (create o m c d n q l).effects
  unfolding create
  create_allowed c d n q l h =
      let t = simp and-eq-true_iff at h.0 in
      let g = simp and-eq-true_iff at h.1.1.1.1.0 in
      created_allowed c d n (within q) l t.0.0.0 t.0.0.1 t.0.1 h.1.0 g.1

  pub create_root_allowed : (c d n l : ℕ) → Holds (create_root o m c d n l).tests → AllAllowed s (create_root o m c d n l).effects
  unfolding create_root
  create_root_allowed c d n l h =
      let t = simp and-eq-true_iff at h.0 in
      let g = simp and-eq-true_iff at h.1.1.1.0 in
      created_allowed c d n root l t.0.0 t.0.1 t.1 h.1.0 g.1

  pub move_allowed : (e d x f t : ℕ) → Holds (move o m e d x f t).tests → AllAllowed s (move o m e d x f t).effects
  unfolding move effect in_use task
  move_allowed e d x f t h =
      let a = simp and-eq-true_iff at h.0 in
      let g = simp and-eq-true_iff at h.1.1.1.1.1.0 in
      let te = a.0.0.0.0 in
      let td = a.0.0.0.1 in
      let tx = a.0.0.1 in
      let lx = used_below m x long.bytes_long (object_used m x tx) in
      let w = move_follows s ok k x tx t in (
        tx,
        (
          λ p. to_driven (move_to x t) tx w e d te td p x (in_use_after x (move_to x t) m long lx ∙ object_used m x tx) (rw (level_after x (move_to x t) m long lx) g.0),
          (λ p. to_driver (move_to x t) tx w e d te td p, tt),
        ),
      )

pub delete_allowed : {size : Size} (s : StandingOf size) (ok : IsOrder s.order) (k : Limits s) (e d x q : ℕ) → Holds (delete s.order s.memory e d x q).tests → AllAllowed s (delete s.order s.memory e d x q).effects
unfolding delete effect object task marked
delete_allowed {size} s ok k e d x q h =
    let a = simp and-eq-true_iff at h.0 in
    let tx = a.0.1 in
    let ux = object_used s.memory x tx in
    let b = after s (bridge x) in
    let kb = effect_keeps s ok k (bridge x) ux in
    (ux, (tx, (λ p. to_driver b ok kb (clear x) tx (clear_follows b ok kb x tx) e d a.0.0.0 a.0.0.1 p, tt)))
