-- The tests of the events that record flows and accesses, and of a step, allow their effects.
-- Assumes nothing.
use Rattle.std.specs.Prelude.{◌≡◌, not, ◌&&◌, ◌||◌, ℕ, ◌<◌}
use Rattle.std.proofs.Math.Bool.{true, and-eq-true_iff}
use Rattle.std.proofs.Math.Logic.{inl, ⊎_elim}
use borrow.Author.Tests.{eqb-true}
use Rattle.bits.specs.AllLaws.{or_cases, any_at}
use Rattle.rows.specs.Size.{Size, numbers_of}
use Rattle.levels.specs.declared.Order.{Order}
use Rattle.levels.specs.Order.{at_or_below}
use Rattle.levels.specs.OrderLaws.{IsOrder}
use Rattle.model.specs.State.{MemoryOf, in_use, task, level_of, driver_of, marked, has_flow, has_read}
use Rattle.model.proofs.StateLaws.{task_used, object_used, used_below}
use Rattle.model.specs.Effects.{effect}
use Rattle.model.proofs.EffectLaws.{fit_long}
use Rattle.model.specs.Events.{read, write, call_task, invoke, pass, post, find, fed, step}
use Rattle.model.proofs.TableLaws.{Holds}
use Rattle.containment.specs.Lists.{StandingOf}
use Rattle.containment.proofs.Tables.{flows, reads}
use Rattle.containment.proofs.Invariant.{Ends, Limits, ends_trans, to_marked, under_marked, fed_covered, read_ends}
use Rattle.containment.proofs.Preserve.{AllAllowed}

module _ {size : Size} (s : StandingOf size) (ok : IsOrder s.order) (k : Limits s) where
  abbrev o : Order
  o = s.order

  abbrev m : MemoryOf size
  m = s.memory

  below : (x : ℕ) → in_use m x ≡ true → x < numbers_of size
  below x = used_below m x (fit_long m k.fits).bytes_long

  pub read_allowed : (e d x : ℕ) → Holds (read o m e d x).tests → AllAllowed s (read o m e d x).effects
  unfolding read effect in_use task
  read_allowed e d x h =
      let t = simp and-eq-true_iff at h.0 in
      let p = eqb-true (driver_of m x) d h.1.0 in
      let ue = task_used m e t.0.0 in
      let ud = task_used m d t.0.1 in
      let ux = object_used m x t.1 in (
        record { reader = t.0.0; source = t.1; path = rw p h.1.1.0; honest = rw p h.1.1.1.0 },
        (λ g. (ux, ue, honest g), (λ g. (ux, ue, driven x g), (λ g. (ud, ue, driven d g), tt))),
      )
    where
      honest : (not (marked m d) && (marked m e || (at_or_below o (level_of m e) (level_of m x) && at_or_below o (level_of m e) (level_of m d)))) ≡ true → Ends s x e
      honest g =
          let q = simp and-eq-true_iff at g in
          let l = at_or_below o (level_of m e) (level_of m x) && at_or_below o (level_of m e) (level_of m d) in
          ⊎_elim (to_marked s ok k x e) (λ (w : l ≡ true). let v = simp and-eq-true_iff at w in inl v.0) (or_cases (marked m e) l q.1)

      driven : (y : ℕ) → (marked m d && (marked m e || at_or_below o (level_of m e) (level_of m d))) ≡ true → Ends s y e
      driven y g =
          let q = simp and-eq-true_iff at g in
          ⊎_elim (to_marked s ok k y e) (under_marked s ok k y d e q.0) (or_cases (marked m e) (at_or_below o (level_of m e) (level_of m d)) q.1)

  pub write_allowed : (e d x : ℕ) → Holds (write o m e d x).tests → AllAllowed s (write o m e d x).effects
  unfolding write effect in_use task
  write_allowed e d x h =
      let t = simp and-eq-true_iff at h.0 in
      let ue = task_used m e t.0.0 in
      let ud = task_used m d t.0.1 in
      let ux = object_used m x t.1 in
      let f : Ends s e x =
      ⊎_elim (λ l. inl l) (λ g. under_marked s ok k e d x g h.1.1.1.0) (or_cases (at_or_below o (level_of m x) (level_of m e)) (marked m d) h.1.1.0) in
      ((ue, ux), ((ue, ux, f), (λ g. (ue, ud, to_marked s ok k e d g), tt)))

  pub call_allowed : (a b : ℕ) → Holds (call_task o m a b).tests → AllAllowed s (call_task o m a b).effects
  unfolding call_task effect in_use task
  call_allowed a b h =
      let t = simp and-eq-true_iff at h.0 in
      let ua = task_used m a t.0 in
      let ub = task_used m b t.1 in (
        λ g. (ub, ua, ⊎_elim (to_marked s ok k b a) (λ l. inl l) (or_cases (marked m a) (at_or_below o (level_of m a) (level_of m b)) g)),
        (λ g. let q = simp and-eq-true_iff at g in (ua, ub, to_marked s ok k a b q.1), tt),
      )

  pub invoke_allowed : (a b : ℕ) → Holds (invoke o m a b).tests → AllAllowed s (invoke o m a b).effects
  unfolding invoke effect in_use task
  invoke_allowed a b h =
      let t = simp and-eq-true_iff at h.0 in
      let ua = task_used m a t.0 in
      let ub = task_used m b t.1 in
      ((ua, ub, inl h.1.0), (λ g. (ub, ua, to_marked s ok k b a g), tt))

  pub pass_allowed : (z x y : ℕ) → Holds (pass o m z x y).tests → AllAllowed s (pass o m z x y).effects
  unfolding pass has_flow has_read
  pass_allowed z x y h =
      let t = simp and-eq-true_iff at h.0 in
      let f = simp and-eq-true_iff at h.1.1.0 in
      let lz = below z (task_used m z t.0.0) in
      let ux = object_used m x t.0.1 in
      let xz = read_ends s ok k z x (k.recorded reads z x lz (below x ux) f.1) h.1.1.1.0 in
      ((ux, t.1, ends_trans s ok x z y xz (k.recorded flows z y lz (below y t.1) f.0).2), tt)

  pub post_allowed : (x z y : ℕ) → Holds (post o m x z y).tests → AllAllowed s (post o m x z y).effects
  unfolding post has_flow has_read
  post_allowed x z y h =
      let t = simp and-eq-true_iff at h.0 in
      let f = simp and-eq-true_iff at h.1.1.0 in
      let ux = task_used m x t.0.0 in
      let lz = below z (object_used m z t.0.1) in
      let uy = task_used m y t.1 in
      let zy = read_ends s ok k y z (k.recorded reads y z (below y uy) lz f.1) h.1.1.1.0 in
      ((ux, uy, ends_trans s ok x z y (k.recorded flows x z (below x ux) lz f.0).2 zy), tt)

  pub find_allowed : (x z y : ℕ) → Holds (find o m x z y).tests → AllAllowed s (find o m x z y).effects
  unfolding find has_flow
  find_allowed x z y h =
      let t = simp and-eq-true_iff at h.0 in
      let f = simp and-eq-true_iff at h.1.1.0 in
      let ux = task_used m x t.0.0 in
      let lz = below z (task_used m z t.0.1) in
      ((ux, t.1, ends_trans s ok x z y (k.recorded flows x z (below x ux) lz f.0).2 (k.recorded flows z y lz (below y t.1) f.1).2), tt)

  pub step_allowed : (x : ℕ) → Holds (step o m x).tests → AllAllowed s (step o m x).effects
  unfolding step fed has_flow
  step_allowed x h =
      let t = simp and-eq-true_iff at h.1.0 in
      let a = any_at (numbers_of size) (λ y. marked m y && has_flow m y x) t.1 in
      let f = simp and-eq-true_iff at a.2 in
      (fed_covered s ok k a.0 x f.0 (k.recorded flows a.0 x a.1 (below x h.0) f.1).2, tt)
