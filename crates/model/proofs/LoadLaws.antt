-- What calls in turn leave, and a load: the state of a start or what its calls leave, sound, whatever the memory lent held.
-- Assumes nothing.
use Rattle.std.specs.Prelude.{◌≡◌, Bool, cond, ℕ, leb}
use Rattle.std.proofs.Math.Path.{refl}
use Rattle.std.proofs.Common.{sym, ◌∙◌, true≢false, arith, leb-true, ne_eqb}
use Rattle.std.proofs.Math.Logic.{inl, inr, ⊎_elim}
use Rattle.std.proofs.Math.Bool.{true, false}
use Rattle.std.proofs.lemmas.Bool.{false≢true}
use mathlib.Core.List.{List, [], ◌∷◌, ◌++◌}
use Rattle.bits.specs.AllLaws.{either, and_l, and_r}
use Rattle.rows.specs.Size.{Size}
use Rattle.levels.specs.declared.Order.{Order}
use Rattle.levels.specs.Order.{order_passes}
use Rattle.layout.specs.Layout.{Layout}
use Rattle.layout.specs.Reading.{Settled, fits, broken, deep, settled}
use Rattle.model.specs.Verdicts.{granted, slipped, is_done, row_state, row_order, row_number, row_form, row_deep}
use Rattle.model.specs.State.{MemoryOf, lengths_fit}
use Rattle.model.specs.Events.{Test, need, unless, first_failing, verdict_of, outcome}
use Rattle.model.specs.Spread.{spread}
use Rattle.model.specs.Monitor.{refusal, refused_unless, start, started, perform}
use Rattle.model.proofs.TableLaws.{refusals, by_call, fitted_fits, refused_keeps}
use Rattle.model.proofs.SoundLaws.{Sound, started_sound, leaves_sound}
use Rattle.model.specs.Load.{layout_calls, in_turn, whole, laid_out, load, past_order}
use Rattle.model.specs.declared.Call.{Call}

-- ---- rows 2 and 3

pub past_i : (v : ℕ) → (v ≡ row_state → ⊥) → (v ≡ row_order → ⊥) → past_order v ≡ true
unfolding past_order
past_i v a b = rw (ne_eqb v row_state a, ne_eqb v row_order b)

-- the rows of an event's table come after them
past_failing : (ts : List Test) (last : ℕ) → refusals ts ≡ true → past_order last ≡ true → past_order (first_failing ts last) ≡ true
unfolding first_failing unless
past_failing [] last r h = h
past_failing (need n true ∷ ts) last r h = past_failing ts last (and_r (leb row_number n) (refusals ts) r) h
past_failing (need n false ∷ ts) last r h =
    let l = leb-true row_number n (and_l (leb row_number n) (refusals ts) r) in
    past_i n (λ e. omega (arith, l)) (λ e. omega (arith, l))

module _ {size : Size} (o : Order) where
  -- no call on sound bytes is refused with 2 or 3 under an order that passes
  pub past_rows : order_passes o ≡ true → (m : MemoryOf size) → Sound o m → (c : Call) → past_order (perform o m c).verdict ≡ true
  unfolding outcome verdict_of unless spread start refused_unless past_order
  past_rows p m s =
      by_call (λ out. past_order out.verdict ≡ true) o m (rw (s.0, p))
      (λ e n. rw (fitted_fits o m (outcome m e) s.0 s.1 p) (past_failing e.tests _ n (honest e.honest))) (rw (fitted_fits o m (spread m) s.0 s.1 p))
    where
      honest : (b : Bool) → past_order (cond b granted slipped) ≡ true
      honest true = refl
      honest false = refl

  -- ---- calls in turn

  -- the first calls, and where none is refused the others
  pub turn_append : (cs ds : List Call) (m : MemoryOf size)
      → in_turn o (cs ++ ds) m ≡ cond (is_done (in_turn o cs m).verdict) (in_turn o ds (in_turn o cs m).memory) (in_turn o cs m)
  unfolding in_turn
  turn_append [] ds m = refl
  turn_append (c ∷ cs) ds m = elim (either (is_done (perform o m c).verdict)) [ inl h ↦ rw h (turn_append cs ds (perform o m c).memory) | inr h ↦ rw (h, h) ]

  -- what each call that is done keeps, all of them keep
  pub turn_keeps : (P : MemoryOf size → Type 0) → ((m : MemoryOf size) (c : Call) → P m → is_done (perform o m c).verdict ≡ true → P (perform o m c).memory)
      → (cs : List Call) (m : MemoryOf size) → P m → P (in_turn o cs m).memory
  unfolding in_turn
  turn_keeps P each [] m k = k
  turn_keeps P each (c ∷ cs) m k =
      ⊎_elim (λ h. rw h (turn_keeps P each cs (perform o m c).memory (each m c k h))) (λ h. rw h (rw (refused_keeps o m c h) k)) (either (is_done (perform o m c).verdict))

  pub turn_sound : (cs : List Call) (m : MemoryOf size) → Sound o m → Sound o (in_turn o cs m).memory
  turn_sound = turn_keeps (Sound o) (λ m c k h. leaves_sound size o m c h)

  pub turn_past : order_passes o ≡ true → (cs : List Call) (m : MemoryOf size) → Sound o m → past_order (in_turn o cs m).verdict ≡ true
  unfolding in_turn past_order
  turn_past p [] m s = refl
  turn_past p (c ∷ cs) m s =
      ⊎_elim (λ h. rw h (turn_past p cs (perform o m c).memory (leaves_sound size o m c h))) (λ h. rw h (past_rows p m s c)) (either (is_done (perform o m c).verdict))

-- ---- a load past row 3

module _ (size : Size) (o : Order) where
  -- the number of a refused call is given
  pub laid_tells : (f : Layout) → (laid_out {size = size} o (fits f)).verdict ≡ (in_turn {size = size} o (layout_calls f) (started o)).verdict
  unfolding laid_out whole refusal
  laid_tells f = elim (either (is_done (in_turn {size = size} o (layout_calls f) (started o)).verdict)) [ inl d ↦ rw d | inr d ↦ rw d ]

  -- what a load gives: 14, 15, or what its calls give
  pub laid_gives : (P : ℕ → Type 0) → P row_form → P row_deep → ((f : Layout) → P (in_turn {size = size} o (layout_calls f) (started o)).verdict) → (s : Settled) → P (laid_out {size = size} o s).verdict
  unfolding laid_out refusal
  laid_gives P a b calls (fits f) = rw (laid_tells f) (calls f)
  laid_gives P a b calls (broken place) = a
  laid_gives P a b calls (deep place) = b

  -- what it leaves: the state of a start, or what its calls leave
  pub laid_leaves : (P : MemoryOf size → Type 0) → P (started o)
      → ((f : Layout) → is_done (in_turn {size = size} o (layout_calls f) (started o)).verdict ≡ true → P (in_turn o (layout_calls f) (started o)).memory) → (s : Settled) → P (laid_out o s).memory
  unfolding laid_out whole refusal
  laid_leaves P a calls (fits f) = ⊎_elim (λ h. rw h (calls f h)) (λ h. rw h a) (either (is_done (in_turn {size = size} o (layout_calls f) (started o)).verdict))
  laid_leaves P a calls (broken place) = a
  laid_leaves P a calls (deep place) = a

  -- a layout whose calls are all done leaves what they leave
  pub laid_done : (f : Layout) → is_done (laid_out {size = size} o (fits f)).verdict ≡ true
      → (is_done (in_turn {size = size} o (layout_calls f) (started o)).verdict ≡ true) × (laid_out {size = size} o (fits f) ≡ in_turn o (layout_calls f) (started o))
  unfolding laid_out whole refusal
  laid_done f h =
      elim (either (is_done (in_turn {size = size} o (layout_calls f) (started o)).verdict)) [ inl d ↦ (d, rw d) | inr d ↦ absurd (true≢false (sym (rw d at h) ∙ d)) ]

  pub laid_refused : (s : Settled) → is_done (laid_out {size = size} o s).verdict ≡ false → (laid_out {size = size} o s).memory ≡ started o
  unfolding laid_out whole refusal
  laid_refused (fits f) h =
      ⊎_elim (λ d. absurd (true≢false (sym d ∙ (rw d at h)))) (λ d. rw d) (either (is_done (in_turn {size = size} o (layout_calls f) (started o)).verdict))
  laid_refused (broken place) h = refl
  laid_refused (deep place) h = refl

  pub laid_sound : order_passes o ≡ true → (s : Settled) → Sound {size = size} o (laid_out o s).memory
  laid_sound p = laid_leaves (Sound o) (started_sound size o p) (λ f h. turn_sound o (layout_calls f) (started o) (started_sound size o p))

  laid_past : order_passes o ≡ true → (s : Settled) → past_order (laid_out {size = size} o s).verdict ≡ true
  unfolding past_order
  laid_past p = laid_gives (λ v. past_order v ≡ true) refl refl (λ f. turn_past o p (layout_calls f) (started o) (started_sound size o p))

-- ---- every load

module _ {size : Size} (o : Order) (m : MemoryOf size) (t : List ℕ) where
  -- lengths and the order are all that rows 2 and 3 ask for
  pub past_load : lengths_fit m ≡ true → order_passes o ≡ true → past_order (load o m t).verdict ≡ true
  unfolding load refused_unless
  past_load l p = rw (l, p) (laid_past size o p (settled t))

  -- a load past row 3 leaves the same whatever the memory held; any other leaves the memory
  pub load_past : past_order (load o m t).verdict ≡ true → (lengths_fit m ≡ true) × (order_passes o ≡ true) × (load o m t ≡ laid_out o (settled t))
  unfolding load refused_unless refusal past_order
  load_past h =
      elim (either (lengths_fit m)) [
        | inl l ↦ elim (either (order_passes o)) [ inl p ↦ (l, p, rw (l, p)) | inr p ↦ absurd (false≢true (rw (l, p) at h)) ]
        | inr l ↦ absurd (false≢true (rw l at h))
      ]

  pub load_kept : past_order (load o m t).verdict ≡ false → (load o m t).memory ≡ m
  unfolding load refused_unless refusal
  load_kept h =
      elim (either (lengths_fit m)) [
        | inl l ↦ elim (either (order_passes o)) [ inl p ↦ absurd (true≢false (sym (past_load l p) ∙ h)) | inr p ↦ rw (l, p) ]
        | inr l ↦ rw l
      ]
