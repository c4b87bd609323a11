-- What a call that is granted or slipped does: effects that its tests allow. It leaves the lengths right and the bytes sound, on any memory.
-- Assumes nothing.
use Rattle.std.specs.Prelude.{◌≡◌, ◌⊎◌, Bool, not, ◌&&◌, ℕ, ◌<◌, eqb, length}
use Rattle.std.proofs.Math.Path.{refl}
use Rattle.std.proofs.Common.{sym, ap, ◌∙◌, true≢false, arith}
use Rattle.std.proofs.Math.Logic.{inl, inr, ⊎_elim}
use Rattle.std.proofs.Math.Bool.{true, false, and-eq-true_iff}
use Rattle.std.proofs.lemmas.Bool.{false≢true}
use mathlib.Core.List.{List, [], ◌∷◌}
use Rattle.std.proofs.lemmas.List.{length-replicate}
use borrow.Author.Tests.{eqb-true, eqb-false, eq-eqb, ltb-true, not-true, not-false}
use Rattle.bits.specs.All.{one}
use Rattle.bits.specs.AllLaws.{and_i, and_l, any_i, or_cases, not_so}
use Rattle.rows.specs.Size.{Size, numbers_of, lent_words}
use Rattle.levels.specs.declared.Order.{Order}
use Rattle.levels.specs.Order.{in_order, order_passes}
use Rattle.levels.specs.OrderLaws.{is_order, both_in}
use Rattle.records.specs.Records.{kind, is_task, is_object, sound_of, lent_bytes}
use Rattle.records.specs.RecordLaws.{field_else, free_fields, in_use_law, long}
use Rattle.records.proofs.KeepLaws.{task_made, PlaceFits, object_made, object_moved, object_cleared, mark_kept, sound_start}
use Rattle.model.specs.declared.Call.{Call}
use Rattle.model.specs.declared.Call.TheVariants.{Start, Read, Write, Execute, Create, CreateRoot, Move, Delete, CallTask, Invoke, Pass, Post, Find, Mark, Step, Spread}
use Rattle.model.specs.Verdicts.{is_done}
use Rattle.model.specs.State.{MemoryOf, lengths_fit, in_use, task, object, driver_of, lies_in, marked}
use Rattle.model.proofs.StateLaws.{object_used}
use Rattle.model.specs.Inside.{inside}
use Rattle.model.specs.Effects.{Effect, flow, flow_if, read_access, write_access, make_task, make_object, move_to, bridge, clear, mark_outside, mark_thing, object_of, mark_where, effect, effects}
use Rattle.model.specs.Events.{Event, outcome, read, write, execute, create, create_root, move, delete, call_task, invoke, pass, post, find, mark, step}
use Rattle.model.specs.Spread.{reached, driven, round, spread}
use Rattle.model.specs.Monitor.{fitted, started, perform}
use Rattle.model.proofs.MarkLaws.{where_keeps}
use Rattle.model.proofs.SpreadLaws.{after_keeps, spread_more}
use Rattle.model.proofs.TableLaws.{Holds, refusals, event_done, fitted_done, start_done}
use Rattle.model.proofs.EffectLaws.{fit_long, long_fits, effect_long}

-- in sound bytes a free number has no mark
pub marked_used : {size : Size} (o : Order) (m : MemoryOf size) → sound_of size o m.bytes ≡ true → (x : ℕ) → marked m x ≡ true → in_use m x ≡ true
unfolding marked in_use
marked_used {size} o m ok x e = ap not (not_so _ (λ z. false≢true (rw (free_fields size o m.bytes ok x (eqb-true _ _ z) 5 (omega arith)) at e)))

module _ {size : Size} where
  abbrev pub Sound : Order → MemoryOf size → Type 0
  Sound o m = (lengths_fit m ≡ true) × (sound_of size o m.bytes ≡ true)

  -- ---- each kind of effect

  -- what has to hold for an effect to keep the bytes sound, and of a move that it makes no circle
  abbrev pub Allowed : Order → MemoryOf size → Effect → Type 0
  Allowed o m (flow x y) = Unit {0}
  Allowed o m (flow_if b x y) = Unit {0}
  Allowed o m (read_access e x) = Unit {0}
  Allowed o m (write_access e x) = Unit {0}
  Allowed o m (make_task n l r) = (n < numbers_of size) × (in_use m n ≡ false) × (in_order o l ≡ true) × (in_order o r ≡ true)
  Allowed o m (make_object n l d p b) = (n < numbers_of size) × (in_use m n ≡ false) × (in_order o l ≡ true) × (task m d ≡ true) × PlaceFits m.bytes p
  Allowed o m (move_to x c) = (object m x ≡ true) × ((f : ℕ) × (lies_in m x f ≡ true)) × (object m c ≡ true) × (c ≡ x → ⊥) × (inside m c x ≡ false)
  Allowed o m (bridge x) = Unit {0}
  Allowed o m (clear x) = (object m x ≡ true) × ((y : ℕ) → y < numbers_of size → object m y ≡ true → lies_in m y x ≡ true → ⊥)
  Allowed o m (mark_outside e) = task m e ≡ true
  Allowed o m (mark_thing x) = in_use m x ≡ true

  -- marks on things in use
  where_sound : (o : Order) (p : ℕ → Bool) (m : MemoryOf size) → sound_of size o m.bytes ≡ true → ((x : ℕ) → p x ≡ true → in_use m x ≡ true) → sound_of size o (mark_where p m).bytes ≡ true
  unfolding in_use
  where_sound o p m h used =
      (where_keeps p m (λ v. (sound_of size o v.bytes ≡ true) × ((x : ℕ) → kind v.bytes x ≡ kind m.bytes x))
      (λ x v l e n q. (
        mark_kept size o v.bytes q.0 x 1 (rw (q.1 x) (eqb-false _ _ (not-true _ (used x e)))) (inl refl),
        λ y. field_else v.bytes x 5 1 y 0 (omega arith) (omega arith) (inr (omega arith)) ∙ q.1 y,
      )) (h, λ x. refl)).0

  pub effect_sound : (o : Order) (m : MemoryOf size) (e : Effect) → sound_of size o m.bytes ≡ true → Allowed o m e → sound_of size o (effect e m).bytes ≡ true
  unfolding effect in_use task object object_of is_task is_object
  effect_sound o m (flow x y) h a = h
  effect_sound o m (flow_if b x y) h a = h
  effect_sound o m (read_access e x) h a = h
  effect_sound o m (write_access e x) h a = h
  effect_sound o m (make_task n l r) h a = task_made size o m.bytes h n l r a.0 (eqb-true _ _ (not-false _ a.1)) (ltb-true _ _ a.2) (ltb-true _ _ a.3)
  effect_sound o m (make_object n l d p b) h a =
      object_made size o m.bytes h n l d (one b) p a.0 (eqb-true _ _ (not-false _ a.1)) (ltb-true _ _ a.2) (eqb-true _ _ a.3) a.4 (go b)
    where
      go : (b : Bool) → (one b ≡ 0) ⊎ (one b ≡ 1)
      go true = inr refl
      go false = inl refl
  effect_sound o m (move_to x c) h a = object_moved size o m.bytes h x a.1.0 c (eqb-true _ _ a.0) a.1.1 (eqb-true _ _ a.2) a.3
  effect_sound o m (bridge x) h a = h
  effect_sound o m (clear x) h a =
      object_cleared size o m.bytes h x (eqb-true _ _ a.0) (λ y k. a.1 y (in_use_law size o m.bytes h y (omega arith)) (eq-eqb _ _ k))
  effect_sound o m (mark_outside e) h a =
      let k : kind m.bytes e ≡ 1 = eqb-true _ _ a in
      where_sound o _ _ (mark_kept size o m.bytes h e 3 (omega arith) (inr (refl, k)))
      (λ x q. rw (field_else m.bytes e 5 3 x 0 (omega arith) (omega arith) (inr (omega arith))) (object_used m x (and_l (object m x) (eqb (driver_of m x) e) q)))
  effect_sound o m (mark_thing x) h a =
      where_sound o _ m h
      (λ y q. ⊎_elim (λ d. rw (eqb-true y x d) a) (λ d. object_used m y (simp and-eq-true_iff at d).1.0) (or_cases (eqb y x) _ q))

  -- ---- events

  abbrev pub AllAllowed : Order → MemoryOf size → List Effect → Type 0
  AllAllowed o m [] = Unit {0}
  AllAllowed o m (e ∷ es) = Allowed o m e × AllAllowed o (effect e m) es

  effects_sound : (o : Order) (m : MemoryOf size) (es : List Effect) → Sound o m → AllAllowed o m es → Sound o (effects es m)
  unfolding effects
  effects_sound o m [] h a = h
  effects_sound o m (e ∷ es) h a = effects_sound o (effect e m) es (long_fits (effect_long e (fit_long m h.0)), effect_sound o m e h.1 a.0) a.1

  -- ---- the spread

  round_sound : (o : Order) (m : MemoryOf size) → sound_of size o m.bytes ≡ true → sound_of size o (round m).bytes ≡ true
  unfolding round reached driven
  round_sound o m h =
      where_sound o _ _ (where_sound o _ m h (λ x e. (simp and-eq-true_iff at e).0.1)) (λ x e. object_used _ x (simp and-eq-true_iff at e).0)

-- ---- every call

-- what a call that is done leaves: the state of a start, that of effects which its tests allow, or that of a spread
pub data Did {size : Size} (o : Order) (m : MemoryOf size) : MemoryOf size → Type 0 where
  starts : order_passes o ≡ true → Did o m (started o)
  acts : Sound o m → (es : List Effect) → AllAllowed o m es → Did o m (effects es m)
  spreads : Sound o m → Did o m (spread m).memory

-- an event whose tests allow its effects
event_did : {size : Size} (o : Order) (m : MemoryOf size) (e : Event) → refusals e.tests ≡ true → (Holds e.tests → AllAllowed o m e.effects)
    → is_done (fitted o m (outcome m e)).verdict ≡ true → Did o m (fitted o m (outcome m e)).memory
event_did o m e r allowed h =
    let d = event_done o m e r h in
    rw d.leaves (acts (d.lengths, d.sound_bytes) e.effects (allowed d.tests))

pub call_did : (size : Size) (o : Order) (m : MemoryOf size) (c : Call) → is_done (perform o m c).verdict ≡ true → Did o m (perform o m c).memory
unfolding effect object read write execute create create_root move delete call_task invoke pass post find mark step
call_did size o m Start h = let d = start_done o m h in rw d.2 (starts d.1)
call_did size o m (Read e d x) h = event_did o m (read o m e d x) refl (λ t. (tt, (tt, (tt, (tt, tt))))) h
call_did size o m (Write e d x) h = event_did o m (write o m e d x) refl (λ t. (tt, (tt, (tt, tt)))) h
call_did size o m (Execute c i n l r) h =
    event_did o m (execute o m c i n l r) refl
    (λ t.
    let a = simp and-eq-true_iff at t.0 in
    let s = simp and-eq-true_iff at t.1.1.0 in
    ((ltb-true _ _ a.1, not-true _ t.1.0, s.0, s.1), (tt, tt))) h
call_did size o m (Create c d n k l) h =
    event_did o m (create o m c d n k l) refl
    (λ t.
    let a = simp and-eq-true_iff at t.0 in
    ((ltb-true _ _ a.0.1, not-true _ t.1.0, t.1.1.1.0, a.0.0.1, a.1), (tt, (tt, tt)))) h
call_did size o m (CreateRoot c d n l) h =
    event_did o m (create_root o m c d n l) refl
    (λ t.
    let a = simp and-eq-true_iff at t.0 in
    ((ltb-true _ _ a.1, not-true _ t.1.0, t.1.1.0, a.0.1, tt), (tt, (tt, tt)))) h
call_did size o m (Move e d x f t) h =
    event_did o m (move o m e d x f t) refl
    (λ p.
    let a = simp and-eq-true_iff at p.0 in
    let b = simp and-eq-true_iff at p.1.1.0 in
    ((a.0.0.1, (f, b.0.1), a.1, λ q. eqb-false x t (not-true _ b.0.0.0.1) (sym q), not-true _ b.1), (tt, (tt, tt)))) h
call_did size o m (Delete e d x k) h =
    event_did o m (delete o m e d x k) refl
    (λ p.
    let a = simp and-eq-true_iff at p.0 in
    (tt, ((a.0.1, λ y l i c. true≢false (sym (any_i (numbers_of size) (λ y. object m y && lies_in m y x) y l (and_i i c)) ∙ not-true _ p.1.1.1.1.1.0)), (tt, tt)))) h
call_did size o m (CallTask a b) h = event_did o m (call_task o m a b) refl (λ t. (tt, (tt, tt))) h
call_did size o m (Invoke a b) h = event_did o m (invoke o m a b) refl (λ t. (tt, (tt, tt))) h
call_did size o m (Pass z x y) h = event_did o m (pass o m z x y) refl (λ t. (tt, tt)) h
call_did size o m (Post x z y) h = event_did o m (post o m x z y) refl (λ t. (tt, tt)) h
call_did size o m (Find x z y) h = event_did o m (find o m x z y) refl (λ t. (tt, tt)) h
call_did size o m (Mark e) h = event_did o m (mark o m e) refl (λ t. (t.0, tt)) h
call_did size o m (Step x) h = event_did o m (step o m x) refl (λ t. (t.0, tt)) h
call_did size o m Spread h =
    let f = fitted_done o m (spread m) h in
    rw f.inner (spreads (f.lengths, f.sound_bytes))

-- ---- what it leaves is sound

pub started_sound : (size : Size) (o : Order) → order_passes o ≡ true → Sound o (started {size = size} o)
unfolding started
started_sound size o h =
    let q = is_order o h in
    let s = sound_start size o (lent_bytes size) refl (both_in o 0 o.top (q.upper 0 q.some)).1 in
    (long_fits (record { bytes_long = long size o _ s; words_long = length-replicate {A = ℕ} (lent_words size) 0 }), s)

spread_sound : (size : Size) (o : Order) (m : MemoryOf size) → Sound o m → Sound o (spread m).memory
unfolding spread
spread_sound size o m s =
    let l = fit_long m s.0 in
    let g = spread_more m in (
      long_fits (record { bytes_long = g.length_kept ∙ l.bytes_long; words_long = ap length g.words_kept ∙ l.words_long }),
      after_keeps (λ v. sound_of size o v.bytes ≡ true) (round_sound o) (numbers_of size) m s.1,
    )

pub leaves_sound : (size : Size) (o : Order) (m : MemoryOf size) (c : Call) → is_done (perform o m c).verdict ≡ true → Sound o (perform o m c).memory
leaves_sound size o m c h = go (call_did size o m c h)
  where
    go : {n : MemoryOf size} → Did o m n → Sound o n
    go (starts p) = started_sound size o p
    go (acts s es a) = effects_sound o m es s a
    go (spreads s) = spread_sound size o m s
