-- Every object's steps from container to container end at a root: a start has no object, and every call that is done keeps it so.
-- Assumes nothing.
use Rattle.std.specs.Prelude.{◌≡◌, Bool, true, false, replicate}
use Rattle.std.proofs.Math.Path.{refl, ap}
use Rattle.std.proofs.Common.{sym, ◌∙◌, inl, inr, arith}
use Rattle.std.proofs.Math.Logic.{⊎_elim}
use Rattle.std.proofs.Math.Bool.{true≢false}
use Rattle.std.proofs.lemmas.Bool.{false≢true}
use mathlib.Core.List.{List, [], ◌∷◌}
use Prim.Native.Nat.{ℕ, zero, suc, ◌<◌}
use Rattle.std.proofs.Math.Dec.{eqb}
use Rattle.std.proofs.lemmas.List.{length-replicate}
use borrow.Author.Tests.{eqb-true, eqb-false, eq-eqb, ne_eqb}
use Rattle.bits.specs.All.{one}
use Rattle.bits.specs.AllLaws.{either, and_i, not_so}
use Rattle.rows.proofs.RowLaws.{some_number}
use Rattle.rows.specs.Size.{Size, numbers_of}
use Rattle.levels.specs.declared.Order.{Order}
use Rattle.records.specs.Records.{field, kind, record_size, Place, root, within, container_byte, spare_byte, is_object, lies_within, sound_of, lent_bytes}
use Rattle.records.specs.RecordLaws.{field_same, field_else, record_else, record_same}
use Rattle.records.proofs.KeepLaws.{lies_in_law, field_zero}
use Rattle.model.specs.State.{MemoryOf, in_use, object, is_root, container_of, lies_in}
use Rattle.model.proofs.StateLaws.{object_used, used_below}
use Rattle.model.specs.Inside.{Leads, inside}
use Rattle.model.proofs.InsideLaws.{last_step, leads_object, inside_exact}
use Rattle.model.specs.Effects.{Effect, flow, flow_if, read_access, write_access, make_task, make_object, move_to, bridge, clear, mark_outside, mark_thing, effect, effects}
use Rattle.model.proofs.MarkLaws.{where_field}
use Rattle.model.proofs.EffectLaws.{Long, fit_long, effect_long, long_fits}
use Rattle.model.specs.Spread.{spread}
use Rattle.model.proofs.SpreadLaws.{spread_more}
use Rattle.model.specs.Monitor.{started}
use Rattle.model.proofs.SoundLaws.{Sound, Allowed, AllAllowed, effect_sound, Did, starts, acts, spreads}

module _ {size : Size} where
  -- some steps from x end at a root
  abbrev pub Ended : MemoryOf size → ℕ → Type 0
  Ended m x = (n k : ℕ) × Leads m n x k × (object m k ≡ true) × (is_root m k ≡ true)

  -- those from every object do
  abbrev pub AllEnd : MemoryOf size → Type 0
  AllEnd m = (x : ℕ) → object m x ≡ true → Ended m x

  one_step : (m : MemoryOf size) (x k : ℕ) → lies_in m x k ≡ true → Ended m k → Ended m x
  unfolding Leads
  one_step m x k l (n, r, s, o, e) = (suc n, r, (k, l, s), o, e)

  -- ---- steps past numbers whose records change

  module _ (m n : MemoryOf size) (changed : ℕ → Bool)
      (same : (x f : ℕ) → changed x ≡ false → f < record_size → (f ≡ 5 → ⊥) → field n.bytes x f ≡ field m.bytes x f) where
    same_object : (x : ℕ) → changed x ≡ false → object n x ≡ object m x
    unfolding object is_object
    same_object x h = rw (same x 0 h (omega arith) (omega arith))

    same_root : (x : ℕ) → changed x ≡ false → is_root n x ≡ is_root m x
    same_root x h = rw (same x 4 h (omega arith) (omega arith), same x 6 h (omega arith) (omega arith))

    same_lies : (x k : ℕ) → changed x ≡ false → lies_in n x k ≡ lies_in m x k
    unfolding lies_within
    same_lies x k h = rw (same_root x h, same x 4 h (omega arith) (omega arith))

    -- they end as before, or come to a number whose record changed, and end from there
    ended_past : (j x k : ℕ) → Leads m j x k → object m k ≡ true → is_root m k ≡ true → ((i y : ℕ) → Leads m i x y → changed y ≡ true → Ended n y) → Ended n x
    unfolding Leads
    ended_past zero x k e h r there =
        ⊎_elim (there 0 x refl)
        (λ c. (0, x, refl, same_object x c ∙ ap (object m) e ∙ h, same_root x c ∙ ap (is_root m) e ∙ r))
        (either (changed x))
    ended_past (suc j) x k (y, l, s) h r there =
        ⊎_elim (there 0 x refl)
        (λ c. one_step n x y (same_lies x y c ∙ l) (ended_past j y k s h r (λ i z t. there (suc i) z (y, l, t))))
        (either (changed x))

    all_end : AllEnd m → ((x i y : ℕ) → changed x ≡ false → object m x ≡ true → Leads m i x y → changed y ≡ true → Ended n y)
        → ((y : ℕ) → changed y ≡ true → object n y ≡ true → Ended n y) → AllEnd n
    all_end ends there here x h =
        ⊎_elim (λ c. here x c h)
        (λ c. let b = sym (same_object x c) ∙ h in
        let e = ends x b in ended_past e.0 x e.1 e.2 e.3 e.4 (λ i y s. there x i y c b s))
        (either (changed x))

-- ---- each kind of effect

-- whose record it changes, marks aside
abbrev changes : Effect → ℕ → Bool
changes (flow x y) z = false
changes (flow_if b x y) z = false
changes (read_access e x) z = false
changes (write_access e x) z = false
changes (make_task n l r) z = eqb z n
changes (make_object n l d p b) z = eqb z n
changes (move_to x c) z = eqb z x
changes (bridge x) z = false
changes (clear x) z = eqb z x
changes (mark_outside e) z = false
changes (mark_thing x) z = false

module _ {size : Size} where
  module _ (o : Order) (m : MemoryOf size) (s : Sound o m) where
    long : Long m
    long = fit_long m s.0

    below : (x : ℕ) → object m x ≡ true → x < numbers_of size
    below x h = used_below m x long.bytes_long (object_used m x h)

    unchanged : (e : Effect) → Allowed o m e → (x f : ℕ) → changes e x ≡ false → f < record_size → (f ≡ 5 → ⊥) → field (effect e m).bytes x f ≡ field m.bytes x f
    unfolding effect
    unchanged (flow y z) a x f h l n = refl
    unchanged (flow_if b y z) a x f h l n = refl
    unchanged (read_access e y) a x f h l n = refl
    unchanged (write_access e y) a x f h l n = refl
    unchanged (make_task k v r) a x f h l n = record_else m.bytes k _ _ _ _ _ _ _ x f (eqb-false x k h) l
    unchanged (make_object k v d p b) a x f h l n = record_else m.bytes k _ _ _ _ _ _ _ x f (eqb-false x k h) l
    unchanged (move_to y c) a x f h l n = field_else m.bytes y 4 c x f (omega arith) l (inl (eqb-false x y h))
    unchanged (bridge y) a x f h l n = refl
    unchanged (clear y) a x f h l n = record_else m.bytes y _ _ _ _ _ _ _ x f (eqb-false x y h) l
    unchanged (mark_outside e) a x f h l n = where_field _ _ x f l n ∙ field_else m.bytes e 5 3 x f (omega arith) l (inr n)
    unchanged (mark_thing y) a x f h l n = where_field _ _ x f l n

    -- the steps of an object do not come to a free number
    never_free : (n : ℕ) → in_use m n ≡ false → (x i y : ℕ) → object m x ≡ true → Leads m i x y → eqb y n ≡ true → ⊥
    never_free n free x i y h t e = true≢false (sym (object_used m n (ap (object m) (sym (eqb-true y n e)) ∙ leads_object m o s.1 i x y t h)) ∙ free)

    -- nor from another to one that no object lies in
    never_empty : (n : ℕ) → ((y : ℕ) → y < numbers_of size → object m y ≡ true → lies_in m y n ≡ true → ⊥)
        → (x i y : ℕ) → eqb x n ≡ false → object m x ≡ true → Leads m i x y → eqb y n ≡ true → ⊥
    unfolding Leads
    never_empty n empty x zero y c h t e = eqb-false x n c (t ∙ eqb-true y n e)
    never_empty n empty x (suc i) y c h t e =
        let l = last_step m i x y t in
        let b = leads_object m o s.1 i x l.0 l.1 h in
        empty l.0 (below l.0 b) b (ap (lies_in m l.0) (sym (eqb-true y n e)) ∙ l.2)

    -- nor from an object that does not lie inside that one
    never_inside : (x c : ℕ) → object m c ≡ true → (c ≡ x → ⊥) → inside m c x ≡ false → (i y : ℕ) → Leads m i c y → eqb y x ≡ true → ⊥
    unfolding Leads
    never_inside x c h n out zero y t e = n (t ∙ eqb-true y x e)
    never_inside x c h n out (suc i) y t e = true≢false (sym ((inside_exact m o s.1 c x h).1 (i, rw (eqb-true y x e) at t)) ∙ out)

    module _ (ends : AllEnd m) where
      -- steps that do not come to the number whose record an effect changes end as before
      still_ended : (e : Effect) → Allowed o m e → (x : ℕ) → object m x ≡ true → ((i y : ℕ) → Leads m i x y → changes e y ≡ true → ⊥) → Ended (effect e m) x
      still_ended e a x h never =
          let t = ends x h in
          ended_past m (effect e m) (changes e) (unchanged e a) t.0 x t.1 t.2 t.3 t.4 (λ i y l d. absurd (never i y l d))

      -- an object put into a container, or made in one
      in_container : (e : Effect) → Allowed o m e → sound_of size o (effect e m).bytes ≡ true → (x c : ℕ) → changes e c ≡ false → object m c ≡ true
          → container_of (effect e m) x ≡ c → Ended (effect e m) c → Ended (effect e m) x
      unfolding object is_object
      in_container e a ok x c d h q t =
          one_step (effect e m) x c (lies_in_law size o _ ok x c (unchanged e a c 0 d (omega arith) (omega arith) ∙ eqb-true _ 2 h) ∙ eq-eqb _ _ q) t

      moved : (x c : ℕ) → (a : Allowed o m (move_to x c)) → sound_of size o (effect (move_to x c) m).bytes ≡ true → Ended (effect (move_to x c) m) x
      unfolding effect
      moved x c a ok =
          in_container (move_to x c) a ok x c (ne_eqb c x a.3) a.2 (field_same m.bytes x 4 c (omega (arith, below x a.0, long.bytes_long)))
          (still_ended (move_to x c) a c a.2 (never_inside x c a.2 a.3 a.4))

      made : (n l d : ℕ) (p : Place) (b : Bool) → (a : Allowed o m (make_object n l d p b)) → sound_of size o (effect (make_object n l d p b) m).bytes ≡ true → Ended (effect (make_object n l d p b) m) n
      unfolding effect object is_object Leads
      made n l d root b a ok =
          let w = record_same m.bytes n 2 l 0 d (container_byte root size) (one b) (spare_byte root size) size long.bytes_long a.0 in
          (0, n, refl, eq-eqb _ 2 w.kind_is, and_i (eq-eqb _ _ w.container_is) (eq-eqb _ _ w.first_is))
      made n l d (within c) b a ok =
          let w = record_same m.bytes n 2 l 0 d c (one b) 0 size long.bytes_long a.0 in
          in_container (make_object n l d (within c) b) a ok n c (not_so _ (never_free n a.1 c 0 c a.4 refl)) a.4 w.container_is
          (still_ended (make_object n l d (within c) b) a c a.4 (λ i y. never_free n a.1 c i y a.4))

      -- what is no object after it
      no_object : (v : MemoryOf size) (n k : ℕ) → kind v.bytes n ≡ k → eqb k 2 ≡ false → (y : ℕ) → eqb y n ≡ true → object v y ≡ true → ⊥
      unfolding object is_object
      no_object v n k e d y q h = true≢false (sym h ∙ ap (λ (z : ℕ). eqb (kind v.bytes z) 2) (eqb-true y n q) ∙ rw e d)

      -- the number whose record changes: if it is an object then, its steps end; and if an object's steps come to it, they end
      touched : (e : Effect) → Allowed o m e → sound_of size o (effect e m).bytes ≡ true → (y : ℕ) → changes e y ≡ true
          → (object (effect e m) y ≡ true → Ended (effect e m) y) × ((x i : ℕ) → changes e x ≡ false → object m x ≡ true → Leads m i x y → Ended (effect e m) y)
      unfolding effect
      touched (flow p q) a ok y d = absurd (false≢true d)
      touched (flow_if b p q) a ok y d = absurd (false≢true d)
      touched (read_access p q) a ok y d = absurd (false≢true d)
      touched (write_access p q) a ok y d = absurd (false≢true d)
      touched (make_task n l r) a ok y d = (
        λ h. absurd (no_object _ n 1 (record_same m.bytes n 1 l r 0 0 0 0 size long.bytes_long a.0).kind_is refl y d h),
        λ x i c h t. absurd (never_free n a.1 x i y h t d),
      )
      touched (make_object n l v p b) a ok y d = (λ h. rw (eqb-true y n d) (made n l v p b a ok), λ x i c h t. absurd (never_free n a.1 x i y h t d))
      touched (move_to p q) a ok y d = let e = moved p q a ok in (λ h. rw (eqb-true y p d) e, λ x i c h t. rw (eqb-true y p d) e)
      touched (bridge p) a ok y d = absurd (false≢true d)
      touched (clear n) a ok y d = (
        λ h. absurd (no_object _ n 0 (record_same m.bytes n 0 0 0 0 0 0 0 size long.bytes_long (below n a.0)).kind_is refl y d h),
        λ x i c h t. absurd (never_empty n a.1 x i y c h t d),
      )
      touched (mark_outside p) a ok y d = absurd (false≢true d)
      touched (mark_thing p) a ok y d = absurd (false≢true d)

      effect_ends : (e : Effect) → Allowed o m e → sound_of size o (effect e m).bytes ≡ true → AllEnd (effect e m)
      effect_ends e a ok = all_end m (effect e m) (changes e) (unchanged e a) ends (λ x i y c h t d. (touched e a ok y d).1 x i c h t) (λ y d. (touched e a ok y d).0)

-- ---- calls

-- the core alone is a task
pub started_ends : (size : Size) (o : Order) → AllEnd (started {size = size} o)
unfolding started object is_object
started_ends size o x h =
    let w = record_same (replicate (lent_bytes size) 0) 0 1 o.top o.top 0 0 0 0 size (length-replicate {A = ℕ} (lent_bytes size) 0) (some_number size) in
    absurd (⊎_elim
    (λ e. true≢false (sym h ∙ rw (eqb-true x 0 e, w.kind_is)))
    (λ e. true≢false (sym h ∙ rw (record_else (replicate (lent_bytes size) 0) 0 1 o.top o.top 0 0 0 0 x 0 (eqb-false x 0 e) (omega arith), field_zero (lent_bytes size) x 0)))
    (either (eqb x 0)))

module _ {size : Size} where
  effects_end : (o : Order) (m : MemoryOf size) (es : List Effect) → Sound o m → AllAllowed o m es → AllEnd m → AllEnd (effects es m)
  unfolding effects
  effects_end o m [] s a k = k
  effects_end o m (e ∷ es) s a k =
      let ok = effect_sound o m e s.1 a.0 in
      effects_end o (effect e m) es (long_fits (effect_long e (fit_long m s.0)), ok) a.1 (effect_ends o m s k e a.0 ok)

  -- marks aside nothing changes
  spread_ends : (m : MemoryOf size) → AllEnd m → AllEnd (spread m).memory
  spread_ends m k =
      all_end m (spread m).memory (λ x. false) (λ x f c l n. (spread_more m).bytes_kept x f l n) k (λ x i y c h t d. absurd (false≢true d)) (λ y d h. absurd (false≢true d))

  pub did_ends : {o : Order} {m n : MemoryOf size} → Did o m n → AllEnd m → AllEnd n
  did_ends {o} (starts p) k = started_ends size o
  did_ends {o} {m} (acts s es a) k = effects_end o m es s a k
  did_ends {m = m} (spreads s) k = spread_ends m k
