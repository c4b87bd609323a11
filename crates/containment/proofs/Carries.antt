-- What has to stay over one call other than a start: paths (A), what marks reach (B), and that marks come along paths. Effects that neither bridge nor clear only add.
-- Assumes nothing.
use Rattle.std.specs.Prelude.{◌≡◌, ◌⊎◌, List, [], ◌∷◌, ℕ, ◌<◌}
use Rattle.std.proofs.Math.Path.{refl}
use Rattle.std.proofs.Common.{◌∙◌, inl, inr, arith}
use Rattle.std.proofs.Math.Bool.{true, false}
use Rattle.bits.specs.AllLaws.{or_l}
use Rattle.rows.proofs.RowLaws.{add_kept}
use Rattle.rows.specs.Size.{Size, row_size_of, numbers_of}
use Rattle.records.specs.Records.{field, is_object}
use Rattle.records.specs.RecordLaws.{field_else, record_else}
use Rattle.model.specs.State.{MemoryOf, in_use, task, object, marked, has_flow}
use Rattle.model.proofs.StateLaws.{task_used, object_used, used_apart, used_below}
use Rattle.model.specs.Effects.{Effect, flow, flow_if, read_access, write_access, make_task, make_object, move_to, bridge, clear, mark_outside, mark_thing, with_words, effect, effects}
use Rattle.model.proofs.MarkLaws.{MoreMarks, kept_marked, kept_in_use, kept_object, kept_driver, kept_flow, where_words, where_more}
use Rattle.model.proofs.EffectLaws.{Long, effect_long, effects_long, byte_after_law, outside_marked}
use Rattle.containment.proofs.Reach.{Reach, Path, Fed, reach_here, Grows, grows_none, grows_then, reach_grows}

-- ---- from m to n, where the call names the tasks in E

-- what was marked before it, or is named by it
abbrev pub Source : {size : Size} → MemoryOf size → (ℕ → Type 0) → ℕ → Type 0
Source m E y = ((in_use m y ≡ true) × (marked m y ≡ true)) ⊎ E y

-- what is marked after it is in reach of these
abbrev pub Origin : {size : Size} → MemoryOf size → MemoryOf size → (ℕ → Type 0) → Type 0
Origin m n E = (x : ℕ) → in_use n x ≡ true → marked n x ≡ true → Reach n (Source m E) x

-- what it names is in use and marked after it
abbrev pub Naming : {size : Size} → MemoryOf size → (ℕ → Type 0) → Type 0
Naming n E = (y : ℕ) → E y → (in_use n y ≡ true) × (marked n y ≡ true)

-- what has to stay
pub record Carries {size : Size} (m n : MemoryOf size) (E : ℕ → Type 0) : Type 0 where
  -- A: a path between two things that live before and after is there after
  pub paths : (x y : ℕ) → in_use n x ≡ true → in_use n y ≡ true → Path m x y → Path n x y
  -- B: what lives before and after and is in reach of a marked thing stays in reach of one
  pub feds : (y : ℕ) → in_use n y ≡ true → Fed m y → Fed n y
  pub origin : Origin m n E
  pub naming : Naming n E

-- it names nobody
abbrev pub Nobody : ℕ → Type 0
Nobody y = ⊥

-- where nothing is marked that was not, marks come along paths
pub same_origin : {size : Size} (m n : MemoryOf size) (E : ℕ → Type 0) → Long n
    → ((x : ℕ) → in_use n x ≡ true → marked n x ≡ true → (in_use m x ≡ true) × (marked m x ≡ true)) → Origin m n E
same_origin m n E l h x u k = reach_here l x u (inl (h x u k))

-- what only adds keeps paths
pub grows_carries : {size : Size} (m n : MemoryOf size) (E : ℕ → Type 0) → Grows m n → Origin m n E → Naming n E → Carries m n E
grows_carries m n E g origin naming =
    record {
      paths = λ x y ux uy r. reach_grows (λ z. x ≡ z) (λ z. x ≡ z) g (λ z u e. e) r;
      feds = λ y uy r. reach_grows (λ z. marked m z ≡ true) (λ z. marked n z ≡ true) g g.marks r;
      origin = origin;
      naming = naming;
    }

-- ---- effects that only add

-- it neither bridges nor clears, and what it makes was free
abbrev pub Quiet : {size : Size} → MemoryOf size → Effect → Type 0
Quiet m (flow x y) = Unit {0}
Quiet m (flow_if b x y) = Unit {0}
Quiet m (read_access e x) = Unit {0}
Quiet m (write_access e x) = Unit {0}
Quiet m (make_task n l r) = in_use m n ≡ false
Quiet m (make_object n l d c b) = in_use m n ≡ false
Quiet m (move_to x c) = Unit {0}
Quiet m (bridge x) = ⊥
Quiet m (clear x) = ⊥
Quiet m (mark_outside e) = task m e ≡ true
Quiet m (mark_thing x) = Unit {0}

-- words change, and no flow goes
words_grow : {size : Size} (m : MemoryOf size) (ws : List ℕ) → ((x y : ℕ) → has_flow m x y ≡ true → has_flow (with_words m ws) x y ≡ true) → Grows m (with_words m ws)
unfolding in_use object is_object marked
words_grow m ws f = record { used = λ x h. h; objects = λ x h. (h, refl); flows = f; marks = λ x u h. h }

-- bytes change, and what is in use keeps its kind, its driver and its mark
bytes_grow : {size : Size} (m n : MemoryOf size) → n.words ≡ m.words
    → ((x f : ℕ) → f < 4 → in_use m x ≡ true → field n.bytes x f ≡ field m.bytes x f)
    → ((x : ℕ) → in_use m x ≡ true → marked m x ≡ true → marked n x ≡ true) → Grows m n
unfolding in_use object is_object has_flow
bytes_grow m n words kept marks =
    record {
      used = λ x h. rw (kept x 0 (omega arith) h) h;
      objects = λ x h. let u = object_used m x h in (rw (kept x 0 (omega arith) u) h, kept x 3 (omega arith) u);
      flows = λ x y h. rw words h;
      marks = marks;
    }

-- only marks are added
pub more_grows : {size : Size} {m n : MemoryOf size} → MoreMarks m n → Grows m n
more_grows more =
    record {
      used = λ x u. kept_in_use more x ∙ u;
      objects = λ x u. (kept_object more x ∙ u, kept_driver more x);
      flows = λ x y f. kept_flow more x y ∙ f;
      marks = λ x u k. kept_marked more x k;
    }

module _ {size : Size} (m : MemoryOf size) (long : Long m) where
  below : (x : ℕ) → in_use m x ≡ true → x < numbers_of size
  below x = used_below m x long.bytes_long

  -- what makes a thing n leaves all that is in use as it was
  made_grows : (e : Effect) (n : ℕ) → (effect e m).words ≡ m.words → in_use m n ≡ false
      → ((x f : ℕ) → f < 8 → (x ≡ n → ⊥) → field (effect e m).bytes x f ≡ field m.bytes x f) → Grows m (effect e m)
  unfolding marked
  made_grows e n words free off =
      bytes_grow m (effect e m) words (λ x f lf u. off x f (omega arith) (used_apart m x n u free))
      (λ x u h. rw (off x 5 (omega arith) (used_apart m x n u free)) h)

  -- such an effect only adds
  effect_grows : (e : Effect) → Quiet m e → Grows m (effect e m)
  unfolding effect has_flow marked
  effect_grows (flow x y) q = words_grow m _ (λ u v h. add_kept (row_size_of size) m.words x y u v h)
  effect_grows (flow_if true x y) q = words_grow m _ (λ u v h. add_kept (row_size_of size) m.words x y u v h)
  effect_grows (flow_if false x y) q = words_grow m _ (λ u v h. h)
  effect_grows (read_access e x) q = words_grow m _ (λ u v h. add_kept (row_size_of size) m.words _ x u v h)
  effect_grows (write_access e x) q = words_grow m _ (λ u v h. add_kept (row_size_of size) m.words _ x u v h)
  effect_grows (make_task n l r) q = made_grows (make_task n l r) n refl q (λ x f lf h. record_else m.bytes n _ _ _ _ _ _ _ x f h lf)
  effect_grows (make_object n l d c b) q = made_grows (make_object n l d c b) n refl q (λ x f lf h. record_else m.bytes n _ _ _ _ _ _ _ x f h lf)
  effect_grows (move_to y c) q =
      bytes_grow m _ refl (λ x f lf u. field_else m.bytes y 4 c x f (omega arith) (omega arith) (inr (omega arith)))
      (λ x u h. rw (field_else m.bytes y 4 c x 5 (omega arith) (omega arith) (inr (omega arith))) h)
  effect_grows (bridge x) q = absurd q
  effect_grows (clear x) q = absurd q
  effect_grows (mark_outside e) q =
      bytes_grow m _ (where_words _ _)
      (λ x f lf u. byte_after_law (λ b. b) x f (omega arith) (mark_outside e) m long (below e (task_used m e q)) (omega arith))
      (λ x u h. outside_marked x m long (below x u) e (below e (task_used m e q)) ∙ or_l (marked m x) _ h)
  effect_grows (mark_thing y) q = more_grows (where_more _ m)

-- ---- lists of them

-- each, after those before it
abbrev pub AllQuiet : {size : Size} → MemoryOf size → List Effect → Type 0
AllQuiet m [] = Unit {0}
AllQuiet m (e ∷ es) = Quiet m e × AllQuiet (effect e m) es

-- together they only add
pub effects_grow : {size : Size} (m : MemoryOf size) → Long m → (es : List Effect) → AllQuiet m es → Grows m (effects es m)
unfolding effects
effects_grow m l [] q = grows_none m
effects_grow m l (e ∷ es) q = grows_then (effect_grows m l e q.0) (effects_grow (effect e m) (effect_long e l) es q.1)

-- and keep paths, where they mark nothing
pub quiet_carries : {size : Size} (m : MemoryOf size) → Long m → (es : List Effect) → AllQuiet m es
    → ((x : ℕ) → in_use (effects es m) x ≡ true → marked (effects es m) x ≡ true → (in_use m x ≡ true) × (marked m x ≡ true)) → Carries m (effects es m) Nobody
quiet_carries m long es q h =
    grows_carries m (effects es m) Nobody (effects_grow m long es q) (same_origin m (effects es m) Nobody (effects_long es long) h) (λ y e. absurd e)
