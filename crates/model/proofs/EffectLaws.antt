-- What each effect does to what the memory says. At a concrete effect each law computes to one equation.
-- Assumes nothing.
use Rattle.std.specs.Prelude.{◌≡◌, ◌⊎◌, Bool, ◌&&◌, ◌||◌, List, [], ◌∷◌, ℕ, zero, suc, ◌<◌, ltb, length, get_or}
use Rattle.std.proofs.Math.Path.{refl, sym, ap, ap₂}
use Rattle.std.proofs.Common.{◌∙◌, inl, inr, ⊎_elim, arith, eqb-true, eq-eqb, ne_eqb, lt-ltb, le-ltb}
use Rattle.std.proofs.Math.Bool.{true, false, not, cond, and-eq-true_iff}
use Rattle.std.proofs.Math.Dec.{eqb}
use Rattle.std.proofs.lemmas.List.{get_or-replicate}
use Rattle.std.proofs.lemmas.Bool.{eqb-false}
use Rattle.bits.specs.All.{one}
use Rattle.bits.specs.AllLaws.{either, and_i, or_false, or_true}
use Rattle.rows.specs.Rows.{cell, add_cell}
use Rattle.rows.proofs.RowLaws.{same_place, place_below, cell_add, cell_clear, cell_bridged, length_add, length_clear, length_bridged}
use Rattle.rows.specs.Size.{Size, row_size_of, numbers_of, tables, lent_words}
use Rattle.records.specs.Records.{field, set_field, set_record, marks, is_task, is_object, container_byte, spare_byte, lent_bytes}
use Rattle.records.specs.RecordLaws.{field_same, field_else, length_field, Fields, length_record, record_else, record_same}
use Rattle.model.specs.State.{MemoryOf, row_of, lengths_fit, in_use, task, object, level_of, read_level_of, driver_of, marked, has_flow, has_read, has_write}
use Rattle.model.specs.Effects.{Effect, flow, flow_if, read_access, write_access, make_task, make_object, move_to, bridge, clear, mark_outside, mark_thing, object_of, feeder, fed_by, with_bytes, effect, effects}
use Rattle.model.proofs.MarkLaws.{where_words, where_length, where_field, where_marks, marked_where}

-- ---- what an effect has to fit

-- the memory's lengths are right
pub record Long {size : Size} (m : MemoryOf size) : Type 0 where
  pub bytes_long : length m.bytes ≡ lent_bytes size
  pub words_long : length m.words ≡ lent_words size

pub fit_long : {size : Size} (m : MemoryOf size) → lengths_fit m ≡ true → Long m
unfolding lengths_fit
fit_long m h = let p = simp and-eq-true_iff at h in record { bytes_long = eqb-true _ _ p.0; words_long = eqb-true _ _ p.1 }

pub long_fits : {size : Size} {m : MemoryOf size} → Long m → lengths_fit m ≡ true
unfolding lengths_fit
long_fits l = and_i (eq-eqb _ _ l.bytes_long) (eq-eqb _ _ l.words_long)

-- the numbers whose record, row or column it writes are fit
abbrev pub Fits : Size → Effect → Type 0
Fits size (flow x y) = (x < numbers_of size) × (y < numbers_of size)
Fits size (flow_if b x y) = (x < numbers_of size) × (y < numbers_of size)
Fits size (read_access e x) = (e < numbers_of size) × (x < numbers_of size)
Fits size (write_access e x) = (e < numbers_of size) × (x < numbers_of size)
Fits size (make_task n l r) = n < numbers_of size
Fits size (make_object n l d c b) = n < numbers_of size
Fits size (move_to x c) = x < numbers_of size
Fits size (bridge x) = Unit {0}
Fits size (clear x) = x < numbers_of size
Fits size (mark_outside e) = e < numbers_of size
Fits size (mark_thing x) = x < numbers_of size

-- ---- lengths

pub effect_bytes : {size : Size} (e : Effect) (m : MemoryOf size) → length (effect e m).bytes ≡ length m.bytes
unfolding effect
effect_bytes (flow x y) m = refl
effect_bytes (flow_if b x y) m = refl
effect_bytes (read_access e x) m = refl
effect_bytes (write_access e x) m = refl
effect_bytes (make_task n l r) m = length_record m.bytes n _ _ _ _ _ _ _
effect_bytes (make_object n l d p b) m = length_record m.bytes n _ _ _ _ _ _ _
effect_bytes (move_to x c) m = length_field m.bytes x _ _
effect_bytes (bridge x) m = refl
effect_bytes (clear x) m = length_record m.bytes x _ _ _ _ _ _ _
effect_bytes (mark_outside e) m = where_length _ _ ∙ length_field m.bytes e _ _
effect_bytes (mark_thing x) m = where_length _ _

pub effect_words : {size : Size} (e : Effect) (m : MemoryOf size) → length (effect e m).words ≡ length m.words
unfolding effect
effect_words (flow x y) m = length_add _ _ _ _
effect_words (flow_if true x y) m = length_add _ _ _ _
effect_words (flow_if false x y) m = refl
effect_words (read_access e x) m = length_add _ _ _ _
effect_words (write_access e x) m = length_add _ _ _ _
effect_words (make_task n l r) m = refl
effect_words (make_object n l d c b) m = refl
effect_words (move_to x c) m = refl
effect_words {size} (bridge x) m = length_bridged (row_size_of size) (numbers_of size) (feeder m x) (fed_by m x) m.words
effect_words {size} (clear x) m = length_clear (row_size_of size) (numbers_of size) tables x m.words
effect_words (mark_outside e) m = ap length (where_words _ _)
effect_words (mark_thing x) m = ap length (where_words _ _)

pub effect_long : {size : Size} (e : Effect) {m : MemoryOf size} → Long m → Long (effect e m)
effect_long e {m} l = record { bytes_long = effect_bytes e m ∙ l.bytes_long; words_long = effect_words e m ∙ l.words_long }

pub effects_long : {size : Size} (es : List Effect) {m : MemoryOf size} → Long m → Long (effects es m)
unfolding effects
effects_long [] l = l
effects_long (e ∷ es) l = effects_long es (effect_long e l)

-- ---- flows and accesses: table 0, 1 and 2

-- column v of row u of table i, from what it was
abbrev pub cell_after : {size : Size} → MemoryOf size → ℕ → ℕ → ℕ → Effect → Bool → Bool
cell_after m i u v (flow x y) b = cond (eqb i 0) (b || (eqb u x && eqb v y)) b
cell_after m i u v (flow_if c x y) b = cond (eqb i 0) (b || (c && (eqb u x && eqb v y))) b
cell_after m i u v (read_access e x) b = cond (eqb i 1) (b || (eqb u e && eqb v x)) b
cell_after m i u v (write_access e x) b = cond (eqb i 2) (b || (eqb u e && eqb v x)) b
cell_after m i u v (make_task n l r) b = b
cell_after m i u v (make_object n l d c w) b = b
cell_after m i u v (move_to x c) b = b
cell_after m i u v (bridge x) b = cond (eqb i 0) (b || (feeder m x u && (fed_by m x v && not (eqb v u)))) b
cell_after m i u v (clear x) b = b && not (eqb u x) && not (eqb v x)
cell_after m i u v (mark_outside e) b = b
cell_after m i u v (mark_thing x) b = b

table_add : (size : Size) (ws : List ℕ) (i j x y u v : ℕ) → length ws ≡ lent_words size → j < tables → x < numbers_of size → y < numbers_of size → u < numbers_of size → v < numbers_of size
    → cell (row_size_of size) (add_cell (row_size_of size) ws (row_of size j x) y) (row_of size i u) v
    ≡ cond (eqb i j) (cell (row_size_of size) ws (row_of size i u) v || (eqb u x && eqb v y)) (cell (row_size_of size) ws (row_of size i u) v)
table_add size ws i j x y u v l lj lx ly lu lv =
    cell_add (row_size_of size) ws (row_of size j x) y (row_of size i u) v (rw l (place_below (row_size_of size) (numbers_of size) tables j x y lj lx ly)) ly lv
    ∙ ap (λ (b : Bool). cell (row_size_of size) ws (row_of size i u) v || (b && eqb v y)) (same_place (numbers_of size) j x i u lx lu)
    ∙ go (eqb i j) (cell (row_size_of size) ws (row_of size i u) v)
  where
    go : (s b : Bool) → (b || ((s && eqb u x) && eqb v y)) ≡ cond s (b || (eqb u x && eqb v y)) b
    go true b = refl
    go false true = refl
    go false false = refl

-- the flows are the first table
first_row : (size : Size) (x : ℕ) → row_of size 0 x ≡ x
first_row size x = omega arith

flow_add : {size : Size} (m : MemoryOf size) (i x y u v : ℕ) → Long m → (x < numbers_of size) × (y < numbers_of size) → u < numbers_of size → v < numbers_of size
    → cell (row_size_of size) (add_cell (row_size_of size) m.words x y) (row_of size i u) v
    ≡ cond (eqb i 0) (cell (row_size_of size) m.words (row_of size i u) v || (eqb u x && eqb v y)) (cell (row_size_of size) m.words (row_of size i u) v)
flow_add {size} m i x y u v l f lu lv =
    ap (λ (r : ℕ). cell (row_size_of size) (add_cell (row_size_of size) m.words r y) (row_of size i u) v) (sym (first_row size x))
    ∙ table_add size m.words i 0 x y u v l.words_long (omega arith) f.0 f.1 lu lv

table_after : {size : Size} (i : ℕ) (e : Effect) (m : MemoryOf size) → i < tables → Long m → Fits size e → (u v : ℕ) → u < numbers_of size → v < numbers_of size
    → cell (row_size_of size) (effect e m).words (row_of size i u) v ≡ cell_after m i u v e (cell (row_size_of size) m.words (row_of size i u) v)
unfolding effect
table_after i (flow x y) m li l f u v lu lv = flow_add m i x y u v l f lu lv
table_after i (flow_if true x y) m li l f u v lu lv = flow_add m i x y u v l f lu lv
table_after {size} i (flow_if false x y) m li l f u v lu lv = no_flow (eqb i 0) (cell (row_size_of size) m.words (row_of size i u) v)
  where
    no_flow : (c b : Bool) → b ≡ cond c (b || false) b
    no_flow true b = sym (or_false b)
    no_flow false b = refl
table_after {size} i (read_access e x) m li l f u v lu lv = table_add size m.words i 1 e x u v l.words_long (omega arith) f.0 f.1 lu lv
table_after {size} i (write_access e x) m li l f u v lu lv = table_add size m.words i 2 e x u v l.words_long (omega arith) f.0 f.1 lu lv
table_after i (make_task n l r) m li h f u v lu lv = refl
table_after i (make_object n l d c b) m li h f u v lu lv = refl
table_after i (move_to x c) m li l f u v lu lv = refl
table_after {size} i (bridge x) m li l f u v lu lv =
    cell_bridged (row_size_of size) (numbers_of size) (feeder m x) (fed_by m x) m.words (row_of size i u) v (rw l.words_long (omega arith)) lv ∙ go i
  where
    pair : ℕ → Bool
    pair p = feeder m x p && (fed_by m x v && not (eqb v p))

    go : (i : ℕ) → (cell (row_size_of size) m.words (row_of size i u) v || (ltb (row_of size i u) (numbers_of size) && pair (row_of size i u)))
        ≡ cond (eqb i 0) (cell (row_size_of size) m.words (row_of size i u) v || pair u) (cell (row_size_of size) m.words (row_of size i u) v)
    go zero = rw (first_row size u, lt-ltb u (numbers_of size) lu)
    go (suc i) = rw (ne_eqb (suc i) 0 (omega arith), le-ltb (row_of size (suc i) u) (numbers_of size) (omega arith)) (or_false (cell (row_size_of size) m.words (row_of size (suc i) u) v))
table_after {size} i (clear x) m li l f u v lu lv = cell_clear (row_size_of size) (numbers_of size) tables x m.words i u v li lu lv f f
table_after i (mark_outside e) m li l f u v lu lv = rw where_words
table_after i (mark_thing x) m li l f u v lu lv = rw where_words

module _ {size : Size} (u v : ℕ) (lu : u < numbers_of size) (lv : v < numbers_of size) where
  pub flow_after : (e : Effect) (m : MemoryOf size) → Long m → Fits size e → has_flow (effect e m) u v ≡ cell_after m 0 u v e (has_flow m u v)
  unfolding has_flow
  flow_after e m l f = rw (first_row size u) at (table_after 0 e m (omega arith) l f u v lu lv)

  pub read_after : (e : Effect) (m : MemoryOf size) → Long m → Fits size e → has_read (effect e m) u v ≡ cell_after m 1 u v e (has_read m u v)
  unfolding has_read
  read_after e m l f = table_after 1 e m (omega arith) l f u v lu lv

  pub write_after : (e : Effect) (m : MemoryOf size) → Long m → Fits size e → has_write (effect e m) u v ≡ cell_after m 2 u v e (has_write m u v)
  unfolding has_write
  write_after e m l f = table_after 2 e m (omega arith) l f u v lu lv

-- ---- the bytes of a record, but for the marks that marking changes

-- what a test t says of byte f of the record of x, from what it said before
abbrev pub byte_after : {A : Type 0} → Size → (ℕ → A) → ℕ → ℕ → Effect → A → A
byte_after size t x f (flow y z) b = b
byte_after size t x f (flow_if c y z) b = b
byte_after size t x f (read_access e y) b = b
byte_after size t x f (write_access e y) b = b
byte_after size t x f (make_task n l r) b = cond (eqb x n) (t (get_or (1 ∷ l ∷ r ∷ 0 ∷ 0 ∷ 0 ∷ 0 ∷ 0 ∷ []) f 0)) b
byte_after size t x f (make_object n l d p w) b = cond (eqb x n) (t (get_or (2 ∷ l ∷ 0 ∷ d ∷ container_byte p size ∷ one w ∷ spare_byte p size ∷ 0 ∷ []) f 0)) b
byte_after size t x f (move_to y c) b = cond (eqb f 4 && eqb x y) (t c) b
byte_after size t x f (bridge y) b = b
byte_after size t x f (clear y) b = cond (eqb x y) (t 0) b
byte_after size t x f (mark_outside e) b = b
byte_after size t x f (mark_thing y) b = b

-- the byte is not the marks, or the effect marks nothing
abbrev pub Apart : ℕ → Effect → Type 0
Apart f (flow y z) = Unit {0}
Apart f (flow_if c y z) = Unit {0}
Apart f (read_access e y) = Unit {0}
Apart f (write_access e y) = Unit {0}
Apart f (make_task n l r) = Unit {0}
Apart f (make_object n l d c w) = Unit {0}
Apart f (move_to y c) = Unit {0}
Apart f (bridge y) = Unit {0}
Apart f (clear y) = Unit {0}
Apart f (mark_outside e) = f ≡ 5 → ⊥
Apart f (mark_thing y) = f ≡ 5 → ⊥

pub field_set : (size : Size) (bs : List ℕ) (y g v x f : ℕ) → length bs ≡ lent_bytes size → y < numbers_of size → g < 8 → f < 8
    → field (set_field bs y g v) x f ≡ cond (eqb f g && eqb x y) v (field bs x f)
field_set size bs y g v x f l ly lg lf = go (either (eqb f g)) (either (eqb x y))
  where
    go : (eqb f g ≡ true) ⊎ (eqb f g ≡ false) → (eqb x y ≡ true) ⊎ (eqb x y ≡ false) → field (set_field bs y g v) x f ≡ cond (eqb f g && eqb x y) v (field bs x f)
    go (inl e) (inl d) = rw (e, d, eqb-true f g e, eqb-true x y d) (field_same bs y g v (omega arith))
    go (inl e) (inr d) = rw (e, d) (field_else bs y g v x f lg lf (inl (eqb-false x y d)))
    go (inr e) d = rw e (field_else bs y g v x f lg lf (inr (eqb-false f g e)))

cond_ap : {A : Type 0} (t : ℕ → A) (b : Bool) (u v : ℕ) → t (cond b u v) ≡ cond b (t u) (t v)
cond_ap t true u v = refl
cond_ap t false u v = refl

field_record : (size : Size) (bs : List ℕ) (n k l r d c w s x f : ℕ) → length bs ≡ lent_bytes size → n < numbers_of size → f < 8
    → field (set_record bs n k l r d c w s) x f ≡ cond (eqb x n) (get_or (k ∷ l ∷ r ∷ d ∷ c ∷ w ∷ s ∷ 0 ∷ []) f 0) (field bs x f)
field_record size bs n k l r d c w s x f len ln lf =
    ⊎_elim (λ (e : eqb x n ≡ true). rw (e, eqb-true x n e) (at f lf)) (λ (e : eqb x n ≡ false). rw e (record_else bs n k l r d c w s x f (eqb-false x n e) lf)) (either (eqb x n))
  where
    new : Fields (set_record bs n k l r d c w s) n k l r d c w s
    new = record_same bs n k l r d c w s size len ln

    at : (f : ℕ) → f < 8 → field (set_record bs n k l r d c w s) n f ≡ get_or (k ∷ l ∷ r ∷ d ∷ c ∷ w ∷ s ∷ 0 ∷ []) f 0
    at zero h = new.kind_is
    at (suc zero) h = new.level_is
    at (suc (suc zero)) h = new.read_is
    at (suc (suc (suc zero))) h = new.driver_is
    at (suc (suc (suc (suc zero)))) h = new.container_is
    at (suc (suc (suc (suc (suc zero))))) h = new.marks_are
    at (suc (suc (suc (suc (suc (suc zero)))))) h = new.first_is
    at (suc (suc (suc (suc (suc (suc (suc zero))))))) h = new.last_is
    at (suc (suc (suc (suc (suc (suc (suc (suc f)))))))) h = absurd (omega arith)

record_test : (size : Size) {A : Type 0} (t : ℕ → A) (bs : List ℕ) (n k l r d c w s x f : ℕ) → length bs ≡ lent_bytes size → n < numbers_of size → f < 8
    → t (field (set_record bs n k l r d c w s) x f) ≡ cond (eqb x n) (t (get_or (k ∷ l ∷ r ∷ d ∷ c ∷ w ∷ s ∷ 0 ∷ []) f 0)) (t (field bs x f))
record_test size t bs n k l r d c w s x f len ln lf =
    ap t (field_record size bs n k l r d c w s x f len ln lf) ∙ cond_ap t (eqb x n) (get_or (k ∷ l ∷ r ∷ d ∷ c ∷ w ∷ s ∷ 0 ∷ []) f 0) (field bs x f)

pub byte_after_law : {size : Size} {A : Type 0} (t : ℕ → A) (x f : ℕ) → f < 8 → (e : Effect) (m : MemoryOf size) → Long m → Fits size e → Apart f e
    → t (field (effect e m).bytes x f) ≡ byte_after size t x f e (t (field m.bytes x f))
unfolding effect
byte_after_law t x f lf (flow y z) m l h a = refl
byte_after_law t x f lf (flow_if c y z) m l h a = refl
byte_after_law t x f lf (read_access e y) m l h a = refl
byte_after_law t x f lf (write_access e y) m l h a = refl
byte_after_law {size} t x f lf (make_task n k r) m l h a = record_test size t m.bytes n _ _ _ _ _ _ _ x f l.bytes_long h lf
byte_after_law {size} t x f lf (make_object n k d p w) m l h a = record_test size t m.bytes n _ _ _ _ _ _ _ x f l.bytes_long h lf
byte_after_law {size} t x f lf (move_to y c) m l h a = ap t (field_set size m.bytes y 4 c x f l.bytes_long h (omega arith) lf) ∙ cond_ap t (eqb f 4 && eqb x y) c (field m.bytes x f)
byte_after_law t x f lf (bridge y) m l h a = refl
byte_after_law {size} t x f lf (clear y) m l h a =
    record_test size t m.bytes y _ _ _ _ _ _ _ x f l.bytes_long h lf
    ∙ ap (λ (b : ℕ). cond (eqb x y) (t b) (t (field m.bytes x f))) (get_or-replicate 8 f 0 0 lf)
byte_after_law {size} t x f lf (mark_outside e) m l h a =
    ap t (where_field _ _ x f lf a ∙ field_set size m.bytes e 5 3 x f l.bytes_long h (omega arith) lf ∙ rw (ne_eqb f 5 a))
byte_after_law t x f lf (mark_thing y) m l h a = ap t (where_field _ _ x f lf a)

apart : (f : ℕ) → (f ≡ 5 → ⊥) → (e : Effect) → Apart f e
apart f n (flow y z) = tt
apart f n (flow_if c y z) = tt
apart f n (read_access e y) = tt
apart f n (write_access e y) = tt
apart f n (make_task k l r) = tt
apart f n (make_object k l d c w) = tt
apart f n (move_to y c) = tt
apart f n (bridge y) = tt
apart f n (clear y) = tt
apart f n (mark_outside e) = n
apart f n (mark_thing y) = n

-- whether x is marked, after an effect that marks nothing
abbrev pub marked_after : ℕ → Effect → Bool → Bool
marked_after x (flow y z) b = b
marked_after x (flow_if c y z) b = b
marked_after x (read_access e y) b = b
marked_after x (write_access e y) b = b
marked_after x (make_task n l r) b = cond (eqb x n) false b
marked_after x (make_object n l d c w) b = cond (eqb x n) w b
marked_after x (move_to y c) b = b
marked_after x (bridge y) b = b
marked_after x (clear y) b = cond (eqb x y) false b
marked_after x (mark_outside e) b = b
marked_after x (mark_thing y) b = b

same_marked : (size : Size) (x : ℕ) (e : Effect) (b : Bool) → byte_after size (λ k. not (eqb k 0)) x 5 e b ≡ marked_after x e b
same_marked size x (flow y z) b = refl
same_marked size x (flow_if c y z) b = refl
same_marked size x (read_access e y) b = refl
same_marked size x (write_access e y) b = refl
same_marked size x (make_task n l r) b = refl
same_marked size x (make_object n l d c true) b = refl
same_marked size x (make_object n l d c false) b = refl
same_marked size x (move_to y c) b = refl
same_marked size x (bridge y) b = refl
same_marked size x (clear y) b = refl
same_marked size x (mark_outside e) b = refl
same_marked size x (mark_thing y) b = refl

module _ {size : Size} (x : ℕ) where
  see : {A : Type 0} (t : ℕ → A) (f : ℕ) → f < 8 → (f ≡ 5 → ⊥) → (e : Effect) (m : MemoryOf size) → Long m → Fits size e
      → t (field (effect e m).bytes x f) ≡ byte_after size t x f e (t (field m.bytes x f))
  see t f lf n e m l h = byte_after_law t x f lf e m l h (apart f n e)

  pub in_use_after : (e : Effect) (m : MemoryOf size) → Long m → Fits size e → in_use (effect e m) x ≡ byte_after size (λ k. not (eqb k 0)) x 0 e (in_use m x)
  unfolding in_use
  in_use_after = see (λ k. not (eqb k 0)) 0 (omega arith) (omega arith)

  pub task_after : (e : Effect) (m : MemoryOf size) → Long m → Fits size e → task (effect e m) x ≡ byte_after size (λ k. eqb k 1) x 0 e (task m x)
  unfolding task is_task
  task_after = see (λ k. eqb k 1) 0 (omega arith) (omega arith)

  pub object_after : (e : Effect) (m : MemoryOf size) → Long m → Fits size e → object (effect e m) x ≡ byte_after size (λ k. eqb k 2) x 0 e (object m x)
  unfolding object is_object
  object_after = see (λ k. eqb k 2) 0 (omega arith) (omega arith)

  pub level_after : (e : Effect) (m : MemoryOf size) → Long m → Fits size e → level_of (effect e m) x ≡ byte_after size (λ k. k) x 1 e (level_of m x)
  level_after = see (λ k. k) 1 (omega arith) (omega arith)

  pub read_level_after : (e : Effect) (m : MemoryOf size) → Long m → Fits size e → read_level_of (effect e m) x ≡ byte_after size (λ k. k) x 2 e (read_level_of m x)
  read_level_after = see (λ k. k) 2 (omega arith) (omega arith)

  pub driver_after : (e : Effect) (m : MemoryOf size) → Long m → Fits size e → driver_of (effect e m) x ≡ byte_after size (λ k. k) x 3 e (driver_of m x)
  driver_after = see (λ k. k) 3 (omega arith) (omega arith)

  pub marks_after : (e : Effect) (m : MemoryOf size) → Long m → Fits size e × Apart 5 e → marks (effect e m).bytes x ≡ byte_after size (λ k. k) x 5 e (marks m.bytes x)
  marks_after e m l h = byte_after_law (λ k. k) x 5 (omega arith) e m l h.0 h.1

  pub marked_after_law : (e : Effect) (m : MemoryOf size) → Long m → Fits size e × Apart 5 e → marked (effect e m) x ≡ marked_after x e (marked m x)
  unfolding marked
  marked_after_law e m l h = byte_after_law (λ k. not (eqb k 0)) x 5 (omega arith) e m l h.0 h.1 ∙ same_marked size x e (marked m x)

  -- after the two that mark
  module _ (m : MemoryOf size) (l : Long m) (lx : x < numbers_of size) where
    -- the store of 3, before the task's objects are marked
    stored : (e : ℕ) → e < numbers_of size → field (set_field m.bytes e 5 3) x 5 ≡ cond (eqb x e) 3 (marks m.bytes x)
    stored e le = field_set size m.bytes e 5 3 x 5 l.bytes_long le (omega arith) (omega arith)

    stored_marked : (e : ℕ) → e < numbers_of size → marked (with_bytes m (set_field m.bytes e 5 3)) x ≡ cond (eqb x e) true (marked m x)
    unfolding marked
    stored_marked e le = ap (λ (k : ℕ). not (eqb k 0)) (stored e le) ∙ cond_ap (λ k. not (eqb k 0)) (eqb x e) 3 (marks m.bytes x)

    pub outside_marks : (e : ℕ) → e < numbers_of size → marks (effect (mark_outside e) m).bytes x ≡ cond (eqb x e) 3 (cond (object_of m e x && not (marked m x)) 1 (marks m.bytes x))
    unfolding effect
    outside_marks e le =
        where_marks _ _ x lx (length_field m.bytes e 5 3 ∙ l.bytes_long)
        ∙ ap₂ (λ (b : Bool) (k : ℕ). cond (object_of m e x && not b) 1 k) (stored_marked e le) (stored e le)
        ∙ go (eqb x e) (object_of m e x)
      where
        go : (a p : Bool) → cond (p && not (cond a true (marked m x))) 1 (cond a 3 (marks m.bytes x)) ≡ cond a 3 (cond (p && not (marked m x)) 1 (marks m.bytes x))
        go true true = refl
        go true false = refl
        go false p = refl

    pub outside_marked : (e : ℕ) → e < numbers_of size → marked (effect (mark_outside e) m) x ≡ (marked m x || (eqb x e || object_of m e x))
    unfolding effect
    outside_marked e le =
        marked_where _ _ x lx (length_field m.bytes e 5 3 ∙ l.bytes_long) ∙ ap (λ (b : Bool). b || object_of m e x) (stored_marked e le) ∙ go (eqb x e)
      where
        go : (a : Bool) → (cond a true (marked m x) || object_of m e x) ≡ (marked m x || (a || object_of m e x))
        go true = sym (or_true (marked m x))
        go false = refl

    pub thing_marks : (y : ℕ) → marks (effect (mark_thing y) m).bytes x ≡ cond ((eqb x y || (task m y && object_of m y x)) && not (marked m x)) 1 (marks m.bytes x)
    unfolding effect
    thing_marks y = where_marks _ m x lx l.bytes_long

    pub thing_marked : (y : ℕ) → marked (effect (mark_thing y) m) x ≡ (marked m x || (eqb x y || (task m y && object_of m y x)))
    unfolding effect
    thing_marked y = marked_where _ m x lx l.bytes_long
