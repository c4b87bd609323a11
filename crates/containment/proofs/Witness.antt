-- For each size a memory that no list leaves, on which a spread is granted and marks the core.
-- Assumes nothing.
use Rattle.std.specs.Prelude.{◌≡◌, false, List, ℕ, zero, suc, ◌<◌, replicate}
use Rattle.std.proofs.Math.Path.{refl}
use Rattle.std.proofs.Common.{subst, ◌∙◌, inl, inr, arith}
use Rattle.std.proofs.Math.Bool.{true}
use Rattle.std.proofs.lemmas.Bool.{false≢true}
use Rattle.std.proofs.Math.Logic.{⊎_elim}
use Rattle.std.proofs.Math.ListN.{length-replicate}
use Rattle.bits.specs.Bit.{bit}
use Rattle.bits.specs.All.{all_b}
use Rattle.bits.specs.AllLaws.{either}
use Rattle.rows.specs.Rows.{cell, add_cell}
use Rattle.rows.proofs.RowLaws.{length_add, some_number}
use Rattle.rows.specs.Size.{Size, small, large, row_size_of, numbers_of}
use Rattle.levels.specs.declared.Order.{Order}
use Rattle.levels.specs.Order.{at_or_below, order_passes, count_fits, reflexive, transitive, antisymmetric, below_top, clear_outside}
use Rattle.levels.specs.OrderLaws.{is_order}
use Rattle.records.specs.Records.{record_size, marks, field, set_field, set_record, sound_of, lent_bytes}
use Rattle.records.specs.RecordLaws.{Fields, long, core_top, field_else, record_else, record_same}
use Rattle.records.proofs.KeepLaws.{field_zero, sound_start, task_made, mark_kept}
use Rattle.model.specs.declared.Call.TheVariants.{Spread}
use Rattle.model.specs.Verdicts.{granted}
use Rattle.model.specs.State.{MemoryOf, flow_row, lengths_fit, in_use, level_of, marked, has_flow}
use Rattle.model.proofs.EffectLaws.{long_fits}
use Rattle.model.specs.Spread.{marks_some, spread}
use Rattle.model.specs.Monitor.{perform, fitted, refused_unless, started}
use Rattle.model.proofs.SpreadLaws.{Sized, rest_closed}
use Rattle.model.specs.Trials.{order_of, Q}
use Rattle.containment.specs.Lists.{StandingOf}
use Rattle.containment.specs.Claims.{Covered}
use Rattle.containment.proofs.Tables.{flows}
use Rattle.containment.proofs.Invariant.{standing, Invariant}

order_passes_law : order_passes Q ≡ true
unfolding all_b Q order_of order_passes count_fits reflexive transitive antisymmetric below_top clear_outside at_or_below bit
order_passes_law = refl

module _ (size : Size) where
  abbrev fresh : MemoryOf size
  fresh = started Q

  -- after a start under Q: task 1 at level 0, marked from outside, and a flow from it up to the core
  unfoldable pub upward : MemoryOf size
  upward = record { bytes = set_field (set_record fresh.bytes 1 1 0 0 0 0 0 0) 1 5 3; words = add_cell (row_size_of size) fresh.words (flow_row 1) 0 }

  -- 1 is one of the numbers
  second : 1 < numbers_of size
  second = omega (arith, some_number size)

  -- a start leaves zeros, but for the core
  zero_else : (t f : ℕ) → (t ≡ 0 → ⊥) → f < record_size → field fresh.bytes t f ≡ 0
  unfolding started
  zero_else t f n l = record_else (replicate (lent_bytes size) 0) 0 1 Q.top Q.top 0 0 0 0 t f n l ∙ field_zero (lent_bytes size) t f

  unmarked_else : (t : ℕ) → (t ≡ 0 → ⊥) → (t ≡ 1 → ⊥) → marks upward.bytes t ≡ 0
  unfolding upward
  unmarked_else t a b =
      field_else (set_record fresh.bytes 1 1 0 0 0 0 0 0) 1 5 3 t 5 (omega arith) (omega arith) (inl b)
      ∙ record_else fresh.bytes 1 1 0 0 0 0 0 0 t 5 b (omega arith)
      ∙ zero_else t 5 a (omega arith)

  upward_sound : sound_of size Q upward.bytes ≡ true
  unfolding upward started Q order_of
  upward_sound =
      mark_kept size Q _ (task_made size Q _ ok 1 0 0 second (zero_else 1 0 (omega arith) (omega arith)) (omega arith) (omega arith)) 1 3 (omega (arith, made.kind_is)) (inr (refl, made.kind_is))
    where
      ok : sound_of size Q fresh.bytes ≡ true
      ok = sound_start size Q (lent_bytes size) refl (omega arith)

      made : Fields (set_record fresh.bytes 1 1 0 0 0 0 0 0) 1 1 0 0 0 0 0 0
      made = record_same fresh.bytes 1 1 0 0 0 0 0 0 size (long size Q _ ok) second

  sized : Sized upward
  sized = long size Q upward.bytes upward_sound

  upward_fits : lengths_fit upward ≡ true
  unfolding upward started
  upward_fits = long_fits (record { bytes_long = sized; words_long = length_add _ _ _ _ ∙ length-replicate {A = ℕ} _ 0 })

  pub upward_granted : (perform Q upward Spread).verdict ≡ granted
  unfolding fitted refused_unless spread
  upward_granted = rw (upward_fits, upward_sound, order_passes_law)

-- what stands in it, computed for each size
record Facts (size : Size) : Type 0 where
  pub task_marked : marked (upward size) 1 ≡ true
  pub core_unmarked : marks (upward size).bytes 0 ≡ 0
  pub core_used : in_use (upward size) 0 ≡ true
  pub core_level : level_of (upward size) 0 ≡ 3
  pub task_level : level_of (upward size) 1 ≡ 0
  pub flow_up : has_flow (upward size) 1 0 ≡ true

facts : (size : Size) → Facts size
unfolding upward order_of Q started field set_field set_record bit cell add_cell in_use marked has_flow
facts small = record { task_marked = refl; core_unmarked = refl; core_used = refl; core_level = refl; task_level = refl; flow_up = refl }
facts large = record { task_marked = refl; core_unmarked = refl; core_used = refl; core_level = refl; task_level = refl; flow_up = refl }

-- at rest, the flow would have marked the core
pub upward_marks : (size : Size) → marks_some (upward size) ≡ true
unfolding marked
upward_marks size = ⊎_elim (λ h. h) (λ h. absurd (false≢true (rw (facts size).core_unmarked at (fed h)))) (either (marks_some (upward size)))
  where
    fed : marks_some (upward size) ≡ false → marked (upward size) 0 ≡ true
    fed h = (rest_closed (upward size) (sized size) h).by_flow_law 1 0 (facts size).task_marked (some_number size) (facts size).core_used (facts size).flow_up

-- what is marked from outside is at level 0
outside_low : (size : Size) (t : ℕ) → marks (upward size).bytes t ≡ 3 → level_of (upward size) t ≡ 0
outside_low size zero h = absurd (omega (arith, (facts size).core_unmarked))
outside_low size (suc zero) h = (facts size).task_level
outside_low size (suc (suc t)) h = absurd (omega (arith, unmarked_else size (suc (suc t)) (omega arith) (omega arith)))

-- the flow goes up, and nothing that is marked from outside covers its end
module _ (size : Size) (o : Order) (ts : List ℕ) (i : Invariant (standing o (upward size) ts)) where
  abbrev m : MemoryOf size
  m = upward size

  -- the core is at the top, whatever the order
  not_above : (l : ℕ) → l ≡ 0 → at_or_below o (level_of m 0) l ≡ true → ⊥
  not_above l e h =
      let q = is_order o i.passes in
      let z = q.anti (level_of m 0) 0 (rw e at h) (rw (core_top size o m.bytes i.is_sound) (q.upper 0 q.some)) in
      omega (arith, (facts size).core_level)

  not_covered : Covered (standing o m ts) (level_of m 0) → ⊥
  not_covered c = not_above (level_of m c.0) (outside_low size c.0 (i.limits.named c.0 c.1).1) c.3

  not_kept : ⊥
  unfolding has_flow
  not_kept =
      ⊎_elim (not_above (level_of m 1) (facts size).task_level) not_covered (i.limits.recorded flows 1 0 (second size) (some_number size) (facts size).flow_up).2

pub none_leaves : {size : Size} (s : StandingOf size) → Invariant s → s.memory ≡ upward size → ⊥
none_leaves {size} s i e = not_kept size s.order s.outside (subst (λ (m : MemoryOf size). Invariant (standing s.order m s.outside)) e i)
