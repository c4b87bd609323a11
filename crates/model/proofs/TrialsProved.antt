-- The trials hold: one computation over the table, and the law that turns equal words into equal flows.
-- Assumes nothing.
use Rattle.std.specs.Prelude.{◌≡◌, refl, Bool, true, false, ◌&&◌, ◌||◌, List, [], ◌∷◌, ℕ, zero, suc, ◌*◌, ◌+◌, ◌/◌, ◌%◌, ◌<◌, eqb, ltb, get_or, length, replicate}
use Rattle.std.proofs.Common.{ap, ◌∙◌, not-suc-le-zero, le_of_suc-le-suc, arith, eqb-true, ltb-true}
use Rattle.std.proofs.lemmas.Bool.{false≢true}
use Rattle.std.proofs.lemmas.List.{length-replicate}
use Rattle.bits.specs.All.{all_b, any_b, up_to}
use Rattle.bits.specs.AllLaws.{and_l, and_r}
use Rattle.bits.specs.Bit.{bit, word_of}
use Rattle.rows.specs.Rows.{cell, add_cell, cut_cell, clear_row, clear_column, clear_thing, join_row, bridged}
use Rattle.rows.proofs.RowLaws.{cell_add, cell_zeros, length_add}
use Rattle.rows.specs.Size.{row_size, numbers}
use Rattle.levels.specs.Order.{at_or_below, order_passes, count_fits, reflexive, transitive, antisymmetric, below_top, clear_outside}
use Rattle.records.specs.Records.{field, set_field, set_record, is_task, is_object, lies_within, free_record, task_record, object_record_of, sound_record_of, core_record, sound_of}
use Rattle.model.specs.State.{lengths_fit, in_use, task, object, marked, has_flow, has_write}
use Rattle.model.specs.Effects.{object_of, mark_one, mark_where, feeder, fed_by, effect, effects}
use Rattle.model.specs.Events.{Outcome, unless, first_failing, verdict_of, outcome, feeds_unmarked, read, move, delete, invoke, fed}
use Rattle.model.specs.Monitor.{perform, fitted, refused_unless, refusal, start, started}
use Rattle.model.specs.MoveTrials.{holding, drawers, moves}
use Rattle.model.specs.DeleteTrials.{filed, recording, shelf, deleted_by, Bridges, Feeding, leads, TrailKept, scratch, filling, FilledFirst, with_file, deletions}
use Rattle.model.specs.Inside.{walk, inside}
use Rattle.model.specs.Trials.{Pair, Trial, Holds, AllHold, listed, order_of, Q, fresh, three_things, two_tasks, trials}

-- the words that hold the listed flows alone
flow_words : List Pair → List ℕ
flow_words [] = replicate (row_size * numbers) 0
flow_words (p ∷ ps) = add_cell row_size (flow_words ps) p.source p.end

named : List Pair → Bool
named [] = true
named (p ∷ ps) = ltb p.source numbers && ltb p.end numbers && named ps

flow_length : (ps : List Pair) → length (flow_words ps) ≡ row_size * numbers
unfolding flow_words
flow_length [] = length-replicate {A = ℕ} (row_size * numbers) 0
flow_length (p ∷ ps) = length_add row_size (flow_words ps) p.source p.end ∙ flow_length ps

flow_cell : (ps : List Pair) → named ps ≡ true → (x y : ℕ) → y < numbers → cell row_size (flow_words ps) x y ≡ listed ps x y
unfolding flow_words listed named
flow_cell [] h x y l = cell_zeros row_size (row_size * numbers) x y
flow_cell (p ∷ ps) h x y l =
    let a = and_l (ltb p.source numbers && ltb p.end numbers) (named ps) h in
    let s : p.source < numbers = ltb-true _ _ (and_l (ltb p.source numbers) (ltb p.end numbers) a) in
    let e : p.end < numbers = ltb-true _ _ (and_r (ltb p.source numbers) (ltb p.end numbers) a) in
    cell_add row_size (flow_words ps) p.source p.end x y (omega (arith, flow_length ps)) (omega arith) (omega arith)
    ∙ ap (λ (b : Bool). b || (eqb x p.source && eqb y p.end)) (flow_cell ps (and_r (ltb p.source numbers && ltb p.end numbers) (named ps) h) x y l)

-- the first k numbers of two lists are equal
equal_up_to : ℕ → List ℕ → List ℕ → Bool
equal_up_to zero xs ys = true
equal_up_to (suc k) [] ys = false
equal_up_to (suc k) (x ∷ xs) [] = false
equal_up_to (suc k) (x ∷ xs) (y ∷ ys) = eqb x y && equal_up_to k xs ys

equal_at : (k : ℕ) (xs ys : List ℕ) → equal_up_to k xs ys ≡ true → (i : ℕ) → i < k → get_or xs i 0 ≡ get_or ys i 0
unfolding equal_up_to
equal_at zero xs ys h i l = absurd (not-suc-le-zero l)
equal_at (suc k) [] ys h i l = absurd (false≢true h)
equal_at (suc k) (x ∷ xs) [] h i l = absurd (false≢true h)
equal_at (suc k) (x ∷ xs) (y ∷ ys) h zero l = eqb-true x y (and_l (eqb x y) (equal_up_to k xs ys) h)
equal_at (suc k) (x ∷ xs) (y ∷ ys) h (suc i) l = equal_at k xs ys (and_r (eqb x y) (equal_up_to k xs ys) h) i (le_of_suc-le-suc l)

-- what is computed of a trial's outcome: its verdict, and the words of the flows
agrees : Outcome → ℕ → List Pair → Bool
agrees out v fs = eqb out.verdict v && (named fs && equal_up_to (row_size * numbers) out.memory.words (flow_words fs))

passes : Trial → Bool
passes t = agrees (perform t.order t.before t.call) t.verdict t.flows

holds : (t : Trial) → passes t ≡ true → Holds t
unfolding passes agrees has_flow cell
holds t h =
    let out : Outcome = perform t.order t.before t.call in
    let equal : Bool = equal_up_to (row_size * numbers) out.memory.words (flow_words t.flows) in
    let p : (named t.flows && equal) ≡ true = and_r (eqb out.verdict t.verdict) (named t.flows && equal) h in
    record {
      gives = eqb-true _ _ (and_l (eqb out.verdict t.verdict) (named t.flows && equal) h);
      records = λ x y lx ly.
          ap (λ (w : ℕ). bit w (y % 64)) (equal_at (row_size * numbers) out.memory.words (flow_words t.flows) (and_r (named t.flows) equal p) (row_size * x + y / 64) (omega arith))
          ∙ flow_cell t.flows (and_l (named t.flows) equal p) x y ly;
    }

all_pass : List Trial → Bool
all_pass [] = true
all_pass (t ∷ ts) = passes t && all_pass ts

all_hold : (ts : List Trial) → all_pass ts ≡ true → AllHold ts
unfolding all_pass
all_hold [] h = tt
all_hold (t ∷ ts) h = (holds t (and_l (passes t) (all_pass ts) h), all_hold ts (and_r (passes t) (all_pass ts) h))

-- the whole table, computed
computed : all_pass trials ≡ true
unfolding all_pass passes agrees equal_up_to named flow_words all_b trials order_of Q fresh three_things two_tasks started fitted refused_unless refusal start lengths_fit sound_of core_record sound_record_of free_record task_record object_record_of is_task is_object field set_field set_record order_passes count_fits reflexive transitive antisymmetric below_top clear_outside at_or_below bit outcome verdict_of first_failing unless read invoke in_use task object marked effects effect add_cell
computed = refl

pub trials_hold : AllHold trials
trials_hold = all_hold trials computed

-- the amended move's
moves_computed : all_pass moves ≡ true
unfolding all_pass passes agrees equal_up_to named flow_words all_b moves drawers holding Q order_of fresh started fitted refused_unless refusal lengths_fit sound_of core_record sound_record_of free_record task_record object_record_of is_task is_object field set_field set_record order_passes count_fits reflexive transitive antisymmetric below_top clear_outside at_or_below bit outcome verdict_of first_failing unless move inside walk lies_within has_write cell task object marked effects effect add_cell
moves_computed = refl

pub moves_hold : AllHold moves
moves_hold = all_hold moves moves_computed

-- the amended delete's
pub bridges : Bridges
unfolding deleted_by delete effects effect bridged join_row clear_thing clear_column clear_row cut_cell any_b up_to shelf filed recording field set_field set_record is_object word_of bit has_flow cell in_use object marked object_of feeder fed_by add_cell
bridges = (refl, refl, refl, refl, refl, refl, refl)

pub feeding : Feeding
unfolding feeds_unmarked any_b up_to shelf filed recording field set_field set_record is_object word_of bit has_flow cell in_use object marked object_of feeder fed_by add_cell
feeding = (refl, refl, refl, refl)

pub trail_kept : TrailKept
unfolding leads fed mark_one mark_where deleted_by delete effects effect bridged join_row clear_thing clear_column clear_row cut_cell any_b up_to shelf filed recording field set_field set_record is_object word_of bit has_flow cell in_use object marked object_of feeder fed_by add_cell
trail_kept = (refl, refl, refl)

pub filled_first : FilledFirst
unfolding scratch filling filed recording Q order_of fresh started is_task is_object field set_field set_record at_or_below bit word_of verdict_of first_failing unless any_b feeds_unmarked delete lies_within has_write has_flow cell in_use task object marked fed_by add_cell
filled_first = refl

deletions_computed : all_pass deletions ≡ true
unfolding all_pass passes agrees equal_up_to named flow_words all_b any_b up_to deletions with_file scratch filed recording Q order_of fresh started fitted refused_unless refusal lengths_fit sound_of core_record sound_record_of free_record task_record object_record_of is_task is_object field set_field set_record order_passes count_fits reflexive transitive antisymmetric below_top clear_outside at_or_below bit word_of outcome verdict_of first_failing unless feeds_unmarked delete lies_within has_write has_flow cell in_use task object marked object_of feeder fed_by effects effect bridged join_row clear_thing clear_column clear_row cut_cell add_cell
deletions_computed = refl

pub deletions_hold : AllHold deletions
deletions_hold = all_hold deletions deletions_computed
