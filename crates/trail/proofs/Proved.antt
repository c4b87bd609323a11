-- The claims about scripts, proved.
-- Assumes nothing.
use Rattle.std.specs.Prelude.{◌≡◌, ◌⊎◌, true, false, cond, Option, Some, None, List, [], ◌∷◌, ◌++◌, ℕ, ◌<◌, eqb, replicate}
use Rattle.std.proofs.Math.Path.{refl}
use Rattle.std.proofs.Common.{sym, ap, ◌∙◌, ⊎_elim, true≢false, append_assoc, append-nil, arith}
use Rattle.std.proofs.Math.Logic.{inl, inr}
use Rattle.std.proofs.lemmas.List.{length-replicate}
use borrow.Author.Tests.{eq-eqb, eqb-true, lt-leb}
use Rattle.bits.specs.WordsLaws.{in_zeros, in_words_law}
use Rattle.bits.specs.AllLaws.{either, not_so, and_i, and-false}
use Rattle.rows.specs.Size.{present, row_size, numbers, lent_words}
use Rattle.rows.proofs.RowLaws.{cell_zeros}
use Rattle.levels.specs.declared.Order.{Order}
use Rattle.levels.specs.Order.{most_levels, count_fits, order_passes}
use Rattle.records.specs.Records.{sound, lent_bytes}
use Rattle.records.specs.RecordLaws.{core_task}
use Rattle.records.proofs.KeepLaws.{field_zero}
use Rattle.model.specs.declared.Call.{Call}
use Rattle.model.specs.declared.Call.TheVariants.{Start}
use Rattle.model.specs.Verdicts.{granted, is_done, row_order}
use Rattle.model.specs.State.{Memory, lengths_fit, marked, has_flow}
use Rattle.model.specs.Events.{Outcome, outcome}
use Rattle.model.specs.Spread.{spread}
use Rattle.model.specs.Monitor.{refusal, refused_unless, fitted, start, perform, marked_words, no_report, report}
use Rattle.model.specs.Tallies.{list_fits}
use Rattle.model.proofs.TableLaws.{Fitted, fitted_done, start_done, by_call, refused_keeps}
use Rattle.script.specs.Script.{no_order, start_word, pieces, is_number, value, same_word, start_of, line_of, read_line, too_many}
use Rattle.script.specs.declared.Command.{Command}
use Rattle.script.specs.declared.Command.TheVariants as command
use Rattle.containment.specs.Lists.{Item, asks, Standing, Role, starting, marking, other, role, entered, next, run, Admitted, Admissible, leaves, begun, by_start}
use Rattle.containment.specs.Claims.{Contained}
use Rattle.containment.proofs.Trails.{entered_memory}
use Rattle.containment.proofs.Proved.{containment, spread_granted}
use Rattle.trail.specs.Lines.{answered, asked, started_with, done_by, line_done}
use Rattle.trail.specs.Marked.{is_marked, marked_line}
use Rattle.trail.proofs.MarkedLaws.{listed_alike}
use Rattle.trail.specs.Script.{Progress, lines, zeros, nothing_read, after_line, after_lines, with_marked, at_end, output}
use Rattle.model.proofs.TallyLaws.{zeroed_fits, call_out, call_left_fits, start_counted}
use Rattle.trail.specs.Feeding.{nothing_fed}
use Rattle.trail.proofs.FeedingLaws.{written_is, whole, closed_whole}
use Rattle.trail.specs.Claims.{joined, InPieces, EndsAlike, ListsMarked, calls_by, calls_of, calls, unstarted, standing, Begun, RunsLists, ScriptContained, OverSixteen}
pub use Rattle.trail.proofs.FeedingLaws.{pieces_joined}

pub in_pieces : InPieces
in_pieces cs = written_is cs nothing_fed ∙ whole (joined cs)

pub ends_alike : EndsAlike
ends_alike input = closed_whole input

-- ---- a call more

run_append : (is js : List Item) (s : Standing) → run (is ++ js) s ≡ run js (run is s)
unfolding run
run_append [] js s = refl
run_append (i ∷ is) js s = run_append is js (next i s)

run_more : (is : List Item) (i : Item) (s : Standing) → run (is ++ i ∷ []) s ≡ next i (run is s)
run_more is i s = run_append is (i ∷ []) s ∙ (unfold run in refl)

admissible_more : (is : List Item) (i : Item) (s : Standing) → Admissible is s → Admitted i (run is s) → Admissible (is ++ i ∷ []) s
unfolding run
admissible_more [] i s a h = (h, tt)
admissible_more (j ∷ is) i s a h = (a.0, admissible_more is i (next j s) a.1 h)

begun_more : (is : List Item) → Begun is → (i : Item) → Admitted i (standing is) → Begun (is ++ i ∷ [])
unfolding standing
begun_more is b i a =
    let s = begun (asks b.order Start) (run b.earlier unstarted).memory in
    record {
      earlier = b.earlier;
      order = b.order;
      items = b.items ++ i ∷ [];
      parts = rw b.parts (append_assoc b.earlier (asks b.order Start ∷ b.items) (i ∷ []));
      reached = record { beginning = b.reached.beginning; admissible = admissible_more b.items i s b.reached.admissible (rw (← b.leaves) a) };
      leaves = run_more is i unstarted ∙ rw b.leaves (sym (run_more b.items i s));
    }

refused_next : (o : Order) (c : Call) (s : Standing) → is_done (perform o s.memory c).verdict ≡ false → next (asks o c) s ≡ s
unfolding next
refused_next o c s h = rw (h, refused_keeps o s.memory c h)

-- ---- what a call leaves of the memory and of the order

entered_order : (r : Role) (m : Memory) (s : Standing) → (entered r s.order m s).order ≡ s.order
unfolding entered
entered_order starting m s = refl
entered_order (marking e) m s = refl
entered_order other m s = refl

next_memory : (o : Order) (c : Call) (s : Standing) → (next (asks o c) s).memory ≡ (perform o s.memory c).memory
unfolding next
next_memory o c s = elim (either (is_done (perform o s.memory c).verdict)) [ inl h ↦ rw h (entered_memory (role c) o _ s) | inr h ↦ rw h ]

next_order : (c : Call) (s : Standing) → (next (asks s.order c) s).order ≡ s.order
unfolding next
next_order c s = elim (either (is_done (perform s.order s.memory c).verdict)) [ inl h ↦ rw h (entered_order (role c) _ s) | inr h ↦ rw h ]

start_granted : (o : Order) (m : Memory) → is_done (perform o m Start).verdict ≡ true → (perform o m Start).verdict ≡ granted
start_granted o m h = ap (λ (out : Outcome). out.verdict) (start_done o m h).2

start_order : (o : Order) (s : Standing) → (next (asks o Start) s).order ≡ cond (eqb (perform o s.memory Start).verdict granted) o s.order
unfolding next entered
start_order o s =
    let v = (perform o s.memory Start).verdict in
    elim (either (is_done v)) [
      | inl h ↦ rw (h, start_granted o s.memory h)
      | inr h ↦ rw (h, not_so (eqb v granted) (λ e. true≢false (sym (ap is_done (eqb-true v granted e)) ∙ h)))
    ]

-- ---- before the first granted start, and after it

-- zeros have no core
zeros_unsound : sound no_order zeros.bytes ≡ true → ⊥
unfolding zeros
zeros_unsound h = omega (arith, core_task present no_order _ h, field_zero (lent_bytes present) 0 0)

zeros_unfit : (out : Outcome) → is_done (fitted no_order zeros out).verdict ≡ false
zeros_unfit out = not_so _ (λ h. zeros_unsound (fitted_done no_order zeros out h).sound_bytes)

none_done : (c : Call) → is_done (perform no_order zeros c).verdict ≡ false
unfolding order_passes count_fits
none_done = by_call (λ out. is_done out.verdict ≡ false) no_order zeros
    (not_so _ (λ h. true≢false (sym (start_done no_order zeros h).1))) (λ e r. zeros_unfit (outcome zeros e)) (zeros_unfit (spread zeros))

abbrev Stands : List Item → Type 0
Stands is = (standing is ≡ unstarted) ⊎ Begun is

refused_more : (is : List Item) (o : Order) (c : Call) → standing is ≡ unstarted → is_done (perform o zeros c).verdict ≡ false → standing (is ++ asks o c ∷ []) ≡ unstarted
unfolding standing
refused_more is o c e h = run_more is (asks o c) unstarted ∙ rw e (refused_next o c unstarted h)

first_start : (is : List Item) (o : Order) → standing is ≡ unstarted → Stands (is ++ asks o Start ∷ [])
first_start is o e =
    elim (either (is_done (perform o zeros Start).verdict)) [
      | inl h ↦ inr (record {
        earlier = is;
        order = o;
        items = [];
        parts = refl;
        reached = record { beginning = by_start o (rw e (start_granted o zeros h)); admissible = tt };
        leaves = unfold standing in run_more is (asks o Start) unstarted ∙ rw e (unfold run begun leaves next entered in rw h);
      })
      | inr h ↦ inl (refused_more is o Start e h)
    ]

-- ---- a line, and all lines

-- and the list of tallies has the right length, so that no call is refused for it
abbrev Agree : Progress → Standing → Type 0
Agree p s = (p.memory ≡ s.memory) × (p.order ≡ s.order) × (list_fits present p.tallies ≡ true)

line_runs : (k : Option Command) (p : Progress) (is : List Item) → Agree p (standing is) → Stands is
    → ((done_by p.memory p.tallies p.order k).memory ≡ (standing (is ++ calls_by p.order k)).memory)
    × ((done_by p.memory p.tallies p.order k).order ≡ (standing (is ++ calls_by p.order k)).order)
    × (list_fits present (done_by p.memory p.tallies p.order k).tallies ≡ true)
    × Stands (is ++ calls_by p.order k)
unfolding done_by calls_by standing started_with asked answered
line_runs None p is a b = rw append-nil (a.0, a.1, a.2, b)
line_runs (Some (command.Start o)) p is a b =
    let s = run is unstarted in
    let out = call_out o p.memory p.tallies a.2 Start in (
      rw (run_more is (asks o Start) unstarted, out, a.0) (sym (next_memory o Start s)),
      rw (run_more is (asks o Start) unstarted, out, a.0, a.1) (sym (start_order o s)),
      call_left_fits o p.memory p.tallies a.2 Start,
      ⊎_elim (λ e. first_start is o e) (λ g. inr (begun_more is g (asks o Start) (inl refl))) b,
    )
line_runs (Some (command.Ask c)) p is a b =
    let s = run is unstarted in
    let out = call_out s.order p.memory p.tallies a.2 c in (
      rw (a.1, run_more is (asks s.order c) unstarted, out, a.0) (sym (next_memory s.order c s)),
      rw (a.1, run_more is (asks s.order c) unstarted) (sym (next_order c s)),
      call_left_fits p.order p.memory p.tallies a.2 c,
      rw a.1 (⊎_elim (λ e. inl (rw e (refused_more is no_order c e (none_done c)))) (λ g. inr (begun_more is g (asks s.order c) (inr (λ d. refl)))) b),
    )

lines_run : (ls : List (List ℕ)) (p : Progress) (is : List Item) → Agree p (standing is) → Stands is
    → Agree (after_lines ls p) (standing (is ++ calls_of ls p)) × Stands (is ++ calls_of ls p)
unfolding after_lines calls_of
lines_run [] p is a b = rw append-nil (a, b)
lines_run (l ∷ ls) p is a b =
    let c = calls_by p.order (read_line l) in
    let t = line_runs (read_line l) p is a b in
    rw (← append_assoc is c (calls_of ls (after_line l p))) (lines_run ls (after_line l p) (is ++ c) (unfold after_line line_done in (t.0, t.1, t.2)) t.3)

-- the whole input
ends : (input : List ℕ) → Agree (at_end input) (standing (calls input)) × Stands (calls input)
unfolding at_end nothing_read
ends input = lines_run (lines input) nothing_read [] (unfold standing run in (refl, refl, zeroed_fits present)) (inl (unfold standing run in refl))

pub runs_lists : RunsLists
runs_lists input =
    let e = ends input in
    record { memory = e.0.0; order = e.0.1; started = e.1 }

-- nothing is marked and no flow is recorded in zeros
zeros_unmarked : (x : ℕ) → marked zeros x ≡ false
unfolding marked zeros
zeros_unmarked x = rw (field_zero _ x 5)

unstarted_contained : Contained unstarted
unfolding has_flow zeros
unstarted_contained =
    record {
      marks_covered = λ x l h. absurd (true≢false (sym h ∙ zeros_unmarked x));
      flows_join = λ x y k l h. absurd (true≢false (sym h ∙ cell_zeros row_size (lent_words present) _ y));
      flows_end = λ x y k l h. absurd (true≢false (sym h ∙ cell_zeros row_size (lent_words present) _ y));
    }

pub script_contained : ScriptContained
script_contained input =
    let e = ends input in
    rw (e.0.0, e.0.1) (⊎_elim (λ h. rw h unstarted_contained) (λ b. rw b.leaves (containment present (asks b.order Start) _ b.items b.reached)) e.1)

-- ---- the lengths are right, the list's too; and the bytes are sound and the order passes, once a start was granted

zeros_fit : lengths_fit zeros ≡ true
unfolding lengths_fit zeros
zeros_fit = and_i (eq-eqb _ _ (length-replicate {A = ℕ} (lent_bytes present) 0)) (eq-eqb _ _ (length-replicate {A = ℕ} (lent_words present) 0))

begun_fitted : (is : List Item) → Begun is → Fitted (standing is).order (standing is).memory (spread (standing is).memory)
begun_fitted is b = rw b.leaves (fitted_done _ _ _ (ap is_done (spread_granted present (asks b.order Start) _ b.items b.reached)))

ends_fit : (input : List ℕ) → lengths_fit (at_end input).memory ≡ true
ends_fit input =
    let e = ends input in
    rw e.0.0 (⊎_elim (λ h. rw h zeros_fit) (λ b. (begun_fitted (calls input) b).lengths) e.1)

ends_listed : (input : List ℕ) → list_fits present (at_end input).tallies ≡ true
ends_listed input = (ends input).0.2

-- ---- the report

fitted_report : {o : Order} {m : Memory} {out : Outcome} → Fitted o m out → (x : ℕ) → x < numbers → is_marked (report o m) x ≡ marked m x
unfolding report marked_words
fitted_report {m = m} f x h = rw (f.lengths, f.sound_bytes, f.passes) (in_words_law row_size (marked m) x h)

zeros_report : (x : ℕ) → is_marked (report no_order zeros) x ≡ marked zeros x
unfolding report no_report
zeros_report x =
    let u : sound no_order zeros.bytes ≡ false = not_so _ (λ h. zeros_unsound h) in
    rw (zeros_fit, u) (in_zeros row_size x ∙ sym (zeros_unmarked x))

end_report : (input : List ℕ) (x : ℕ) → x < numbers → is_marked (report (at_end input).order (at_end input).memory) x ≡ marked (at_end input).memory x
end_report input x h =
    let e = ends input in
    rw (e.0.0, e.0.1) (⊎_elim (λ u. rw u (zeros_report x)) (λ b. fitted_report (begun_fitted (calls input) b) x h) e.1)

pub lists_marked : ListsMarked
unfolding output with_marked marked_line
lists_marked input = rw (listed_alike _ (marked (at_end input).memory) numbers (end_report input))

-- ---- a count over sixteen

too_many_refused : (o : Order) (m : Memory) → lengths_fit m ≡ true → most_levels < o.count → perform o m Start ≡ refusal row_order m
unfolding start refused_unless order_passes count_fits
too_many_refused o m f h = rw (f, lt-leb o.count most_levels h, and-false)

read_too_many : (l count : List ℕ) (rest : List (List ℕ)) → pieces l ≡ start_word ∷ count ∷ rest → is_number count ≡ true → most_levels < value count → read_line l ≡ too_many (value count)
unfolding read_line line_of start_of
read_too_many l count rest e n h = rw e (unfold same_word start_word in rw (n, lt-leb (value count) most_levels h))

pub over_sixteen : OverSixteen
unfolding after_line line_done done_by started_with answered
over_sixteen input l count rest e n h =
    let o : Order = record { rows = replicate most_levels 0; count = value count; top = 0 } in
    let r = too_many_refused o (at_end input).memory (ends_fit input) h in
    let t = start_counted o (at_end input).memory (at_end input).tallies (ends_listed input) r in
    rw (read_too_many l count rest e n h, t) (unfold refusal in refl)
