-- What a load gives and leaves: the claims about loads, proved.
-- Assumes nothing.
use Rattle.std.specs.Prelude.{◌≡◌, refl, true, ◌||◌, List, [], ◌∷◌, map, ℕ, ◌≤◌, eqb, length}
use Rattle.std.proofs.Common.{sym, ap, ◌∙◌, inl, inr}
use Rattle.std.proofs.lemmas.Bool.{false≢true}
use Rattle.bits.specs.AllLaws.{either}
use Rattle.rows.specs.Size.{Size}
use Rattle.levels.specs.declared.Order.{Order}
use Rattle.levels.specs.Order.{order_passes}
use Rattle.layout.specs.Layout.{Layout, Fits, written, depth, most_deep, most_bytes}
use Rattle.layout.proofs.Proved.{settles_all}
use Rattle.layout.specs.Reading.{Settled, fits, broken, deep, settled}
use Rattle.model.specs.declared.Call.{Call}
use Rattle.model.specs.declared.Call.TheVariants.{Start}
use Rattle.model.specs.Verdicts.{granted, is_done, row_state, row_order, row_form, row_deep}
use Rattle.model.specs.State.{MemoryOf, lengths_fit}
use Rattle.model.specs.Events.{OutcomeOf}
use Rattle.model.specs.Monitor.{refusal, refused_unless, start, started, perform}
use Rattle.model.specs.Load.{layout_calls, in_turn, laid_out, load, past_order}
use Rattle.model.proofs.LoadLaws.{laid_gives, laid_tells, laid_done, laid_refused, laid_sound, load_past, load_kept}
use Rattle.containment.specs.Lists.{asks, leaves, next, run, begun}
use Rattle.containment.specs.Claims.{layout_gives, LayoutGives, LoadGives, LoadsSound, AsCalls, AllGranted, FirstRefused, LoadIsList, LoadTells, LoadRows, RefusedLoad, UntouchedByLoad}
use Rattle.containment.proofs.Invariant.{standing, Invariant}
use Rattle.containment.proofs.CallsKeep.{started_keeps}
use Rattle.containment.proofs.LayoutCalls.{Goes, layout_goes, goes_gives, turn_gives, goes_granted, goes_run}

-- ---- what it gives

-- the calls of a layout, from the state of a start
goes : (size : Size) (o : Order) → order_passes o ≡ true → (f : Layout) → Goes {size = size} o (λ m. Invariant (standing o m [])) (layout_calls f) (started o)
goes size o p f = layout_goes o f (started o) (started_keeps size o p)

pub layout_gives_law : LayoutGives
layout_gives_law size o p f = goes_gives o (layout_calls f) (started o) (goes size o p f)

pub load_gives : LoadGives
unfolding load refused_unless refusal layout_gives
load_gives size o m t =
    elim (either (lengths_fit m)) [
      | inl l ↦ elim (either (order_passes o)) [
        | inl p ↦ rw (l, p) (laid_gives size o Told refl refl (λ f. told (in_turn {size = size} o (layout_calls f) (started o)).verdict (turn_gives o (layout_calls f) (started o) (goes size o p f))) (settled t))
        | inr p ↦ rw (l, p)
      ]
      | inr l ↦ rw l
    ]
  where
    Told : ℕ → Type 0
    Told v = (layout_gives v || eqb v row_state || eqb v row_order || eqb v row_form || eqb v row_deep) ≡ true

    told : (v : ℕ) → layout_gives v ≡ true → Told v
    told v h = rw h

-- ---- what it leaves

pub loads_sound : LoadsSound
loads_sound size o m t h =
    let d = load_past o m t h in
    rw d.2 (laid_sound size o d.1 (settled t))

-- past row 3 a start is granted
start_out : {size : Size} (o : Order) (m : MemoryOf size) → lengths_fit m ≡ true → order_passes o ≡ true → start o m ≡ record { verdict = granted; rounds = 0; memory = started o }
unfolding start refused_unless
start_out o m l p = rw (l, p)

pub refused_load : RefusedLoad
unfolding begun leaves
refused_load size o m t h r =
    let d = load_past o m t h in
    ap (λ (u : MemoryOf size). standing o u [])
    (ap (λ (out : OutcomeOf size). out.memory) d.2 ∙ laid_refused size o (settled t) (rw d.2 at r) ∙ ap (λ (out : OutcomeOf size). out.memory) (sym (start_out o m d.0 d.1)))

pub untouched_by_load : UntouchedByLoad
unfolding next
untouched_by_load size o t s h = rw (h, load_kept o s.memory t h)

-- ---- the text and the calls

-- a layout whose calls are all done, past row 3
at_calls : {size : Size} (o : Order) (m : MemoryOf size) (t : List ℕ) → past_order (load o m t).verdict ≡ true → (f : Layout) → settled t ≡ fits f
    → is_done (laid_out {size = size} o (fits f)).verdict ≡ true → AsCalls o m t
unfolding begun leaves
at_calls {size} o m t h f e g =
    record {
      layout = f;
      fits = k.0;
      text = k.1;
      not_deep = k.2;
      not_long = k.3;
      start_granted = ap (λ (out : OutcomeOf size). out.verdict) out;
      all_granted = rw out (goes_granted o (layout_calls f) (started o) (goes size o d.1 f) l.0);
      leaves_same =
          ap (λ (out : OutcomeOf size). standing o out.memory []) (d.2 ∙ ap (laid_out o) e ∙ l.1)
          ∙ goes_run o (layout_calls f) (started o) (goes size o d.1 f) l.0
          ∙ ap (λ (out : OutcomeOf size). run (map (asks o) (layout_calls f)) (standing o out.memory [])) (sym out);
    }
  where
    d : (lengths_fit m ≡ true) × (order_passes o ≡ true) × (load o m t ≡ laid_out o (settled t))
    d = load_past o m t h

    k : Fits f × (written f ≡ t) × (depth f ≤ most_deep) × (length t ≤ most_bytes)
    k = (settles_all t f).0 e

    out : start o m ≡ record { verdict = granted; rounds = 0; memory = started o }
    out = start_out o m d.0 d.1

    l : (is_done (in_turn {size = size} o (layout_calls f) (started o)).verdict ≡ true) × (laid_out {size = size} o (fits f) ≡ in_turn o (layout_calls f) (started o))
    l = laid_done size o f g

pub load_is_list : LoadIsList
load_is_list size o m t h = go (settled t) refl (ap is_done (sym (ap (λ (out : OutcomeOf size). out.verdict) (load_past o m t past).2) ∙ h))
  where
    past : past_order (load o m t).verdict ≡ true
    past = unfold past_order in rw h

    go : (s : Settled) → settled t ≡ s → is_done (laid_out {size = size} o s).verdict ≡ true → AsCalls o m t
    go (fits f) e g = at_calls o m t past f e g
    go (broken place) e g = unfold laid_out refusal in absurd (false≢true g)
    go (deep place) e g = unfold laid_out refusal in absurd (false≢true g)

turn_granted : {size : Size} (o : Order) (cs : List Call) (m : MemoryOf size) → AllGranted o cs m → (in_turn o cs m).verdict ≡ granted
unfolding in_turn AllGranted
turn_granted o [] m h = refl
turn_granted o (c ∷ cs) m h = rw h.0 (turn_granted o cs (perform o m c).memory h.1)

turn_refused : {size : Size} (o : Order) (cs : List Call) (m : MemoryOf size) (v : ℕ) → FirstRefused o cs m v → (in_turn o cs m).verdict ≡ v
unfolding in_turn FirstRefused
turn_refused o [] m v h = absurd h
turn_refused o (c ∷ cs) m v (inl h) = rw h.0 h.1
turn_refused o (c ∷ cs) m v (inr h) = rw h.0 (turn_refused o cs (perform o m c).memory v h.1)

pub load_tells : LoadTells
unfolding load refused_unless
load_tells size o m f l p a b c =
    let told : (load o m (written f)).verdict ≡ (in_turn o (layout_calls f) (perform o m Start).memory).verdict = rw (l, p, (settles_all (written f) f).1 (a, refl, b, c), start_out o m l p) (laid_tells size o f) in
    record { granted_all = λ h. told ∙ turn_granted o (layout_calls f) _ h; refused_with = λ v h. told ∙ turn_refused o (layout_calls f) _ v h }

pub load_rows : LoadRows
unfolding load refused_unless refusal
load_rows size o m t = (λ l. rw l, λ l p. rw (l, p))
