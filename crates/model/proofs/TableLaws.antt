-- What a verdict tells: a call that is done passed all its tests and leaves its effects; one that is refused leaves the memory.
-- Assumes nothing.
use Rattle.std.specs.Prelude.{◌≡◌, refl, Bool, true, false, ◌&&◌, List, [], ◌∷◌, ℕ, leb}
use Rattle.std.proofs.Common.{sym, ap, ◌∙◌, true≢false, arith, leb-true}
use Rattle.bits.specs.AllLaws.{and_l, and_r}
use Rattle.rows.specs.Size.{Size}
use Rattle.levels.specs.declared.Order.{Order}
use Rattle.levels.specs.Order.{order_passes}
use Rattle.records.specs.Records.{sound_of}
use Rattle.model.specs.Verdicts.{granted, slipped, row_state, row_order, row_number, is_done}
use Rattle.model.specs.State.{MemoryOf, lengths_fit}
use Rattle.model.specs.Effects.{effects}
use Rattle.model.specs.Events.{Test, need, Event, OutcomeOf, unless, first_failing, verdict_of, outcome, read, write, execute, create, create_root, move, delete, call_task, invoke, pass, post, find, mark, step}
use Rattle.model.specs.Spread.{spread}
use Rattle.model.specs.Monitor.{refusal, refused_unless, fitted, started, start, perform}
use Rattle.model.specs.declared.Call.{Call}
use Rattle.model.specs.declared.Call.TheVariants.{Start, Read, Write, Execute, Create, CreateRoot, Move, Delete, CallTask, Invoke, Pass, Post, Find, Mark, Step, Spread}

-- ---- tables

-- each row's number is a refusal's, after rows 2 and 3, which every call has: of an event's table, this computes to true
abbrev pub refusals : List Test → Bool
refusals [] = true
refusals (need n ok ∷ rest) = leb row_number n && refusals rest

-- each row's need holds: of an event's table, a tuple of facts, one a row
abbrev pub Holds : List Test → Type 0
Holds [] = Unit {0}
Holds (need n ok ∷ rest) = (ok ≡ true) × Holds rest

failing_holds : (ts : List Test) (last : ℕ) → refusals ts ≡ true → is_done (first_failing ts last) ≡ true → Holds ts
unfolding first_failing unless
failing_holds [] last r h = tt
failing_holds (need n true ∷ ts) last r h = (refl, failing_holds ts last (and_r (leb row_number n) (refusals ts) r) h)
failing_holds (need n false ∷ ts) last r h = absurd (omega (arith, leb-true n slipped h, leb-true row_number n (and_l (leb row_number n) (refusals ts) r)))

-- ---- an event's outcome

-- at a concrete event the second argument is `refl`
pub done_tests : (e : Event) → refusals e.tests ≡ true → is_done (verdict_of e) ≡ true → Holds e.tests
unfolding verdict_of
done_tests e r h = failing_holds e.tests _ r h

pub outcome_done : {size : Size} (m : MemoryOf size) (e : Event) → is_done (verdict_of e) ≡ true → (outcome m e).memory ≡ effects e.effects m
unfolding outcome
outcome_done m e h = rw h

pub outcome_refused : {size : Size} (m : MemoryOf size) (e : Event) → is_done (outcome m e).verdict ≡ false → (outcome m e).memory ≡ m
unfolding outcome
outcome_refused m e h = rw h

-- ---- rows 2 and 3

-- a refusal with a row of the table leaves the memory
guarded_refused : {size : Size} (ok : Bool) (n : ℕ) (m : MemoryOf size) (out : OutcomeOf size) → (is_done out.verdict ≡ false → out.memory ≡ m)
    → is_done (refused_unless ok n m out).verdict ≡ false → (refused_unless ok n m out).memory ≡ m
unfolding refused_unless refusal
guarded_refused true n m out keeps h = keeps h
guarded_refused false n m out keeps h = refl

guarded_done : {size : Size} (ok : Bool) (n : ℕ) (m : MemoryOf size) (out : OutcomeOf size) → is_done n ≡ false → is_done (refused_unless ok n m out).verdict ≡ true
    → (ok ≡ true) × (refused_unless ok n m out ≡ out)
unfolding refused_unless refusal
guarded_done true n m out r h = (refl, refl)
guarded_done false n m out r h = absurd (true≢false (sym h ∙ r))

-- what a call that is done shows of what it was lent
pub record Fitted {size : Size} (o : Order) (m : MemoryOf size) (out : OutcomeOf size) : Type 0 where
  pub lengths : lengths_fit m ≡ true
  pub sound_bytes : sound_of size o m.bytes ≡ true
  pub passes : order_passes o ≡ true
  pub inner : fitted o m out ≡ out

pub fitted_done : {size : Size} (o : Order) (m : MemoryOf size) (out : OutcomeOf size) → is_done (fitted o m out).verdict ≡ true → Fitted o m out
unfolding fitted
fitted_done {size} o m out h =
    let a = guarded_done (lengths_fit m && sound_of size o m.bytes) row_state m (refused_unless (order_passes o) row_order m out) refl h in
    let b = guarded_done (order_passes o) row_order m out refl (rw a.1 at h) in
    record {
      lengths = and_l (lengths_fit m) (sound_of size o m.bytes) a.0;
      sound_bytes = and_r (lengths_fit m) (sound_of size o m.bytes) a.0;
      passes = b.0;
      inner = a.1 ∙ b.1;
    }

pub fitted_refused : {size : Size} (o : Order) (m : MemoryOf size) (out : OutcomeOf size) → (is_done out.verdict ≡ false → out.memory ≡ m)
    → is_done (fitted o m out).verdict ≡ false → (fitted o m out).memory ≡ m
unfolding fitted
fitted_refused o m out keeps = guarded_refused _ row_state m _ (guarded_refused _ row_order m out keeps)

pub fitted_fits : {size : Size} (o : Order) (m : MemoryOf size) (out : OutcomeOf size) → lengths_fit m ≡ true → sound_of size o m.bytes ≡ true → order_passes o ≡ true → fitted o m out ≡ out
unfolding fitted refused_unless
fitted_fits o m out l s p = rw (l, s, p)

-- an event that is done
pub record Happened {size : Size} (o : Order) (m : MemoryOf size) (e : Event) : Type 0 where
  pub lengths : lengths_fit m ≡ true
  pub sound_bytes : sound_of size o m.bytes ≡ true
  pub passes : order_passes o ≡ true
  pub tests : Holds e.tests
  pub leaves : (fitted o m (outcome m e)).memory ≡ effects e.effects m

pub event_done : {size : Size} (o : Order) (m : MemoryOf size) (e : Event) → refusals e.tests ≡ true → is_done (fitted o m (outcome m e)).verdict ≡ true → Happened o m e
unfolding outcome
event_done {size} o m e r h =
    let f = fitted_done o m (outcome m e) h in
    let d : is_done (verdict_of e) ≡ true = rw f.inner at h in
    record {
      lengths = f.lengths;
      sound_bytes = f.sound_bytes;
      passes = f.passes;
      tests = done_tests e r d;
      leaves = ap (λ (out : OutcomeOf size). out.memory) f.inner ∙ outcome_done m e d;
    }

pub start_done : {size : Size} (o : Order) (m : MemoryOf size) → is_done (start o m).verdict ≡ true → (lengths_fit m ≡ true) × (order_passes o ≡ true) × (start o m ≡ record { verdict = granted; rounds = 0; memory = started o })
unfolding start
start_done o m h =
    let a = guarded_done (lengths_fit m) row_state m _ refl h in
    let b = guarded_done (order_passes o) row_order m _ refl (rw a.1 at h) in
    (a.0, b.0, a.1 ∙ b.1)

-- ---- every call

-- what holds of a start, of each event and of a spread holds of every call
pub by_call : {size : Size} (P : OutcomeOf size → Type 0) (o : Order) (m : MemoryOf size) → P (start o m) → ((e : Event) → refusals e.tests ≡ true → P (fitted o m (outcome m e)))
    → P (fitted o m (spread m)) → (c : Call) → P (perform o m c)
unfolding read write execute create create_root move delete call_task invoke pass post find mark step
by_call P o m starts happens spreads Start = starts
by_call P o m starts happens spreads (Read e d x) = happens (read o m e d x) refl
by_call P o m starts happens spreads (Write e d x) = happens (write o m e d x) refl
by_call P o m starts happens spreads (Execute c i n l r) = happens (execute o m c i n l r) refl
by_call P o m starts happens spreads (Create c d n k l) = happens (create o m c d n k l) refl
by_call P o m starts happens spreads (CreateRoot c d n l) = happens (create_root o m c d n l) refl
by_call P o m starts happens spreads (Move e d x f t) = happens (move o m e d x f t) refl
by_call P o m starts happens spreads (Delete e d x k) = happens (delete o m e d x k) refl
by_call P o m starts happens spreads (CallTask a b) = happens (call_task o m a b) refl
by_call P o m starts happens spreads (Invoke a b) = happens (invoke o m a b) refl
by_call P o m starts happens spreads (Pass z x y) = happens (pass o m z x y) refl
by_call P o m starts happens spreads (Post x z y) = happens (post o m x z y) refl
by_call P o m starts happens spreads (Find x z y) = happens (find o m x z y) refl
by_call P o m starts happens spreads (Mark e) = happens (mark o m e) refl
by_call P o m starts happens spreads (Step x) = happens (step o m x) refl
by_call P o m starts happens spreads Spread = spreads

pub refused_keeps : {size : Size} (o : Order) (m : MemoryOf size) (c : Call) → is_done (perform o m c).verdict ≡ false → (perform o m c).memory ≡ m
unfolding start spread
refused_keeps o m c =
    by_call (λ out. is_done out.verdict ≡ false → out.memory ≡ m) o m
    (guarded_refused _ row_state m _ (guarded_refused _ row_order m _ (λ h. absurd (true≢false h))))
    (λ e r. fitted_refused o m (outcome m e) (outcome_refused m e))
    (fitted_refused o m (spread m) (λ h. absurd (true≢false h)))
    c
