-- The history that a granted load begins is that of a start and then its calls, since these only add.
-- Assumes nothing.
use Rattle.std.specs.Prelude.{◌≡◌, Bool, ◌&&◌, ◌||◌, List, [], ◌∷◌, ◌++◌, map, ℕ, suc}
use Rattle.std.proofs.Math.Path.{refl}
use Rattle.std.proofs.Common.{sym, ap, ◌∙◌}
use Rattle.std.proofs.Math.Bool.{true, false, not, cond, and-eq-true_iff}
use Rattle.std.proofs.Math.Dec.{eqb}
use Rattle.std.proofs.lemmas.Bool.{not-true}
use Rattle.bits.specs.AllLaws.{and_i, and_l, and_r}
use Rattle.rows.specs.Size.{Size}
use Rattle.levels.specs.declared.Order.{Order}
use Rattle.layout.specs.Layout as layout
use Rattle.layout.specs.Layout.{Objects, Form, Layout}
use Rattle.model.specs.declared.Call.{Call}
use Rattle.model.specs.declared.Call.TheVariants.{Start, Write, Execute, Create, CreateRoot}
use Rattle.model.specs.Verdicts.{is_done}
use Rattle.model.specs.State.{MemoryOf, in_use, has_flow}
use Rattle.model.proofs.EffectLaws.{fit_long}
use Rattle.model.specs.Events.{Event, outcome, write, execute, create, create_root}
use Rattle.model.specs.Monitor.{fitted, perform}
use Rattle.model.specs.Load.{inner_calls, form_calls, layout_calls, load}
use Rattle.model.proofs.TableLaws.{Happened, refusals, event_done}
use Rattle.containment.specs.Lists.{asks, StandingOf, other, role, entered, next, run, leaves, begun}
use Rattle.containment.specs.Claims.{AllGranted}
use Rattle.containment.specs.TrailClaims.{LoadHistory}
use Rattle.containment.specs.History.{Life, History, nothing, is_now, every, counts, joins, ended_by, grown, anew, enters, after, history, history_of}
use Rattle.containment.proofs.Reach.{feeds_by, feeds_so, Grows, feeds_grow}
use Rattle.containment.proofs.Carries.{AllQuiet, effects_grow}

-- ---- the calls of a layout

-- it is of one of their kinds
data Laying : Call → Type 0 where
  writing : (e d x : ℕ) → Laying (Write e d x)
  executing : (c i n l r : ℕ) → Laying (Execute c i n l r)
  creating : (c d n k l : ℕ) → Laying (Create c d n k l)
  rooting : (c d n l : ℕ) → Laying (CreateRoot c d n l)

-- each of the list is
abbrev AllLaying : List Call → Type 0
AllLaying [] = Unit {0}
AllLaying (c ∷ cs) = Laying c × AllLaying cs

laying_append : (cs ds : List Call) → AllLaying cs → AllLaying ds → AllLaying (cs ++ ds)
laying_append [] ds a b = b
laying_append (c ∷ cs) ds a b = (a.0, laying_append cs ds a.1 b)

-- all calls of a layout are
inner_laying : (c d : ℕ) (fs : Objects) → AllLaying (inner_calls c d fs)
unfolding inner_calls
inner_laying c d layout.none = tt
inner_laying c d (layout.object h inner rest) = (
  writing _ _ _,
  (
    writing _ _ _,
    (
      creating _ _ _ _ _,
      laying_append (inner_calls h.number h.driver inner) (inner_calls c d rest) (inner_laying h.number h.driver inner) (inner_laying c d rest),
    ),
  ),
)

form_laying : (f : Form) → AllLaying (form_calls f)
unfolding form_calls
form_laying (layout.root h inner) = (rooting _ _ _ _, inner_laying h.number h.driver inner)
form_laying (layout.task a) = (executing _ _ _ _ _, tt)

layout_laying : (fs : Layout) → AllLaying (layout_calls fs)
unfolding layout_calls
layout_laying [] = tt
layout_laying (f ∷ fs) = laying_append (form_calls f) (layout_calls fs) (form_laying f) (layout_laying fs)

-- it neither begins a list nor names a task
laying_other : {c : Call} → Laying c → role c ≡ other
laying_other (writing e d x) = refl
laying_other (executing c i n l r) = refl
laying_other (creating c d n k l) = refl
laying_other (rooting c d n l) = refl

-- ---- they only add

module _ {size : Size} (o : Order) (m : MemoryOf size) where
  -- an event that is done leaves what its effects leave
  event_grows : (e : Event) → refusals e.tests ≡ true → (Happened o m e → AllQuiet m e.effects) → is_done (fitted o m (outcome m e)).verdict ≡ true → Grows m (fitted o m (outcome m e)).memory
  event_grows e r q h = let d = event_done o m e r h in rw d.leaves (effects_grow m (fit_long m d.lengths) e.effects (q d))

  laying_grows : {c : Call} → Laying c → is_done (perform o m c).verdict ≡ true → Grows m (perform o m c).memory
  unfolding write execute create create_root
  laying_grows (writing e d x) h = event_grows (write o m e d x) refl (λ t. (tt, (tt, (tt, tt)))) h
  laying_grows (executing c i n l r) h =
      event_grows (execute o m c i n l r) refl (λ t. (not-true (in_use m n) t.tests.1.0, (tt, tt))) h
  laying_grows (creating c d n k l) h =
      event_grows (create o m c d n k l) refl (λ t. (not-true (in_use m n) t.tests.1.0, (tt, (tt, tt)))) h
  laying_grows (rooting c d n l) h =
      event_grows (create_root o m c d n l) refl (λ t. (not-true (in_use m n) t.tests.1.0, (tt, (tt, tt)))) h

-- ---- a history in which no life is over, none is named, and what joins now is joined

record Plain {size : Size} (n : MemoryOf size) (h : History) : Type 0 where
  pub ended : (x : ℕ) → h.ended x ≡ 0
  pub joined : (a b : Life) → h.joined a b ≡ (eqb a.before 0 && eqb b.before 0 && joins (has_flow n) n a.number b.number)
  pub named : h.named ≡ []

-- what joins goes on to join where memory only grows
joins_grow : {size : Size} {m n : MemoryOf size} → Grows m n → (x y : ℕ) → joins (has_flow m) m x y ≡ true → joins (has_flow n) n x y ≡ true
unfolding joins
joins_grow {m = m} {n = n} g x y h =
    let t = simp and-eq-true_iff at h in
    and_i (and_i (g.used x t.0.0) (g.used y t.0.1)) (feeds_so n x y (feeds_grow g x y (feeds_by m x y (has_flow m x y) (λ f. f) t.1)))

-- what stands already adds nothing
absorbed : (a b : Bool) → (a ≡ true → b ≡ true) → (a || b) ≡ b
absorbed true b f = sym (f refl)
absorbed false b f = refl

module _ {size : Size} (m n : MemoryOf size) (h : History) (p : Plain m h) (g : Grows m n) where
  -- no life ends
  none_over : (x : ℕ) → ended_by m n h.ended x ≡ 0
  unfolding ended_by
  none_over x = over (in_use m x) (in_use n x) (g.used x)
    where
      over : (a b : Bool) → (a ≡ true → b ≡ true) → cond (a && not b) (suc (h.ended x)) (h.ended x) ≡ 0
      over true b f = rw (f refl) (p.ended x)
      over false b f = p.ended x

  -- so the history stays plain
  grown_plain : Plain n (grown (has_flow n) m n h.named h)
  unfolding grown is_now
  grown_plain =
      record {
        ended = none_over;
        joined = λ a b. rw (none_over a.number, none_over b.number, p.joined a b) (absorbed _ _ (stays a b));
        named = p.named;
      }
    where
      stays : (a b : Life) → (eqb a.before 0 && eqb b.before 0 && joins (has_flow m) m a.number b.number) ≡ true → (eqb a.before 0 && eqb b.before 0 && joins (has_flow n) n a.number b.number) ≡ true
      stays a b e =
          and_i (and_l (eqb a.before 0 && eqb b.before 0) _ e) (joins_grow g a.number b.number (and_r (eqb a.before 0 && eqb b.before 0) (joins (has_flow m) m a.number b.number) e))

-- so is one that begins
anew_plain : {size : Size} (n : MemoryOf size) → Plain n (anew n)
unfolding anew nothing grown is_now ended_by
anew_plain n =
    record {
      ended = λ x. none x (in_use n x);
      joined = λ a b. rw (none a.number (in_use n a.number), none b.number (in_use n b.number));
      named = refl;
    }
  where
    none : (x : ℕ) (b : Bool) → ◌≡◌ {A = ℕ} (cond (b && not b) 1 0) 0
    none x true = refl
    none x false = refl

-- ---- the calls in a list

-- granted calls of a layout keep it plain
run_plain : {size : Size} (o : Order) (cs : List Call) (s : StandingOf size) (h : History) → AllLaying cs → AllGranted o cs s.memory → Plain s.memory h
    → Plain (run (map (asks o) cs) s).memory (history every (map (asks o) cs) s h)
unfolding run history AllGranted
run_plain o [] s h l g p = p
run_plain {size} o (c ∷ cs) s h l g p = run_plain o cs (next (asks o c) s) (after every (asks o c) s h) l.1 (rw memory g.1) one
  where
    n : MemoryOf size
    n = (perform o s.memory c).memory

    memory : (next (asks o c) s).memory ≡ n
    memory = unfold next entered in rw (g.0, laying_other l.0)

    one : Plain (next (asks o c) s).memory (after every (asks o c) s h)
    one = rw memory (unfold after enters counts in rw (g.0, laying_other l.0) (grown_plain s.memory n h p (laying_grows o s.memory l.0 (ap is_done g.0))))

pub load_history : LoadHistory
unfolding history_of begun leaves
load_history size o m t a =
    let p = anew_plain (load o m t).memory in
    let q = run_plain o (layout_calls a.layout) (begun (asks o Start) m) (anew (perform o m Start).memory) (layout_laying a.layout) a.all_granted (anew_plain (perform o m Start).memory) in
    let e = ap (λ (s : StandingOf size). s.memory) a.leaves_same in
    record {
      same_ended = λ x. p.ended x ∙ sym (q.ended x);
      same_joined = λ u v. p.joined u v ∙ (rw e) ∙ sym (q.joined u v);
      same_named = p.named ∙ sym q.named;
    }
