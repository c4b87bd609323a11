-- The history along a list, whichever flows count; and the trail is exact.
-- Assumes nothing.
use Rattle.std.specs.Prelude.{◌≡◌, true, ◌⊎◌, List, [], ◌∷◌, ℕ}
use Rattle.std.proofs.Math.Path.{refl, ap}
use Rattle.std.proofs.Common.{sym, subst, ◌∙◌, true≢false}
use Rattle.std.proofs.Math.Logic.{inl, inr, ⊎_elim}
use mathlib.Core.List.Memᴰ
use Rattle.bits.specs.AllLaws.{either}
use Rattle.rows.specs.Size.{Size}
use Rattle.levels.specs.declared.Order.{Order}
use Rattle.model.specs.declared.Call.{Call}
use Rattle.model.specs.declared.Call.TheVariants.{Start, Read, Write, Execute, Create, CreateRoot, Move, Delete, CallTask, Invoke, Pass, Post, Find, Mark, Step, Spread}
use Rattle.model.specs.Verdicts.{granted, is_done}
use Rattle.model.specs.State.{MemoryOf, in_use, marked, has_flow}
use Rattle.model.proofs.StateLaws.{used_below}
use Rattle.model.proofs.EffectLaws.{Long, fit_long}
use Rattle.model.specs.Spread.{spread}
use Rattle.model.specs.Monitor.{perform}
use Rattle.model.specs.Load.{load, past_order}
use Rattle.model.proofs.LoadLaws.{load_kept}
use Rattle.model.proofs.SoundLaws.{leaves_sound}
use Rattle.model.proofs.SpreadLaws.{Closed, rest_closed, spread_more, sized_more, spread_rests}
use Rattle.model.proofs.TableLaws.{fitted_done, refused_keeps}
use Rattle.containment.specs.Lists.{Item, asks, reports, loads, StandingOf, Role, starting, marking, other, role, entered, next, run, begun, Begins}
use Rattle.containment.specs.TrailClaims.{Trailed, TrailExact}
use Rattle.containment.proofs.Invariant.{standing, Invariant}
use Rattle.containment.proofs.CallsKeep.{NoStart, start_keeps}
use Rattle.containment.proofs.LayoutCalls.{unmarked}
use Rattle.containment.proofs.ItemsKeep.{load_keeps, begun_keeps}
use Rattle.containment.specs.History.{Life, History, life_of, Trail, from, onward, Counting, every, counts, grown, anew, enters, after, history, history_of}
use Rattle.containment.proofs.Reach.{at, along, down, Path, Fed}
use Rattle.containment.proofs.Carries.{Carries, Nobody}
use Rattle.containment.proofs.OneCall.{Names, call_carries}
use Rattle.containment.proofs.Joins.{Linked, begins, further, Named, Traced, Told, Adds, adds_nobody, grown_traced, grown_told, anew_traced, anew_told}

-- chains are paths now, and paths are chains
abbrev Kept : {size : Size} → MemoryOf size → History → Type 0
Kept m h = Traced m h × Told m h

-- the flows that count are flows that the call leaves, and each of the others is a path that it found
pub record Counted {size : Size} (k : Counting) (c : Call) (m n : MemoryOf size) : Type 0 where
  pub recorded : (x y : ℕ) → in_use n x ≡ true → in_use n y ≡ true → counts k c m n x y ≡ true → has_flow n x y ≡ true
  pub found : (x y : ℕ) → in_use n x ≡ true → in_use n y ≡ true → has_flow n x y ≡ true → (counts k c m n x y ≡ true) ⊎ Path m x y

-- ---- the state of a start

-- where no task is named, nothing is marked
anew_kept : {size : Size} (o : Order) (m : MemoryOf size) → Invariant (standing o m []) → Kept m (anew m)
anew_kept {size} o m i = (anew_traced m long clean, anew_told m long clean)
  where
    long : Long m
    long = fit_long m i.limits.fits

    clean : (x : ℕ) → marked m x ≡ true → ⊥
    clean x q = true≢false (sym q ∙ unmarked o m i x)

-- ---- every call

-- a call is a start or not
start_or_not : (c : Call) → (c ≡ Start) ⊎ NoStart (role c)
start_or_not Start = inl refl
start_or_not (Read e d x) = inr tt
start_or_not (Write e d x) = inr tt
start_or_not (Execute c i n l r) = inr tt
start_or_not (Create c d n k l) = inr tt
start_or_not (CreateRoot c d n l) = inr tt
start_or_not (Move e d x f t) = inr tt
start_or_not (Delete e d x k) = inr tt
start_or_not (CallTask a b) = inr tt
start_or_not (Invoke a b) = inr tt
start_or_not (Pass z x y) = inr tt
start_or_not (Post x z y) = inr tt
start_or_not (Find x z y) = inr tt
start_or_not (Mark e) = inr tt
start_or_not (Step x) = inr tt
start_or_not Spread = inr tt

module _ {size : Size} (k : Counting) (c : Call) (m n : MemoryOf size) (h : History) (long : Long n) (t : Counted k c m n) (kept : Kept m h) where
  grown_kept : (E : ℕ → Type 0) (ts : List Life) → Carries m n E → Adds h E ts → Kept n (grown (counts k c m n) m n ts h)
  grown_kept E ts r names = (
    grown_traced (counts k c m n) m n ts h E r long names t.recorded kept.0,
    grown_told (counts k c m n) m n ts h E r long names
        (λ x y ux uy f. ⊎_elim (λ e. inl e) (λ p. inr (kept.1.paths x y p)) (t.found x y ux uy f))
        (λ x l u q. kept.1.feds x (at x l u q)),
  )

  -- a call of that role
  enters_kept : (r : Role) → NoStart r → Carries m n (Names r) → Kept n (enters (counts k c m n) r m n h)
  unfolding enters
  enters_kept starting w r = absurd w
  enters_kept (marking e) w r =
      grown_kept (λ y. y ≡ e) (life_of h e ∷ h.named) r
      (λ a. (λ q. ⊎_elim (λ d. inr (e, refl, d)) (λ p. inl p) (Memᴰ.cases_cons q), λ q. ⊎_elim (λ p. Memᴰ.tail p) (λ p. Memᴰ.head (p.2 ∙ ap (life_of h) p.1)) q))
  enters_kept other w r = grown_kept Nobody h.named r (adds_nobody h)

-- every call that is done
call_kept : {size : Size} (k : Counting) (o : Order) (m : MemoryOf size) (c : Call) (h : History) → is_done (perform o m c).verdict ≡ true
    → (NoStart (role c) → Counted k c m (perform o m c).memory) → Kept m h → Kept (perform o m c).memory (enters (counts k c m (perform o m c).memory) (role c) m (perform o m c).memory h)
unfolding enters
call_kept {size} k o m c h d t kept =
    ⊎_elim (λ e. subst Left (sym e) (started (subst (λ (a : Call). is_done (perform o m a).verdict ≡ true) e d)))
    (λ w. enters_kept k c m (perform o m c).memory h (fit_long _ (leaves_sound size o m c d).0) (t w) kept (role c) w (call_carries o m c w d))
    (start_or_not c)
  where
    Left : Call → Type 0
    Left a = let n = (perform o m a).memory in Kept n (enters (counts k a m n) (role a) m n h)

    started : is_done (perform o m Start).verdict ≡ true → Kept (perform o m Start).memory (anew (perform o m Start).memory)
    started e = anew_kept o (perform o m Start).memory (start_keeps o m e)

-- ---- every item, and every list

-- what is counted at a call that is done; a report and a load count nothing
abbrev pub ItemCounted : {size : Size} → Counting → Item → StandingOf size → Type 0
ItemCounted k (asks o c) s = is_done (perform o s.memory c).verdict ≡ true → NoStart (role c) → Counted k c s.memory (perform o s.memory c).memory
ItemCounted k (reports o) s = Unit {0}
ItemCounted k (loads o t) s = Unit {0}

-- at every item of a list
abbrev pub AllCounted : {size : Size} → Counting → List Item → StandingOf size → Type 0
AllCounted k [] s = Unit {0}
AllCounted k (i ∷ is) s = ItemCounted k i s × AllCounted k is (next i s)

-- whatever its role, a call leaves its memory
pub entered_memory : {size : Size} (r : Role) (o : Order) (n : MemoryOf size) (s : StandingOf size) → (entered r o n s).memory ≡ n
unfolding entered
entered_memory starting o n s = refl
entered_memory (marking e) o n s = refl
entered_memory other o n s = refl

-- every item
next_kept : {size : Size} (k : Counting) (i : Item) (s : StandingOf size) (h : History) → ItemCounted k i s → Kept s.memory h → Kept (next i s).memory (after k i s h)
unfolding next after entered
next_kept k (asks o c) s h t kept =
    ⊎_elim (λ d. rw d (rw (entered_memory (role c) o (perform o s.memory c).memory s) (call_kept k o s.memory c h d (t d) kept)))
    (λ d. rw d (rw (refused_keeps o s.memory c d) kept))
    (either (is_done (perform o s.memory c).verdict))
next_kept k (reports o) s h t kept = kept
next_kept k (loads o t) s h u kept =
    elim (either (past_order (load o s.memory t).verdict)) [
      | inl p ↦ rw p (anew_kept o (load o s.memory t).memory (load_keeps o s.memory t p))
      | inr p ↦ rw p (rw (load_kept o s.memory t p) kept)
    ]

-- every list
run_kept : {size : Size} (k : Counting) (is : List Item) (s : StandingOf size) (h : History) → AllCounted k is s → Kept s.memory h → Kept (run is s).memory (history k is s h)
unfolding run history
run_kept k [] s h t kept = kept
run_kept k (i ∷ is) s h t kept = run_kept k is (next i s) (after k i s h) t.1 (next_kept k i s h t.0 kept)

-- ---- after a spread

-- at rest, what is in reach of something marked is marked
fed_marked : {size : Size} (m : MemoryOf size) → Closed m (λ x. marked m x ≡ true) → {x : ℕ} → Fed m x → marked m x ≡ true
fed_marked m r (at x l u e) = e
fed_marked m r (along x y c l u f) = r.by_flow_law x y (fed_marked m r c) l u f
fed_marked m r (down x y c l o d) = r.by_driver_law x y (fed_marked m r c) l o d

-- the memory that a granted spread leaves is at rest, and its lengths are right
spread_closed : {size : Size} (o : Order) (s : StandingOf size) → (perform o s.memory Spread).verdict ≡ granted
    → Long (next (asks o Spread) s).memory × Closed (next (asks o Spread) s).memory (λ x. marked (next (asks o Spread) s).memory x ≡ true)
unfolding next entered
spread_closed {size} o s g =
    let m = s.memory in
    let f = fitted_done o m (spread m) (ap is_done g) in
    let l = (fit_long m f.lengths).bytes_long in
    rw g (fit_long _ (leaves_sound size o m Spread (ap is_done g)).0, rw f.inner (rest_closed (spread m).memory (sized_more (spread_more m) l) (spread_rests m l)))

-- the chains of the claims, which begin at named lives
trail_linked : {h : History} {a : Life} → Trail h a → Linked h (Named h) a
trail_linked (from a q) = begins a q
trail_linked (onward a b t j) = further a b (trail_linked t) j

linked_trail : {h : History} {a : Life} → Linked h (Named h) a → Trail h a
linked_trail (begins a q) = from a q
linked_trail (further a b t j) = onward a b (linked_trail t) j

-- where all is counted, the trail is exact
pub counted_trail : {size : Size} (k : Counting) (b : Item) (m : MemoryOf size) (is : List Item) → Begins m b → AllCounted k is (begun b m)
    → (o : Order) → let s = run is (begun b m) in ItemCounted k (asks o Spread) s → (perform o s.memory Spread).verdict ≡ granted
    → Trailed (next (asks o Spread) s) (after k (asks o Spread) s (history_of k b m is))
unfolding begun history_of life_of
counted_trail k b m is g t o u q x w =
    let s = run is (begun b m) in
    let a = anew_kept _ (begun b m).memory (begun_keeps g) in
    let j = next_kept k (asks o Spread) s (history_of k b m is) u (run_kept k is (begun b m) _ t a) in
    let e = spread_closed o s q in
    (λ i. linked_trail (j.1.feds x (at x (used_below _ x e.0.bytes_long w) w i)), λ r. fed_marked _ e.1 (j.0.fed _ (trail_linked r) (record { used = w; now = refl })))

-- ---- every flow counts

every_counted : {size : Size} (i : Item) (s : StandingOf size) → ItemCounted every i s
unfolding counts
every_counted (asks o c) s = λ d w. record { recorded = λ x y ux uy f. f; found = λ x y ux uy f. inl f }
every_counted (reports o) s = tt
every_counted (loads o t) s = tt

all_every : {size : Size} (is : List Item) (s : StandingOf size) → AllCounted every is s
all_every [] s = tt
all_every (i ∷ is) s = (every_counted i s, all_every is (next i s))

pub trail_exact : TrailExact
trail_exact size b m is g o = let s = run is (begun b m) in counted_trail every b m is g (all_every is (begun b m)) o (every_counted (asks o Spread) s)
