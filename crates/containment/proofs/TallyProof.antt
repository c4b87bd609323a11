-- What whole calls and loads leave of their tallies, and that what demand 3's lists leave does not depend on them: the claims about tallies, proved.
-- Assumes nothing.
use Rattle.std.specs.Prelude.{◌≡◌, true, ◌&&◌, ◌⊎◌, List, [], ◌∷◌, ℕ, ◌<◌, length, set, replicate}
use Rattle.std.proofs.Math.Path.{refl, ap}
use Rattle.std.proofs.Common.{sym, subst, ◌∙◌, true≢false, arith, length-set, get_or-set_same, get_or-set_other}
use Rattle.std.proofs.Math.Bool.{false}
use Rattle.std.proofs.lemmas.Bool.{false≢true}
use Rattle.std.proofs.Math.Logic.{inl, inr}
use Rattle.std.proofs.Math.Dec.{eqb}
use Rattle.std.proofs.lemmas.List.{length-replicate, get_or-replicate}
use borrow.Author.Tests.{eqb-true, eq-eqb, ne_eqb}
use Rattle.bits.specs.AllLaws.{either, not_so, and_l, and_r}
use Rattle.rows.specs.Size.{Size, numbers_of}
use Rattle.rows.proofs.RowLaws.{some_number}
use Rattle.levels.specs.declared.Order.{Order}
use Rattle.layout.specs.Reading.{settled}
use Rattle.model.specs.declared.Call.{Call}
use Rattle.model.specs.declared.Call.TheVariants.{Start, Read, Write, Execute, Create, CreateRoot, Move, Delete, CallTask, Invoke, Pass, Post, Find, Mark, Step, Spread}
use Rattle.model.specs.declared.Tally.{Tally}
use Rattle.model.specs.Verdicts.{granted, is_done, row_state}
use Rattle.model.specs.State.{MemoryOf, task}
use Rattle.model.specs.Events.{OutcomeOf}
use Rattle.model.specs.Monitor.{refusal, started, perform}
use Rattle.model.proofs.TableLaws.{refused_keeps}
use Rattle.model.specs.Load.{load, past_order}
use Rattle.model.proofs.LoadLaws.{laid_refused, load_past, load_kept}
use Rattle.model.specs.Tallies.{one_more, raised, nothing_counted, list_fits, zeroed, raised_at, is_start, if_task, asker, counted_on, TalliedOf, counted, performed, loaded}
use Rattle.model.proofs.TallyLaws.{raised_refused, start_is, counted_within, call_fits, call_other, call_out, load_fits, load_other, load_out}
use Rattle.containment.specs.Lists.{Item, asks, reports, loads, StandingOf, next, run, Admitted, Admissible, begun, Begins, by_start, by_load}
use Rattle.containment.specs.TallyLists.{WholeItem, with_tallies, item, fitting, next_whole, run_whole, AdmittedWhole, AdmissibleWhole, BeginsWhole, by_whole_start, by_whole_load}
use Rattle.containment.specs.TallyClaims.{Fits, record_of, AnotherLength, NeverTested, OnlyRefused, RefusalKeeps, RefusedLoadKeeps, RaisedOnly, OthersKept, AskedBy, of_read, of_write, of_execute, of_create, of_create_root, of_move, of_delete, of_call, of_invoke, of_pass, of_post, of_find, AskedByNone, of_start, of_mark, of_step, of_spread, AllAsked, OnAsker, OnRecordZero, CountsItself, BegunAnew, TalliesApart, WholeReached}

-- ---- the length of the list

fits_i : (size : Size) (ts : List Tally) → Fits size ts → list_fits size ts ≡ true
unfolding list_fits
fits_i size ts f = eq-eqb (length ts) (numbers_of size) f

other_i : (size : Size) (ts : List Tally) → (Fits size ts → ⊥) → list_fits size ts ≡ false
unfolding list_fits
other_i size ts f = ne_eqb (length ts) (numbers_of size) f

pub another_length : AnotherLength
another_length size o m ts f = (call_other o m ts (other_i size ts f), load_other o m ts (other_i size ts f))

pub never_tested : NeverTested
never_tested size o m ts f = (call_out o m ts (fits_i size ts f), load_out o m ts (fits_i size ts f))

-- ---- one record

-- a store into a list that has the record
raised_only : (i v : ℕ) (ts us : List Tally) → i < length ts → us ≡ raised_at i v ts → RaisedOnly i v ts us
unfolding raised_at
raised_only i v ts us l e =
    record {
      is_record = l;
      as_long = ap length e ∙ length-set ts i (raised (record_of ts i) v);
      raised_it = ap (λ (r : List Tally). record_of r i) e ∙ get_or-set_same ts i (raised (record_of ts i) v) nothing_counted l;
      others_kept = λ j n. ap (λ (r : List Tally). record_of r j) e ∙ get_or-set_other ts i j (raised (record_of ts i) v) nothing_counted n;
    }

-- a verdict that refuses
only_refused : (i v : ℕ) (ts us : List Tally) → i < length ts → is_done v ≡ false → us ≡ raised_at i v ts → OnlyRefused i ts us
unfolding raised_at
only_refused i v ts us l h e = record { is_record = l; leaves = e ∙ ap (set ts i) (raised_refused (record_of ts i) v h) }

module _ {size : Size} (o : Order) (m : MemoryOf size) (ts : List Tally) (f : Fits size ts) where
  abbrev given : Call → ℕ
  given c = (performed o m ts c).outcome.verdict

  same_verdict : (c : Call) → given c ≡ (perform o m c).verdict
  same_verdict c = ap (λ (out : OutcomeOf size). out.verdict) (call_out o m ts (fits_i size ts f) c)

  -- the record that a call counts on
  call_within : (c : Call) → counted_on m c (given c) < length ts
  call_within c = rw (same_verdict c) (rw f (counted_within o m c))

  -- a call that begins nothing anew raises a record
  call_leaves : (c : Call) → (c ≡ Start → given c ≡ granted → ⊥) → (performed o m ts c).tallies ≡ raised_at (counted_on m c (given c)) (given c) ts
  unfolding counted
  call_leaves c n = rw (same_verdict c) (ap (λ (done : TalliedOf size). done.tallies) (call_fits o m ts (fits_i size ts f) c) ∙ rw kept)
    where
      kept : (is_start c && eqb (perform o m c).verdict granted) ≡ false
      kept = not_so _ (λ h. n (start_is c (and_l (is_start c) (eqb (perform o m c).verdict granted) h)) (same_verdict c ∙ eqb-true _ _ (and_r (is_start c) (eqb (perform o m c).verdict granted) h)))

  load_verdict : (t : List ℕ) → (loaded o m ts t).outcome.verdict ≡ (load o m t).verdict
  load_verdict t = ap (λ (out : OutcomeOf size). out.verdict) (load_out o m ts (fits_i size ts f) t)

  load_leaves : (t : List ℕ) → ((loaded o m ts t).outcome.verdict ≡ granted → ⊥) → (loaded o m ts t).tallies ≡ raised_at 0 (loaded o m ts t).outcome.verdict ts
  unfolding counted
  load_leaves t n =
      rw (load_verdict t)
      (ap (λ (done : TalliedOf size). done.tallies) (load_fits o m ts (fits_i size ts f) t) ∙ rw (ne_eqb (load o m t).verdict granted (λ e. n (load_verdict t ∙ e))))

  first_within : 0 < length ts
  first_within = rw f (some_number size)

pub others_kept : OthersKept
others_kept size o m ts f = (
  λ c n. raised_only _ _ ts _ (call_within o m ts f c) (call_leaves o m ts f c n),
  λ t n. raised_only 0 _ ts _ (first_within o m ts f) (load_leaves o m ts f t n),
)

-- ---- refusals

-- 2 is no grant
refused_with : row_state ≡ granted → ⊥
refused_with e = omega (arith, e)

not_granted : (v : ℕ) → is_done v ≡ false → v ≡ granted → ⊥
not_granted v h e = true≢false (rw e at h)

pub refusal_keeps : RefusalKeeps
unfolding refusal
refusal_keeps size o m ts c h = (
  elim (either (list_fits size ts)) [
    | inl f ↦ rw (call_out o m ts f c) (refused_keeps o m c (rw (call_out o m ts f c) at h))
    | inr f ↦ rw (call_other o m ts f c)
  ],
  record {
    counted = λ f. only_refused _ _ ts _ (call_within o m ts f c) h (call_leaves o m ts f c (λ e. not_granted _ h));
    uncounted = λ f. (
      ap (λ (done : TalliedOf size). done.outcome.verdict) (call_other o m ts (other_i size ts f) c),
      ap (λ (done : TalliedOf size). done.tallies) (call_other o m ts (other_i size ts f) c),
    );
  },
)

-- what a load refused past row 3 leaves
load_starts : {size : Size} (o : Order) (m : MemoryOf size) (t : List ℕ) → is_done (load o m t).verdict ≡ false → past_order (load o m t).verdict ≡ true → (load o m t).memory ≡ started o
load_starts {size} o m t h p =
    let d = load_past o m t p in
    ap (λ (out : OutcomeOf size). out.memory) d.2 ∙ laid_refused size o (settled t) (rw d.2 at h)

pub refused_load_keeps : RefusedLoadKeeps
unfolding refusal past_order
refused_load_keeps size o m ts t h = (
  λ p. elim (either (list_fits size ts)) [
    | inl f ↦ rw (load_out o m ts f t) (load_kept o m t (rw (load_out o m ts f t) at p))
    | inr f ↦ rw (load_other o m ts f t)
  ],
  λ p. elim (either (list_fits size ts)) [
    | inl f ↦ rw (load_out o m ts f t) (load_starts o m t (rw (load_out o m ts f t) at h) (rw (load_out o m ts f t) at p))
    | inr f ↦ absurd (false≢true (rw (load_other o m ts f t) at p))
  ],
  record {
    counted = λ f. only_refused 0 _ ts _ (first_within o m ts f) h (load_leaves o m ts f t (not_granted _ h));
    uncounted = λ f. (
      ap (λ (done : TalliedOf size). done.outcome.verdict) (load_other o m ts (other_i size ts f) t),
      ap (λ (done : TalliedOf size). done.tallies) (load_other o m ts (other_i size ts f) t),
    );
  },
)

-- ---- whose record

pub all_asked : AllAsked
all_asked Start = inl of_start
all_asked (Read e d x) = inr (e, of_read e d x)
all_asked (Write e d x) = inr (e, of_write e d x)
all_asked (Execute c i n l r) = inr (c, of_execute c i n l r)
all_asked (Create c d n k l) = inr (c, of_create c d n k l)
all_asked (CreateRoot c d n l) = inr (c, of_create_root c d n l)
all_asked (Move e d x f t) = inr (e, of_move e d x f t)
all_asked (Delete e d x k) = inr (e, of_delete e d x k)
all_asked (CallTask a b) = inr (a, of_call a b)
all_asked (Invoke a b) = inr (a, of_invoke a b)
all_asked (Pass z x y) = inr (z, of_pass z x y)
all_asked (Post x z y) = inr (x, of_post x z y)
all_asked (Find x z y) = inr (x, of_find x z y)
all_asked (Mark e) = inl (of_mark e)
all_asked (Step x) = inl (of_step x)
all_asked Spread = inl of_spread

asker_first : {size : Size} (m : MemoryOf size) (x : ℕ) (c : Call) → AskedBy x c → asker m c ≡ if_task m x
unfolding asker
asker_first m x c (of_read e d y) = refl
asker_first m x c (of_write e d y) = refl
asker_first m x c (of_execute e i n l r) = refl
asker_first m x c (of_create e d n k l) = refl
asker_first m x c (of_create_root e d n l) = refl
asker_first m x c (of_move e d y f t) = refl
asker_first m x c (of_delete e d y k) = refl
asker_first m x c (of_call a b) = refl
asker_first m x c (of_invoke a b) = refl
asker_first m x c (of_pass z y w) = refl
asker_first m x c (of_post y z w) = refl
asker_first m x c (of_find y z w) = refl

asker_none : {size : Size} (m : MemoryOf size) (c : Call) → AskedByNone c → asker m c ≡ 0
unfolding asker
asker_none m c of_start = refl
asker_none m c (of_mark e) = refl
asker_none m c (of_step x) = refl
asker_none m c of_spread = refl

-- a start has no first number
start_unasked : (x : ℕ) → AskedBy x Start → ⊥
start_unasked x a = elim a [ ]

-- on which record a call with the verdict v counts
module _ {size : Size} (m : MemoryOf size) (v : ℕ) where
  on_first : (x : ℕ) (c : Call) → AskedBy x c → past_order v ≡ true → task m x ≡ true → counted_on m c v ≡ x
  unfolding counted_on if_task
  on_first x c a p t = rw (p, asker_first m x c a, t)

  on_no_task : (x : ℕ) (c : Call) → AskedBy x c → past_order v ≡ true → task m x ≡ false → counted_on m c v ≡ 0
  unfolding counted_on if_task
  on_no_task x c a p t = rw (p, asker_first m x c a, t)

  on_zero : (c : Call) → AskedByNone c ⊎ (past_order v ≡ false) → counted_on m c v ≡ 0
  unfolding counted_on
  on_zero c (inl a) = elim (either (past_order v)) [ inl p ↦ rw p (asker_none m c a) | inr p ↦ rw p ]
  on_zero c (inr p) = rw p

pub on_asker : OnAsker
on_asker size o m ts x c f a p = (λ t. at x (on_first m v x c a p t), λ t. at 0 (on_no_task m v x c a p t))
  where
    v : ℕ
    v = (performed o m ts c).outcome.verdict

    at : (i : ℕ) → counted_on m c v ≡ i → RaisedOnly i v ts (performed o m ts c).tallies
    at i e =
        subst (λ (i : ℕ). RaisedOnly i v ts (performed o m ts c).tallies) e
        ((others_kept size o m ts f).0 c (λ s g. start_unasked x (subst (λ (d : Call). AskedBy x d) s a)))

-- 2 and 3 are no grants
past_granted : (v : ℕ) → past_order v ≡ false → v ≡ granted → ⊥
unfolding past_order
past_granted v p e = true≢false (rw e at p)

pub on_record_zero : OnRecordZero
on_record_zero size o m ts c f = (λ a. at (inl a), λ p. at (inr p) (λ s. past_granted _ p))
  where
    v : ℕ
    v = (performed o m ts c).outcome.verdict

    at : AskedByNone c ⊎ (past_order v ≡ false) → (c ≡ Start → v ≡ granted → ⊥) → RaisedOnly 0 v ts (performed o m ts c).tallies
    at z n = subst (λ (i : ℕ). RaisedOnly i v ts (performed o m ts c).tallies) (on_zero m v c z) ((others_kept size o m ts f).0 c n)

-- ---- what begins anew

counts_itself : (size : Size) → CountsItself size (raised_at 0 granted (zeroed size))
unfolding raised_at zeroed raised one_more
counts_itself size =
    record {
      as_long = length-set zeros 0 _ ∙ long;
      itself = get_or-set_same zeros 0 _ nothing_counted (rw long (some_number size)) ∙ rw (get_or-replicate (numbers_of size) 0 nothing_counted nothing_counted (some_number size));
      others_zero = λ j l n. get_or-set_other zeros 0 j _ nothing_counted n ∙ get_or-replicate (numbers_of size) j nothing_counted nothing_counted l;
    }
  where
    zeros : List Tally
    zeros = replicate (numbers_of size) nothing_counted

    long : length zeros ≡ numbers_of size
    long = length-replicate (numbers_of size) nothing_counted

module _ {size : Size} (o : Order) (m : MemoryOf size) (ts : List Tally) where
  start_anew : (performed o m ts Start).outcome.verdict ≡ granted → (performed o m ts Start).tallies ≡ raised_at 0 granted (zeroed size)
  unfolding refusal counted counted_on asker is_start past_order
  start_anew g =
      elim (either (list_fits size ts)) [
        | inl f ↦ ap (λ (done : TalliedOf size). done.tallies) (call_fits o m ts f Start) ∙ rw (sym (ap (λ (out : OutcomeOf size). out.verdict) (call_out o m ts f Start)) ∙ g)
        | inr f ↦ absurd (refused_with (sym (ap (λ (done : TalliedOf size). done.outcome.verdict) (call_other o m ts f Start)) ∙ g))
      ]

  load_anew : (t : List ℕ) → (loaded o m ts t).outcome.verdict ≡ granted → (loaded o m ts t).tallies ≡ raised_at 0 granted (zeroed size)
  unfolding refusal counted
  load_anew t g =
      elim (either (list_fits size ts)) [
        | inl f ↦ ap (λ (done : TalliedOf size). done.tallies) (load_fits o m ts f t) ∙ rw (sym (ap (λ (out : OutcomeOf size). out.verdict) (load_out o m ts f t)) ∙ g)
        | inr f ↦ absurd (refused_with (sym (ap (λ (done : TalliedOf size). done.outcome.verdict) (load_other o m ts f t)) ∙ g))
      ]

pub begun_anew_law : BegunAnew
begun_anew_law size o m ts = (λ g. rw (start_anew o m ts g) (counts_itself size), λ t g. rw (load_anew o m ts t g) (counts_itself size))

-- ---- the lists of demand 3

module _ {size : Size} (ts : List Tally) where
  next_fits : list_fits size ts ≡ true → (i : Item) (s : StandingOf size) → next_whole (with_tallies ts i) s ≡ next i s
  unfolding next_whole next
  next_fits h (asks o c) s = rw (call_out o s.memory ts h c)
  next_fits h (reports o) s = refl
  next_fits h (loads o t) s = rw (load_out o s.memory ts h t)

  next_other : list_fits size ts ≡ false → (i : Item) (s : StandingOf size) → next_whole (with_tallies ts i) s ≡ s
  unfolding next_whole refusal past_order
  next_other h (asks o c) s = rw (call_other o s.memory ts h c)
  next_other h (reports o) s = refl
  next_other h (loads o t) s = rw (load_other o s.memory ts h t)

  admitted_fits : list_fits size ts ≡ true → (i : Item) (s : StandingOf size) → AdmittedWhole (with_tallies ts i) s → Admitted i s
  admitted_fits h (asks o c) s a = rw (call_out o s.memory ts h c) at a
  admitted_fits h (reports o) s a = tt
  admitted_fits h (loads o t) s a = tt

pub tallies_apart : TalliesApart
unfolding run_whole run fitting
tallies_apart size [] s = refl
tallies_apart size (with_tallies ts i ∷ is) s =
    elim (either (list_fits size ts)) [
      | inl h ↦ rw (h, next_fits ts h i s) (tallies_apart size is (next i s))
      | inr h ↦ rw (h, next_other ts h i s) (tallies_apart size is s)
    ]

fitting_admissible : {size : Size} (is : List WholeItem) (s : StandingOf size) → AdmissibleWhole is s → Admissible (fitting size is) s
unfolding fitting
fitting_admissible [] s a = tt
fitting_admissible {size} (with_tallies ts i ∷ is) s a =
    elim (either (list_fits size ts)) [
      | inl h ↦ rw h (admitted_fits ts h i s a.0, fitting_admissible is (next i s) (rw (next_fits ts h i s) at a.1))
      | inr h ↦ rw h (fitting_admissible is s (rw (next_other ts h i s) at a.1))
    ]

-- a list of another length is refused with 2, so what begins a list was lent one of the right length
whole_begins : {size : Size} (b : WholeItem) (m : MemoryOf size) → BeginsWhole m b → Begins m (item b)
unfolding refusal past_order
whole_begins {size} b m (by_whole_start ts o g) =
    elim (either (list_fits size ts)) [
      | inl f ↦ by_start o (rw (call_out o m ts f Start) at g)
      | inr f ↦ absurd (two_not_granted (rw (call_other o m ts f Start) at g))
    ]
  where
    two_not_granted : row_state ≡ granted → ⊥
    two_not_granted e = omega (arith, e)
whole_begins {size} b m (by_whole_load ts o t g) =
    elim (either (list_fits size ts)) [
      | inl f ↦ by_load o t (rw (load_out o m ts f t) at g)
      | inr f ↦ absurd (false≢true (rw (load_other o m ts f t) at g))
    ]

pub whole_reached : WholeReached
whole_reached size b m is g a = record { beginning = whole_begins b m g; admissible = fitting_admissible is (begun (item b) m) a }
