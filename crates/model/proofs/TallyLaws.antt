-- What the definitions of the tallies come to: the record that a call counts on is one of the list's, and what a whole call or load leaves.
-- Assumes nothing.
use Rattle.std.specs.Prelude.{◌≡◌, refl, Bool, true, false, cond, ◌&&◌, List, ℕ, ◌<◌}
use Rattle.std.proofs.Math.Path.{ap}
use Rattle.std.proofs.Math.Logic.{inl, inr}
use Rattle.std.proofs.Common.{true≢false, length-set}
use Rattle.std.proofs.lemmas.Bool.{false≢true}
use Rattle.std.proofs.Math.Dec.{eqb}
use Rattle.std.proofs.Math.ListN.{length}
use Rattle.std.proofs.lemmas.List.{length-replicate}
use borrow.Author.Tests.{eqb-true, eq-eqb, ne_eqb}
use Rattle.bits.specs.AllLaws.{either, not_so, and_l, and_r}
use Rattle.rows.specs.Size.{Size, numbers_of, lent_words}
use Rattle.rows.proofs.RowLaws.{some_number}
use Rattle.levels.specs.declared.Order.{Order}
use Rattle.records.specs.Records.{lent_bytes, sound_of}
use Rattle.model.specs.Verdicts.{granted, slipped, is_done, row_state, row_order}
use Rattle.model.specs.State.{MemoryOf, lengths_fit, task}
use Rattle.model.proofs.StateLaws.{task_used, used_below}
use Rattle.model.specs.Events.{OutcomeOf}
use Rattle.model.specs.Monitor.{refusal, refused_unless, fitted, start, perform}
use Rattle.model.specs.Load.{load, past_order}
use Rattle.model.proofs.TableLaws.{by_call}
use Rattle.model.specs.Tallies.{one_more, raised, nothing_counted, list_fits, zeroed, raised_at, is_start, if_task, asker, counted_on, TalliedOf, with_list, counted, performed, loaded}
use Rattle.model.specs.declared.Call.{Call}
use Rattle.model.specs.declared.Call.TheVariants.{Start, Read, Write, Execute, Create, CreateRoot, Move, Delete, CallTask, Invoke, Pass, Post, Find, Mark, Step, Spread}
use Rattle.model.specs.declared.Tally.{Tally}

-- ---- a record

pub refused_not : (v : ℕ) → is_done v ≡ false → eqb v granted ≡ false
refused_not v h = ne_eqb v granted (λ e. true≢false (rw e at h))

pub raised_refused : (t : Tally) (v : ℕ) → is_done v ≡ false → raised t v ≡ record { granted = t.granted; slipped = t.slipped; refused = one_more t.refused }
unfolding raised
raised_refused t v h = rw (refused_not v h, ne_eqb v slipped (λ e. true≢false (rw e at h)))

-- ---- who asks

pub start_is : (c : Call) → is_start c ≡ true → c ≡ Start
unfolding is_start
start_is Start h = refl
start_is (Read e d x) h = absurd (false≢true h)
start_is (Write e d x) h = absurd (false≢true h)
start_is (Execute c i n l r) h = absurd (false≢true h)
start_is (Create c d n k l) h = absurd (false≢true h)
start_is (CreateRoot c d n l) h = absurd (false≢true h)
start_is (Move e d x f t) h = absurd (false≢true h)
start_is (Delete e d x k) h = absurd (false≢true h)
start_is (CallTask a b) h = absurd (false≢true h)
start_is (Invoke a b) h = absurd (false≢true h)
start_is (Pass z x y) h = absurd (false≢true h)
start_is (Post x z y) h = absurd (false≢true h)
start_is (Find x z y) h = absurd (false≢true h)
start_is (Mark e) h = absurd (false≢true h)
start_is (Step x) h = absurd (false≢true h)
start_is Spread h = absurd (false≢true h)

pub not_start : (c : Call) → (c ≡ Start → ⊥) → is_start c ≡ false
not_start c h = not_so (is_start c) (λ t. h (start_is c t))

past_state : {size : Size} (ok : Bool) (m : MemoryOf size) (out : OutcomeOf size) → past_order (refused_unless ok row_state m out).verdict ≡ true → ok ≡ true
unfolding refused_unless refusal past_order
past_state true m out h = refl
past_state false m out h = absurd (false≢true h)

-- past row 2 the bytes are sound, but for a start
pub past_sound : {size : Size} (o : Order) (m : MemoryOf size) (out : OutcomeOf size) → past_order (fitted o m out).verdict ≡ true → sound_of size o m.bytes ≡ true
unfolding fitted
past_sound {size} o m out h = and_r (lengths_fit m) (sound_of size o m.bytes) (past_state (lengths_fit m && sound_of size o m.bytes) m _ h)

-- and the lengths are right
pub past_lengths : {size : Size} (o : Order) (m : MemoryOf size) (c : Call) → past_order (perform o m c).verdict ≡ true → lengths_fit m ≡ true
unfolding start fitted
past_lengths {size} o m c =
    by_call (λ out. past_order out.verdict ≡ true → lengths_fit m ≡ true) o m (past_state (lengths_fit m) m _)
    (λ e r h. and_l (lengths_fit m) (sound_of size o m.bytes) (past_state (lengths_fit m && sound_of size o m.bytes) m _ h))
    (λ h. and_l (lengths_fit m) (sound_of size o m.bytes) (past_state (lengths_fit m && sound_of size o m.bytes) m _ h))
    c

module _ {size : Size} (m : MemoryOf size) where
  -- what holds of 0 and of a number that is kept if it names a task holds of whoever asks
  asker_is : (P : ℕ → Type 0) → P 0 → ((x : ℕ) → P (if_task m x)) → (c : Call) → P (asker m c)
  unfolding asker
  asker_is P z f Start = z
  asker_is P z f (Read e d x) = f _
  asker_is P z f (Write e d x) = f _
  asker_is P z f (Execute c i n l r) = f _
  asker_is P z f (Create c d n k l) = f _
  asker_is P z f (CreateRoot c d n l) = f _
  asker_is P z f (Move e d x g t) = f _
  asker_is P z f (Delete e d x k) = f _
  asker_is P z f (CallTask a b) = f _
  asker_is P z f (Invoke a b) = f _
  asker_is P z f (Pass y x t) = f _
  asker_is P z f (Post x y t) = f _
  asker_is P z f (Find x y t) = f _
  asker_is P z f (Mark e) = z
  asker_is P z f (Step x) = z
  asker_is P z f Spread = z

  task_within : lengths_fit m ≡ true → (x : ℕ) → if_task m x < numbers_of size
  unfolding if_task lengths_fit
  task_within l x =
      let long : length m.bytes ≡ lent_bytes size = eqb-true _ _ (and_l (eqb (length m.bytes) (lent_bytes size)) (eqb (length m.words) (lent_words size)) l) in
      elim (either (task m x)) [ inl t ↦ rw t (used_below m x long (task_used m x t)) | inr t ↦ rw t (some_number size) ]

-- a list of the right length has the record that a call counts on
pub counted_within : {size : Size} (o : Order) (m : MemoryOf size) (c : Call) → counted_on m c (perform o m c).verdict < numbers_of size
unfolding counted_on
counted_within {size} o m c =
    elim (either (past_order (perform o m c).verdict)) [
      | inl p ↦ rw p (asker_is m (λ (i : ℕ). i < numbers_of size) (some_number size) (task_within m (past_lengths o m c p)) c)
      | inr p ↦ rw p (some_number size)
    ]

-- ---- lists of the right length

pub zeroed_fits : (size : Size) → list_fits size (zeroed size) ≡ true
unfolding list_fits zeroed
zeroed_fits size = eq-eqb _ _ (length-replicate (numbers_of size) nothing_counted)

raised_fits : (size : Size) (i v : ℕ) (ts : List Tally) → list_fits size ts ≡ true → list_fits size (raised_at i v ts) ≡ true
unfolding list_fits raised_at
raised_fits size i v ts h = rw length-set h

anew_fits : (size : Size) (anew : Bool) (ts : List Tally) → list_fits size ts ≡ true → list_fits size (cond anew (zeroed size) ts) ≡ true
anew_fits size true ts h = zeroed_fits size
anew_fits size false ts h = h

-- ---- whole calls and loads

module _ {size : Size} (o : Order) (m : MemoryOf size) (ts : List Tally) where
  pub call_fits : list_fits size ts ≡ true → (c : Call)
      → performed o m ts c ≡ counted (is_start c && eqb (perform o m c).verdict granted) (counted_on m c (perform o m c).verdict) ts (perform o m c)
  unfolding performed with_list
  call_fits h c = rw h

  pub call_other : list_fits size ts ≡ false → (c : Call) → performed o m ts c ≡ record { outcome = refusal row_state m; tallies = ts }
  unfolding performed with_list
  call_other h c = rw h

  pub load_fits : list_fits size ts ≡ true → (t : List ℕ) → loaded o m ts t ≡ counted (eqb (load o m t).verdict granted) 0 ts (load o m t)
  unfolding loaded with_list
  load_fits h t = rw h

  pub load_other : list_fits size ts ≡ false → (t : List ℕ) → loaded o m ts t ≡ record { outcome = refusal row_state m; tallies = ts }
  unfolding loaded with_list
  load_other h t = rw h

  -- a list of the right length changes nothing of what a call or a load answers and leaves
  pub call_out : list_fits size ts ≡ true → (c : Call) → (performed o m ts c).outcome ≡ perform o m c
  unfolding counted
  call_out h c = ap (λ (done : TalliedOf size). done.outcome) (call_fits h c)

  pub load_out : list_fits size ts ≡ true → (t : List ℕ) → (loaded o m ts t).outcome ≡ load o m t
  unfolding counted
  load_out h t = ap (λ (done : TalliedOf size). done.outcome) (load_fits h t)

  -- and it stays one
  pub call_left_fits : list_fits size ts ≡ true → (c : Call) → list_fits size (performed o m ts c).tallies ≡ true
  unfolding counted
  call_left_fits h c =
      rw (call_fits h c) (raised_fits size (counted_on m c (perform o m c).verdict) (perform o m c).verdict _ (anew_fits size (is_start c && eqb (perform o m c).verdict granted) ts h))

  -- a start that row 3 refuses
  pub start_counted : list_fits size ts ≡ true → perform o m Start ≡ refusal row_order m → performed o m ts Start ≡ record { outcome = refusal row_order m; tallies = raised_at 0 row_order ts }
  unfolding performed with_list counted is_start counted_on past_order
  start_counted h e = rw (h, e) (unfold refusal in refl)
