-- Whether a call that has a told word is granted is settled without marks: one fact for each of the eight.
-- Assumes nothing.
use Rattle.std.specs.Prelude.{◌≡◌, Bool, not, ◌&&◌, ◌||◌, List, [], ◌∷◌, eqb, leb, ltb, length}
use Rattle.std.proofs.Math.Path.{refl, ap}
use Rattle.std.proofs.Common.{sym, ◌∙◌, arith, leb-true, ltb-true, ltb-false, ne_eqb}
use Rattle.std.proofs.Math.Bool.{true, false, cond}
use Rattle.std.proofs.lemmas.Bool.{false≢true}
use Rattle.std.proofs.Math.Logic.{inl, inr}
use Prim.Native.Nat.{ℕ, zero, suc}
use Rattle.bits.specs.AllLaws.{either, and_l, and_r, and-false, or_l}
use Rattle.rows.specs.Size.{Size, numbers_of}
use Rattle.levels.specs.declared.Order.{Order}
use Rattle.levels.specs.Order.{order_passes}
use Rattle.records.specs.Records.{record_size, field, set_field, is_task, is_object, lies_within, sound_of}
use Rattle.records.specs.RecordLaws.{field_past, field_else, long}
use Rattle.model.specs.Verdicts.{granted, slipped, row_state, row_order, row_number}
use Rattle.model.specs.State.{MemoryOf, lengths_fit, in_use, task, object, container_of, lies_in, marked, has_write}
use Rattle.model.specs.Inside.{most_steps, walk, inside}
use Rattle.model.specs.Effects.{with_bytes}
use Rattle.model.specs.Events.{Test, need, Event, OutcomeOf, unless, first_failing, verdict_of, outcome, read, write, execute, create, create_root, move, call_task, invoke}
use Rattle.model.specs.Monitor.{refusal, refused_unless, fitted, perform}
use Rattle.model.specs.Tallies.{list_fits, performed}
use Rattle.model.specs.Told.{told_yes, told_no, yes_or_no, told, SameButMarks}
use Rattle.model.proofs.TableLaws.{refusals}
use Rattle.model.proofs.TallyLaws.{call_out, call_other}
use Rattle.model.specs.declared.Call.{Call}
use Rattle.model.specs.declared.Call.TheVariants.{Start, Read, Write, Execute, Create, CreateRoot, Move, Delete, CallTask, Invoke, Pass, Post, Find, Mark, Step, Spread}
use Rattle.model.specs.declared.Tally.{Tally}

-- ---- tables

-- every row's need holds
passes : List Test → Bool
passes [] = true
passes (need n ok ∷ rest) = ok && passes rest

-- granted: they do, and what only an honest driver enforces does
granted_passes : (ts : List Test) (honest : Bool) → refusals ts ≡ true → eqb (first_failing ts (unless honest slipped granted)) granted ≡ (passes ts && honest)
unfolding first_failing unless passes
granted_passes [] true r = refl
granted_passes [] false r = refl
granted_passes (need n true ∷ ts) honest r = granted_passes ts honest (and_r (leb row_number n) (refusals ts) r)
granted_passes (need n false ∷ ts) honest r = ne_eqb n granted (λ e. omega (arith, e, leb-true row_number n (and_l (leb row_number n) (refusals ts) r)))

-- two tables whose needs are equal row by row, where what only an honest driver enforces holds
abbrev Agree : Bool → List Test → List Test → Type 0
Agree honest [] [] = Unit {0}
Agree honest [] (u ∷ us) = ⊥
Agree honest (t ∷ ts) [] = ⊥
Agree honest (need j a ∷ ts) (need k b ∷ us) = (honest ≡ true → a ≡ b) × Agree honest ts us

agree_pass : (honest : Bool) (ts us : List Test) → honest ≡ true → Agree honest ts us → passes ts ≡ passes us
unfolding passes
agree_pass honest [] [] h a = refl
agree_pass honest [] (u ∷ us) h a = absurd a
agree_pass honest (t ∷ ts) [] h a = absurd a
agree_pass honest (need j p ∷ ts) (need k q ∷ us) h a = rw (a.0 h, agree_pass honest ts us h a.1)

agree_passes : (honest : Bool) (ts us : List Test) → Agree honest ts us → (passes ts && honest) ≡ (passes us && honest)
agree_passes true ts us a = rw (agree_pass true ts us refl a)
agree_passes false ts us a = and-false (passes ts) ∙ sym (and-false (passes us))

-- one is granted exactly when the other is
abbrev Alike : Event → Event → Type 0
Alike d e = eqb (verdict_of d) granted ≡ eqb (verdict_of e) granted

alike : (d e : Event) → refusals d.tests ≡ true → refusals e.tests ≡ true → d.honest ≡ e.honest → Agree d.honest d.tests e.tests → Alike d e
unfolding verdict_of
alike d e p q h a =
    granted_passes d.tests d.honest p ∙ agree_passes d.honest d.tests e.tests a ∙ ap (λ b. passes e.tests && b) h ∙ sym (granted_passes e.tests e.honest q)

-- where the needs are equal altogether, so are the verdicts
unmarked : (d e : Event) → d.tests ≡ e.tests → d.honest ≡ e.honest → Alike d e
unfolding verdict_of
unmarked d e t h = rw (t, h)

-- the row that a marked driver lets through does not matter where its honest test holds
slips : (h g a b : Bool) → h ≡ g → h ≡ true → (h || a) ≡ (g || b)
slips h g a b e t = or_l h a t ∙ sym (or_l g b (sym e ∙ t))

-- ---- two sound memories that differ only in marks

-- one more mark, or one less
pub one_mark : {size : Size} (m : MemoryOf size) (x v : ℕ) → SameButMarks m (with_bytes m (set_field m.bytes x 5 v))
one_mark m x v = record { same_bytes = λ y f l k h. sym (field_else m.bytes x 5 v y f (omega arith) k (inr h)); same_words = refl }

module _ {size : Size} (o : Order) (m n : MemoryOf size) (k : SameButMarks m n) (sm : sound_of size o m.bytes ≡ true) (sn : sound_of size o n.bytes ≡ true) where
  -- what is read of both is the same: every byte of a record but that of the marks
  same : (x f : ℕ) → (ltb f record_size && not (eqb f 5)) ≡ true → field m.bytes x f ≡ field n.bytes x f
  same x f c =
      let l = ltb-true f record_size (and_l (ltb f record_size) (not (eqb f 5)) c) in
      let apart : f ≡ 5 → ⊥ = λ e. false≢true (rw e at (and_r (ltb f record_size) (not (eqb f 5)) c)) in
      elim (either (ltb x (numbers_of size))) [
        | inl t ↦ k.same_bytes x f (ltb-true x (numbers_of size) t) l apart
        | inr t ↦
            let past = ltb-false x (numbers_of size) t in
            field_past size m.bytes x f (long size o m.bytes sm) past ∙ sym (field_past size n.bytes x f (long size o n.bytes sn) past)
      ]

  same_used : (x : ℕ) → in_use m x ≡ in_use n x
  unfolding in_use
  same_used x = rw (same x 0 refl)

  same_task : (x : ℕ) → task m x ≡ task n x
  unfolding task is_task
  same_task x = rw (same x 0 refl)

  same_object : (x : ℕ) → object m x ≡ object n x
  unfolding object is_object
  same_object x = rw (same x 0 refl)

  same_place : (x y : ℕ) → lies_in m x y ≡ lies_in n x y
  unfolding lies_within
  same_place x y = rw (same x 4 refl, same x 6 refl)

  same_walk : (i x y : ℕ) → walk i m x y ≡ walk i n x y
  unfolding walk
  same_walk zero x y = refl
  same_walk (suc i) x y = rw (same_place x y, same x 4 refl, same x 6 refl, same_walk i (container_of n x) y)

  same_inside : (x y : ℕ) → inside m x y ≡ inside n x y
  unfolding inside
  same_inside x y = same_walk (most_steps size) x y

  same_access : (x y : ℕ) → has_write m x y ≡ has_write n x y
  unfolding has_write
  same_access x y = rw k.same_words

  ruleset sames = (same, same_task, same_object, same_used, same_place, same_inside, same_access)

  -- ---- the eight calls

  read_alike : (e d x : ℕ) → Alike (read o m e d x) (read o n e d x)
  unfolding read
  read_alike e d x =
      let honest : (read o m e d x).honest ≡ (read o n e d x).honest = simp sames in
      alike (read o m e d x) (read o n e d x) refl refl honest (λ h. simp sames, (λ h. simp sames, (λ h. simp sames, (slips _ _ (marked m d) (marked n d) honest, (λ h. simp sames, tt)))))

  write_alike : (e d x : ℕ) → Alike (write o m e d x) (write o n e d x)
  unfolding write
  write_alike e d x =
      let honest : (write o m e d x).honest ≡ (write o n e d x).honest = simp sames in
      alike (write o m e d x) (write o n e d x) refl refl honest (λ h. simp sames, (λ h. simp sames, (slips _ _ (marked m d) (marked n d) honest, (λ h. simp sames, tt))))

  move_alike : (e d x f t : ℕ) → Alike (move o m e d x f t) (move o n e d x f t)
  unfolding move
  move_alike e d x f t =
      let honest : (move o m e d x f t).honest ≡ (move o n e d x f t).honest = simp sames in
      alike (move o m e d x f t) (move o n e d x f t) refl refl honest
      (λ h. simp sames, (λ h. simp sames, (λ h. simp sames, (λ h. simp sames, (slips _ _ (marked m d) (marked n d) honest, (λ h. simp sames, tt))))))

  execute_alike : (c i x l r : ℕ) → Alike (execute o m c i x l r) (execute o n c i x l r)
  unfolding execute
  execute_alike c i x l r = unmarked (execute o m c i x l r) (execute o n c i x l r) (simp sames) refl

  create_alike : (c d x y l : ℕ) → Alike (create o m c d x y l) (create o n c d x y l)
  unfolding create
  create_alike c d x y l = unmarked (create o m c d x y l) (create o n c d x y l) (simp sames) refl

  create_root_alike : (c d x l : ℕ) → Alike (create_root o m c d x l) (create_root o n c d x l)
  unfolding create_root
  create_root_alike c d x l = unmarked (create_root o m c d x l) (create_root o n c d x l) (simp sames) refl

  call_alike : (a b : ℕ) → Alike (call_task o m a b) (call_task o n a b)
  unfolding call_task
  call_alike a b = unmarked (call_task o m a b) (call_task o n a b) (simp sames) refl

  invoke_alike : (a b : ℕ) → Alike (invoke o m a b) (invoke o n a b)
  unfolding invoke
  invoke_alike a b = unmarked (invoke o m a b) (invoke o n a b) (simp sames) refl

  -- ---- behind rows 2 and 3

  same_fit : (lengths_fit m && sound_of size o m.bytes) ≡ (lengths_fit n && sound_of size o n.bytes)
  unfolding lengths_fit
  same_fit = rw (sm, sn, long size o m.bytes sm, long size o n.bytes sn, k.same_words)

  guarded : (ok : Bool) (v : ℕ) (d e : OutcomeOf size) → eqb d.verdict granted ≡ eqb e.verdict granted
      → eqb (refused_unless ok v m d).verdict granted ≡ eqb (refused_unless ok v n e).verdict granted
  unfolding refused_unless refusal
  guarded true v d e h = h
  guarded false v d e h = refl

  behind : (d e : Event) → Alike d e → eqb (fitted o m (outcome m d)).verdict granted ≡ eqb (fitted o n (outcome n e)).verdict granted
  unfolding fitted outcome
  behind d e h = rw same_fit (guarded (lengths_fit n && sound_of size o n.bytes) row_state _ _ (guarded (order_passes o) row_order (outcome m d) (outcome n e) h))

  heard : (d e : Event) → Alike d e → yes_or_no (fitted o m (outcome m d)).verdict ≡ yes_or_no (fitted o n (outcome n e)).verdict
  unfolding yes_or_no
  heard d e h = ap (λ b. cond b told_yes told_no) (behind d e h)

  -- ---- every call, and whole calls

  perform_alike : (c : Call) → told c (perform o m c).verdict ≡ told c (perform o n c).verdict
  unfolding told
  perform_alike Start = refl
  perform_alike (Read e d x) = heard _ _ (read_alike e d x)
  perform_alike (Write e d x) = heard _ _ (write_alike e d x)
  perform_alike (Execute c i x l r) = heard _ _ (execute_alike c i x l r)
  perform_alike (Create c d x y l) = heard _ _ (create_alike c d x y l)
  perform_alike (CreateRoot c d x l) = heard _ _ (create_root_alike c d x l)
  perform_alike (Move e d x f t) = heard _ _ (move_alike e d x f t)
  perform_alike (Delete e d x y) = refl
  perform_alike (CallTask a b) = heard _ _ (call_alike a b)
  perform_alike (Invoke a b) = heard _ _ (invoke_alike a b)
  perform_alike (Pass z x y) = refl
  perform_alike (Post x z y) = refl
  perform_alike (Find x z y) = refl
  perform_alike (Mark e) = refl
  perform_alike (Step x) = refl
  perform_alike Spread = refl

  pub told_alike : (ts us : List Tally) (c : Call) → length ts ≡ length us → told c (performed o m ts c).outcome.verdict ≡ told c (performed o n us c).outcome.verdict
  unfolding list_fits
  told_alike ts us c e =
      let fits : list_fits size us ≡ list_fits size ts = rw e in
      elim (either (list_fits size ts)) [
        | inl h ↦ rw (call_out o m ts h c, call_out o n us (fits ∙ h) c) (perform_alike c)
        | inr h ↦ rw (call_other o m ts h c, call_other o n us (fits ∙ h) c) (unfold refusal in refl)
      ]
