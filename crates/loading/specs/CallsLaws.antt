-- What the calls of a text are at each form, and that those of a layout's text are the layout's.
-- Assumes nothing.
use Rattle.std.specs.Prelude.{◌≡◌, true, false, cond, List, [], ◌∷◌, ◌++◌, ℕ, zero, suc, ◌+◌, ◌-◌, ◌≤◌, ◌<◌, ltb, length, get_or, take, set, reverse}
use Rattle.std.proofs.Math.Path.{refl}
use Rattle.std.proofs.Common.{sym, ap, ◌∙◌, append_assoc, arith, drop-cons, ne_eqb, lt-ltb, le-ltb}
use Rattle.std.proofs.lemmas.List.{reverse-append, length-reverse, get_or-reverse, take_more_set, length-take-le}
use Rattle.std.proofs.Math.Seq.{take-suc}
use Rattle.std.proofs.lemmas.Bool.{eqb-false}
use Rattle.layout.specs.Layout.{Objects, none, object, root, task, Layout, depth_of, form_depth, depth, most_deep, ObjectFits, TaskFits, ObjectsFit, FormFits, Fits, line_feed, opening, closing, object_word, task_word, field_text, head_text, inner_text, object_text, task_text, form_text, written}
use Rattle.layout.specs.declared.fields.Object.{Object}
use Rattle.layout.specs.declared.fields.Task.{Task}
use Rattle.layout.specs.Reading.{Reading, found, lost, head, task_at}
use Rattle.layout.specs.Answers.{stands_at}
use Rattle.layout.proofs.NumberLaws.{head_written, head_read, head_longer, task_written, task_read, task_longer}
use Rattle.layout.proofs.ReadingLaws.{inner_starts}
use Rattle.model.specs.declared.Call.{Call}
use Rattle.model.specs.declared.Call.TheVariants.{CreateRoot}
use Rattle.model.specs.Load.{inner_calls, form_calls, layout_calls}
use Rattle.loading.specs.Calls.{Holder, object_calls, task_calls, closed, tasked, held, calls_by, calls_from, calls_in}

-- ---- the open objects

-- an object's own calls name the innermost one, if one is open
pub object_root : (hs : List Holder) (h : Object) → length hs ≡ 0 → object_calls (reverse hs) h ≡ CreateRoot 0 h.driver h.number h.level ∷ []
unfolding object_calls
object_root [] h e = refl
object_root (c ∷ hs) h e = absurd (omega arith)

pub object_within : (hs : List Holder) (c : Holder) (h : Object) → 0 < length hs → c ≡ get_or hs (length hs - 1) c → object_calls (c ∷ []) h ≡ object_calls (reverse hs) h
unfolding object_calls
object_within hs c h n e =
    let last : length hs - 1 - 0 ≡ length hs - 1 = omega arith in
    let top : get_or (reverse hs) 0 c ≡ c = get_or-reverse hs 0 c n ∙ rw last (sym e) in
    rw (drop-cons (reverse hs) 0 c (rw (length-reverse hs) n), top)

-- the last one of k closes
pub one_closes : (hs : List Holder) (k : ℕ) (c : Holder) → 0 < k → k ≤ length hs → reverse (take k hs) ≡ get_or hs (k - 1) c ∷ reverse (take (k - 1) hs)
one_closes hs zero c z w = absurd (omega arith)
one_closes hs (suc k) c z w = let e : suc k - 1 ≡ k = omega arith in rw (e, take-suc hs k c (omega arith), reverse-append (take k hs) (get_or hs k c ∷ []))

-- one more opens
pub one_opens : (hs : List Holder) (k : ℕ) (c : Holder) → k < length hs → c ∷ reverse (take k hs) ≡ reverse (take (k + 1) (set hs k c))
one_opens hs k c w = rw (take_more_set hs k c w, reverse-append (take k hs) (c ∷ []))

pub open_length : (hs : List Holder) (k : ℕ) → k ≤ length hs → length (reverse (take k hs)) ≡ k
open_length hs k w = length-reverse (take k hs) ∙ length-take-le k hs w

-- ---- what is read is shorter

pub head_shorter : (t : List ℕ) (h : Object) (u : List ℕ) → head t ≡ found h u → length u < length t
head_shorter t h u e = rw (head_read t h u e).1 (head_longer h u)

pub task_shorter : (t : List ℕ) (a : Task) (u : List ℕ) → task_at t ≡ found a u → length u < length t
task_shorter t a u e = rw (task_read t a u e).1 (task_longer a u)

-- ---- any bound at or past the length is enough

closed_same : (s : List Holder) (j k : List Holder → List Call) → ((r : List Holder) → j r ≡ k r) → closed s j ≡ closed s k
unfolding closed
closed_same [] j k e = refl
closed_same (c ∷ s) j k e = e s

tasked_same : (r : Reading Task) (j k : List ℕ → List Call) → ((a : Task) (u : List ℕ) → r ≡ found a u → j u ≡ k u) → tasked r j ≡ tasked r k
unfolding tasked
tasked_same (found a u) j k e = ap (λ (l : List Call). task_calls a ++ l) (e a u refl)
tasked_same (lost u) j k e = refl

held_same : (s : List Holder) (r : Reading Object) (j k : List Holder → List ℕ → List Call)
    → ((h : Object) (u : List ℕ) → r ≡ found h u → (q : List Holder) → j q u ≡ k q u) → held s r j ≡ held s r k
unfolding held
held_same s (found h u) j k e = ap (λ (l : List Call). cond (ltb (length s) most_deep) (object_calls s h ++ l) []) (e h u refl _)
held_same s (lost u) j k e = refl

enough : (j k : ℕ) (s : List Holder) (t : List ℕ) → length t ≤ j → length t ≤ k → calls_by j s t ≡ calls_by k s t
unfolding calls_by
enough zero zero s t p q = refl
enough zero (suc k) s [] p q = refl
enough zero (suc k) s (b ∷ t) p q = absurd (omega arith)
enough (suc j) zero s [] p q = refl
enough (suc j) zero s (b ∷ t) p q = absurd (omega arith)
enough (suc j) (suc k) s [] p q = refl
enough (suc j) (suc k) s (b ∷ t) p q =
    let same : (r : List Holder) (u : List ℕ) → length u < suc (length t) → calls_by j r u ≡ calls_by k r u = λ r u l. enough j k r u (omega arith) (omega arith) in
    rw (
      closed_same s (λ r. calls_by j r t) (λ r. calls_by k r t) (λ r. same r t (omega arith)),
      same s t (omega arith),
      tasked_same (task_at (b ∷ t)) (calls_by j s) (calls_by k s) (λ a u e. same s u (task_shorter (b ∷ t) a u e)),
      held_same s (head (b ∷ t)) (calls_by j) (calls_by k) (λ h u e q. same q u (head_shorter (b ∷ t) h u e)),
    )

-- ---- a step at each form

-- a byte that is no bracket that closes and no line feed begins a form
abbrev pub Begins : ℕ → Type 0
Begins b = (b ≡ closing → ⊥) × (b ≡ line_feed → ⊥)

pub at_end_law : (s : List Holder) → calls_from s [] ≡ []
unfolding calls_by
at_end_law s = refl

pub at_closing : (c : Holder) (s : List Holder) (t : List ℕ) → calls_from (c ∷ s) (closing ∷ t) ≡ calls_from s t
unfolding calls_by closed
at_closing c s t = refl

pub at_line : (s : List Holder) (t : List ℕ) → calls_from s (line_feed ∷ t) ≡ calls_from s t
unfolding calls_by
at_line s t = refl

pub at_task : (s : List Holder) (b : ℕ) (t : List ℕ) (a : Task) (u : List ℕ) → Begins b → stands_at 116 t ≡ true → task_at (b ∷ t) ≡ found a u → calls_from s (b ∷ t) ≡ task_calls a ++ calls_from s u
unfolding calls_by tasked
at_task s b t a u n w e =
    let l = task_shorter (b ∷ t) a u e in
    rw (ne_eqb b closing n.0, ne_eqb b line_feed n.1, w, e, enough (length t) (length u) s u (omega arith) (omega arith))

pub at_object : (s : List Holder) (b : ℕ) (t : List ℕ) (h : Object) (u : List ℕ) → Begins b → stands_at 116 t ≡ false → head (b ∷ t) ≡ found h u → length s < most_deep
    → calls_from s (b ∷ t) ≡ object_calls s h ++ calls_from (record { number = h.number; driver = h.driver } ∷ s) u
unfolding calls_by held
at_object s b t h u n w e d =
    let l = head_shorter (b ∷ t) h u e in
    let r : List Holder = record { number = h.number; driver = h.driver } ∷ s in
    rw (ne_eqb b closing n.0, ne_eqb b line_feed n.1, w, e, lt-ltb (length s) most_deep d, enough (length t) (length u) r u (omega arith) (omega arith))

-- what is no form, and an object past the eighth level
pub at_no_task : (s : List Holder) (b : ℕ) (t u : List ℕ) → Begins b → stands_at 116 t ≡ true → task_at (b ∷ t) ≡ lost u → calls_from s (b ∷ t) ≡ []
unfolding calls_by tasked
at_no_task s b t u n w e = rw (ne_eqb b closing n.0, ne_eqb b line_feed n.1, w, e)

pub at_no_object : (s : List Holder) (b : ℕ) (t u : List ℕ) → Begins b → stands_at 116 t ≡ false → head (b ∷ t) ≡ lost u → calls_from s (b ∷ t) ≡ []
unfolding calls_by held
at_no_object s b t u n w e = rw (ne_eqb b closing n.0, ne_eqb b line_feed n.1, w, e)

pub at_no_level : (s : List Holder) (b : ℕ) (t : List ℕ) → Begins b → stands_at 116 t ≡ false → most_deep ≤ length s → calls_from s (b ∷ t) ≡ []
unfolding calls_by
at_no_level s b t n w d = rw (ne_eqb b closing n.0, ne_eqb b line_feed n.1, w) (none_held (head (b ∷ t)))
  where
    none_held : (r : Reading Object) → held s r (calls_by (length t)) ≡ []
    none_held (found h u) = unfold held in rw (le-ltb (length s) most_deep d)
    none_held (lost u) = unfold held in refl

-- a bracket that closes no object
pub at_no_holder : (t : List ℕ) → calls_from [] (closing ∷ t) ≡ []
unfolding calls_by closed
at_no_holder t = refl

-- ---- the calls of a layout's text

opens : Begins opening
opens = (eqb-false _ _ refl, eqb-false _ _ refl)

-- the words of an object, and what it holds
head_calls : (s : List Holder) (h : Object) (inner : Objects) (u : List ℕ) → ObjectFits h → length s < most_deep
    → calls_from s (head_text h (inner_text inner (closing ∷ u)))
    ≡ object_calls s h ++ calls_from (record { number = h.number; driver = h.driver } ∷ s) (inner_text inner (closing ∷ u))
unfolding head_text field_text object_word stands_at
head_calls s h inner u f d = at_object s opening _ h (inner_text inner (closing ∷ u)) opens refl (head_written h _ f (inner_starts inner u)) d

inner_calls_law : (fs : Objects) (c : Holder) (s : List Holder) (u : List ℕ) → ObjectsFit fs → length s + depth_of fs < most_deep
    → calls_from (c ∷ s) (inner_text fs (closing ∷ u)) ≡ inner_calls c.number c.driver fs ++ calls_from s u
unfolding ObjectsFit depth_of inner_text inner_calls object_calls
inner_calls_law none c s u f d = at_closing c s u
inner_calls_law (object h inner next) c s u f d =
    let r : Holder = record { number = h.number; driver = h.driver } in
    let v = inner_text next (closing ∷ u) in
    at_line (c ∷ s) (head_text h (inner_text inner (closing ∷ v)))
    ∙ head_calls (c ∷ s) h inner v f.0 (omega arith)
    ∙ ap (λ (l : List Call). object_calls (c ∷ s) h ++ l) (inner_calls_law inner r (c ∷ s) v f.1 (omega arith) ∙ ap (λ (l : List Call). inner_calls h.number h.driver inner ++ l) (inner_calls_law next c s u f.2 (omega arith)))
    ∙ rw append_assoc

task_text_law : (s : List Holder) (a : Task) (u : List ℕ) → TaskFits a → calls_from s (task_text a u) ≡ task_calls a ++ calls_from s u
unfolding task_text field_text task_word stands_at
task_text_law s a u f = at_task s opening _ a u opens refl (task_written a u f)

pub layout_calls_law : (fs : Layout) → Fits fs → depth fs ≤ most_deep → calls_in (written fs) ≡ layout_calls fs
unfolding Fits FormFits depth form_depth written form_text object_text layout_calls form_calls object_calls task_calls
layout_calls_law [] f d = at_end_law []
layout_calls_law (root h inner ∷ fs) f d =
    let r : Holder = record { number = h.number; driver = h.driver } in
    head_calls [] h inner (line_feed ∷ written fs) f.0.0 (omega arith)
    ∙ ap (λ (l : List Call). object_calls [] h ++ l) (inner_calls_law inner r [] (line_feed ∷ written fs) f.0.1 (omega arith) ∙ ap (λ (l : List Call). inner_calls h.number h.driver inner ++ l) (at_line [] (written fs) ∙ layout_calls_law fs f.1 (omega arith)))
layout_calls_law (task a ∷ fs) f d = task_text_law [] a (line_feed ∷ written fs) f.0 ∙ ap (λ (l : List Call). task_calls a ++ l) (at_line [] (written fs) ∙ layout_calls_law fs f.1 (omega arith))
