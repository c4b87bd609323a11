-- What the calls at a place are, by what the reader answers there.
-- Assumes nothing.
use Rattle.std.specs.Prelude.{◌≡◌, Ok, Err, List, [], ◌∷◌, ◌++◌, ℕ, ◌+◌, ◌≤◌, ◌<◌, length, get_or, drop}
use Rattle.std.proofs.Common.{sym, arith, length-drop, drop_of_length-le}
use Rattle.levels.specs.declared.Order.{Order}
use Rattle.layout.specs.Layout.{most_deep, line_feed, closing}
use Rattle.layout.specs.declared.fields.Object.{Object}
use Rattle.layout.specs.declared.fields.Task.{Task}
use Rattle.layout.specs.Reading.{Reading, head, task_at}
use Rattle.layout.specs.Answers.{answer}
use Rattle.layout.proofs.PlaceLaws.{Goes, cons_at, lost_of, head_got, task_got}
use Rattle.layout.specs.declared.fields.Found.{Found}
use Rattle.layout.specs.declared.fields.Lost.{Lost}
use Rattle.model.specs.Ready.{Ready}
use Rattle.loading.specs.Calls.{Holder, object_calls, task_calls, calls_from}
use Rattle.loading.specs.CallsLaws.{at_end_law, at_closing, at_line, at_task, at_object, at_no_task, at_no_object, at_no_level, at_no_holder}
use Rattle.loading.specs.Forms.{TaskAt, ObjectAt, Further}

-- what was read goes on past where it began, with a memory that is ready
pub further : {A : Type 0} {r : Reading A} {a : A} (o : Order) (t : List ℕ) (at e : ℕ) (bs ws : List ℕ) → Goes t at r a e × (length (drop e t) < length (drop at t)) → Ready o bs ws → Further o t at e bs ws
further o t at e bs ws g r = (omega (arith, g.1, length-drop e t, length-drop at t), g.0.within, r)

module _ (s : List Holder) (t : List ℕ) (at : ℕ) where
  -- ---- a task

  module _ (form : TaskAt t at) where
    here : drop at t ≡ get_or t at 0 ∷ drop (at + 1) t
    here = cons_at t at form.0

    pub no_task : (x : Lost) → answer (length t) (task_at (drop at t)) ≡ Err x → calls_from s (drop at t) ≡ []
    no_task x e =
        let l = lost_of (length t) _ x (rw here at e) in
        rw here (at_no_task s (get_or t at 0) (drop (at + 1) t) l.rest (form.1, form.2) form.3 l.is)

    pub task_calls_law : (f : Found Task) → answer (length t) (task_at (drop at t)) ≡ Ok f → calls_from s (drop at t) ≡ task_calls f.value ++ calls_from s (drop f.end t)
    task_calls_law f q =
        let g = task_got t at f q in
        rw here (at_task s (get_or t at 0) (drop (at + 1) t) _ (drop f.end t) (form.1, form.2) form.3 (rw here at g.0.is))

  -- ---- an object

  module _ (form : ObjectAt t at) where
    begins : drop at t ≡ get_or t at 0 ∷ drop (at + 1) t
    begins = cons_at t at form.0

    pub no_level : most_deep ≤ length s → calls_from s (drop at t) ≡ []
    no_level d = rw begins (at_no_level s (get_or t at 0) (drop (at + 1) t) (form.1, form.2) form.3 d)

    pub no_object : (x : Lost) → answer (length t) (head (drop at t)) ≡ Err x → calls_from s (drop at t) ≡ []
    no_object x e =
        let l = lost_of (length t) _ x (rw begins at e) in
        rw begins (at_no_object s (get_or t at 0) (drop (at + 1) t) l.rest (form.1, form.2) form.3 l.is)

    pub object_calls_law : (f : Found Object) → answer (length t) (head (drop at t)) ≡ Ok f → length s < most_deep
        → calls_from s (drop at t) ≡ object_calls s f.value ++ calls_from (record { number = f.value.number; driver = f.value.driver } ∷ s) (drop f.end t)
    object_calls_law f q deep =
        let g = head_got t at f q in
        rw begins (at_object s (get_or t at 0) (drop (at + 1) t) _ (drop f.end t) (form.1, form.2) form.3 (rw begins at g.0.is) deep)

  -- ---- what stands between forms

  pub closes : (c : Holder) → at < length t → get_or t at 0 ≡ closing → calls_from s (drop (at + 1) t) ≡ calls_from (c ∷ s) (drop at t)
  closes c l b = rw (cons_at t at l, b) (sym (at_closing c s (drop (at + 1) t)))

  pub line : at < length t → get_or t at 0 ≡ line_feed → calls_from s (drop (at + 1) t) ≡ calls_from s (drop at t)
  line l b = rw (cons_at t at l, b) (sym (at_line s (drop (at + 1) t)))

  pub end : length t ≤ at → calls_from s (drop at t) ≡ []
  end l = rw (drop_of_length-le t {i = at} l) (at_end_law s)

pub closes_none : (t : List ℕ) (at : ℕ) → at < length t → get_or t at 0 ≡ closing → calls_from [] (drop at t) ≡ []
closes_none t at l b = rw (cons_at t at l, b) (at_no_holder (drop (at + 1) t))
