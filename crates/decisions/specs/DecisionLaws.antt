-- From a decision to the verdict and the outcome of its event's table.
-- Assumes nothing.
use Rattle.std.specs.Prelude.{◌≡◌, refl, Bool, false, ◌&&◌, List, ◌∷◌, ℕ, ◌≤◌, ◌<◌}
use Rattle.std.proofs.Common.{sym, ap, ap₂, ◌∙◌, arith, le-leb}
use Rattle.std.proofs.Math.Bool.{true}
use Rattle.std.proofs.lemmas.Bool.{leb-true, leb-false, lt-leb}
use Rattle.rows.specs.Size.{numbers}
use Rattle.records.specs.Records.{BytesLent}
use Rattle.model.specs.Verdicts.{granted, slipped, row_number, row_path, row_rule, is_done}
use Rattle.model.specs.State.{Memory, memory, task, object}
use Rattle.model.proofs.StateLaws.{task_used, object_used, used_below}
use Rattle.model.specs.Effects.{Effect, effect, effects}
use Rattle.model.specs.Events.{Event, left, unless, verdict_of, outcome}
use Rattle.model.proofs.TableLaws.{refusals, Holds, done_tests}
use Rattle.decisions.specs.Decisions.{Decision}
use Rattle.decisions.specs.Decisions.{judged, settled, apart}

-- a settled decision with the verdict of a whole table
pub judged_is : (e : Event) (f : Decision) {d : Decision} → d ≡ settled f → {v : ℕ} → (d.verdict ≡ f.verdict → v ≡ verdict_of e)
    → record { verdict = v; first = d.first; second = d.second } ≡ judged e (settled f)
unfolding settled
judged_is e f is h = let p = h (ap (λ (d : Decision). d.verdict) is) in λ i. record { verdict = p i; first = (is i).first; second = (is i).second }

-- ---- what is not free is one of the numbers

module _ (m : Memory) (x : ℕ) (l : BytesLent m.bytes) where
  pub task_small : task m x ≡ true → x < numbers
  task_small t = used_below m x l (task_used m x t)

  pub object_small : object m x ≡ true → x < numbers
  object_small t = used_below m x l (object_used m x t)

-- below a row of the table its need holds
pub under : (ok : Bool) (n : ℕ) (v w : ℕ) → (ok ≡ true → v ≡ w) → unless ok n v ≡ unless ok n w
unfolding unless
under true n v w h = h refl
under false n v w h = refl

-- the test that stands apart joins the rows: other level tests of the rule may stand beside it
pub apart_joins : (path rule other below honest : Bool)
    → unless path row_path (unless rule row_rule (unless (other && below) row_rule (unless honest slipped granted)))
    ≡ apart below (unless path row_path (unless rule row_rule (unless other row_rule (unless honest slipped granted))))
unfolding unless apart
apart_joins false rule other true honest = refl
apart_joins false rule other false honest = refl
apart_joins true false other true honest = refl
apart_joins true false other false honest = refl
apart_joins true true true true honest = refl
apart_joins true true true false true = refl
apart_joins true true true false false = refl
apart_joins true true false true honest = refl
apart_joins true true false false honest = refl

-- what ends a table is done
pub ends_done : (honest : Bool) → is_done (unless honest slipped granted) ≡ true
unfolding unless
ends_done true = refl
ends_done false = refl

-- what the code's test of a verdict tells of its number
pub passed : {v : ℕ} {b : Bool} → b ≡ is_done v → b ≡ true → v ≤ slipped
passed e h = leb-true _ _ (sym e ∙ h)

pub failed : {v : ℕ} {b : Bool} → b ≡ is_done v → b ≡ false → slipped < v
failed e h = leb-false _ _ (sym e ∙ h)

-- ---- the outcome

-- what the code tells of an event: the verdict, and effects that leave what the table's leave
pub record Told (m : Memory) (e : Event) (j : Decision) (does : Decision → List Effect) : Type 0 where
  pub verdict : j.verdict ≡ verdict_of e
  -- asked only where the event is done
  pub leaves : is_done (verdict_of e) ≡ true → effects (does j) m ≡ effects e.effects m

-- by a decision that is settled: an event that is done passed all its tests, and past them the decision does not refuse. At a concrete event the second argument is `refl`
pub told_by : {m : Memory} {e : Event} (d : Decision) → refusals e.tests ≡ true → (does : Bool → Bool → List Effect) → (Holds e.tests → is_done d.verdict ≡ true)
    → effects (does d.first d.second) m ≡ effects e.effects m → Told m e (judged e (settled d)) (λ j. does j.first j.second)
unfolding settled
told_by {m} {e} d r does passed same =
    record { verdict = refl; leaves = λ h. let p = passed (done_tests e r h) in (λ i. effects (does (p i && d.first) (p i && d.second)) m) ∙ same }

-- a refusal leaves the memory as it was
pub turned_away : (m : Memory) (e : Event) {v : ℕ} → v ≡ verdict_of e → slipped < v → left v 0 m.bytes m.words ≡ outcome m e
unfolding outcome
turned_away m e is h =
    let n : is_done (verdict_of e) ≡ false = rw is at (lt-leb _ _ h) in
    rw n (λ i. record { verdict = is i; rounds = 0; memory = m })

-- an event on wrong numbers is refused with their row, above all else of its table
pub unnamed : (m : Memory) (e : Event) (named : Bool) (rest : ℕ) → verdict_of e ≡ unless named row_number rest → named ≡ false → left row_number 0 m.bytes m.words ≡ outcome m e
unfolding unless
unnamed m e named rest is n = turned_away m e (sym (is ∙ rw n)) (omega arith)

module _ {m : Memory} {e : Event} {j : Decision} {does : Decision → List Effect} (t : Told m e j does) {d : Decision} (is : d ≡ j) where
  same : d.verdict ≡ verdict_of e
  same = rw is t.verdict

  pub done : {bs ws : List ℕ} → d.verdict ≤ slipped → memory bs ws ≡ effects (does d) m → left d.verdict 0 bs ws ≡ outcome m e
  unfolding outcome
  done h s =
      let y : is_done (verdict_of e) ≡ true = rw same at (le-leb _ _ h) in
      let u : memory _ _ ≡ effects e.effects m = s ∙ rw is (t.leaves y) in
      rw y (λ i. record { verdict = same i; rounds = 0; memory = u i })

  pub refused : slipped < d.verdict → left d.verdict 0 m.bytes m.words ≡ outcome m e
  refused h = turned_away m e same h

  -- a call that is done passed all its tests; at a concrete event the last argument is `refl`
  pub told_tests : d.verdict ≤ slipped → refusals e.tests ≡ true → Holds e.tests
  told_tests h r = done_tests e r (rw same at (le-leb _ _ h))

-- an effect on the bytes alone, then effects that leave the bytes
pub bytes_first : (e : Effect) (es : List Effect) (bs : List ℕ) {bs' ws ws' : List ℕ} → bs' ≡ (effect e (memory bs ws)).bytes → (effect e (memory bs ws)).words ≡ ws
    → ((b : List ℕ) → memory b ws' ≡ effects es (memory b ws)) → memory bs' ws' ≡ effects (e ∷ es) (memory bs ws)
unfolding effects
bytes_first e es bs {bs'} {ws} {ws'} p q h = h bs' ∙ ap₂ (λ (b w : List ℕ). effects es (memory b w)) p (sym q)
