use Rattle.std.proofs.Common.{◌≡◌, Bool, not, ◌&&◌, ◌||◌, List, ℕ, sym, ◌∙◌, ap₂, arith, eqb}
use Rattle.bits.specs.AllLaws.{any_none, any_more, any_i}
use Rattle.rows.specs.Size.{numbers}
use Rattle.model.specs.State.{memory, marked, has_flow}
use Rattle.marking.proofs.marks.is_fed.Goals as goal
use Rattle.marking.proofs.marks.is_fed.Goals.{After-has}

abbrev feeds : List ℕ → List ℕ → ℕ → ℕ → Bool
feeds bytes words x y = marked (memory bytes words) y && has_flow (memory bytes words) y x

pub loop-y-init : goal.loop-y-init
loop-y-init c = any_none _

asked : (c : After-has) → feeds c.args.bytes.now c.args.words.now c.args.x c.loop-y.y ≡ (not (eqb c.byte.result 0) && c.has.result)
unfolding marked has_flow
asked c = rw (c.byte.ensures, c.has.ensures)

pub returns-then-byte-has : goal.returns-then-byte-has
returns-then-byte-has c = sym (any_i numbers _ c.loop-y.y (omega arith) (asked (goal.at.returns-then-byte-has c).After-has ∙ c.if-byte-has.true))

pub loop-y-preserved : goal.loop-y-preserved
loop-y-preserved c = any_more c.loop-y.y _ ∙ ap₂ (λ (a b : Bool). a || b) c.loop-y.invariant (asked (goal.at.loop-y-preserved c).After-has ∙ c.if-byte-has.false)
