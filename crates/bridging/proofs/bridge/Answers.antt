use Rattle.std.proofs.Common.{◌≡◌, refl, sym, ◌∙◌, arith, rules}
use Rattle.bits.specs.All.{up_to}
use Rattle.rows.specs.Size.{numbers}
use Rattle.rows.specs.Rows.{bridged}
use Rattle.model.specs.State.{memory}
use Rattle.bridging.specs.BridgeLaws.{all_passed, none_fed, feeder_joined, other_passed}
use Rattle.bridging.proofs.bridge.Goals.{then-is_fed_by, else-is_fed_by}
use Rattle.bridging.proofs.bridge.Goals as goal

-- nothing is fed
pub returns-then-is_empty : goal.returns-then-is_empty
returns-then-is_empty c = none_fed (memory _ _) _ c.fed_by-fed.ensures (sym c.is_empty.ensures ∙ c.if-is_empty.true)

pub loop-p-init : goal.loop-p-init
unfolding bridged up_to
loop-p-init c = refl

pub loop-p-preserved : goal.loop-p-preserved
loop-p-preserved c =
    let i = c.loop-p.invariant in
    let f = c.is_fed_by.ensures in
    elim c.if-is_fed_by.branch [
      | then-is_fed_by w ↦ w.words-is
          ∙ feeder_joined (memory _ _) _ (search rules) (search rules) (omega arith) i f c.fed_by-fed.ensures w.but.ensures w.join_row.ensures w.if-is_fed_by.true
      | else-is_fed_by w ↦ w.words-is ∙ other_passed (memory _ _) _ (search rules) (search rules) (omega arith) i f w.if-is_fed_by.false
    ]

pub returns : goal.returns
returns c =
    let e : c.loop-p.p ≡ numbers = omega arith in
    all_passed (memory _ _) _ (rw e at c.loop-p.invariant)
