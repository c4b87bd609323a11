use Rattle.std.proofs.Common.{◌≡◌, ◌-◌, refl, sym, ◌∙◌, arith}
use Rattle.rows.specs.Size.{present}
use Rattle.model.specs.Inside.{most_steps}
use Rattle.places.specs.Places.{bytes_inside}
use Rattle.places.specs.PlaceLaws.{steps_none, turn_found, turn_root, turn_on}
use Rattle.places.proofs.lies_inside.Goals as goal

pub loop-init : goal.loop-init
unfolding bytes_inside
loop-init c = refl

pub returns-then-at-y : goal.returns-then-at-y
returns-then-at-y c = sym (turn_found _ _ c.field-container.ensures c.loop-test.true c.if-at-y.true) ∙ c.loop.invariant

pub returns-then-container : goal.returns-then-container
returns-then-container c = sym (turn_root _ _ c.field-container.ensures c.loop-test.true c.if-at-y.false c.if-container.true) ∙ c.loop.invariant

pub loop-preserved : goal.loop-preserved
loop-preserved c = sym (turn_on _ _ c.field-container.ensures c.loop-test.true c.if-at-y.false c.if-container.false) ∙ c.loop.invariant

pub returns : goal.returns
returns c =
    let none : most_steps present - c.loop.counter ≡ 0 = omega arith in
    sym (steps_none _ _ _) ∙ rw none at c.loop.invariant
