use Rattle.std.proofs.Common.{◌≡◌, refl, ◌∙◌, arith}
use Rattle.bits.specs.All.{up_to}
use Rattle.rows.specs.Size.{numbers}
use Rattle.model.specs.State.{memory}
use Rattle.model.specs.Effects.{mark_where}
use Rattle.marking.specs.MarksLaws.{objects_next}
use Rattle.marking.proofs.marks.mark_objects.Goals as goal
use Rattle.marking.proofs.marks.mark_objects.Goals.{then-is_object_of, else-is_object_of}

pub loop-x-init : goal.loop-x-init
unfolding up_to
loop-x-init c ws = refl

pub loop-x-preserved : goal.loop-x-preserved
loop-x-preserved c ws =
    let a = c.args in
    let next = objects_next (memory a.bytes.now ws) a.driver c.loop-x.x (omega arith) (c.loop-x.invariant ws) (c.is_object_of.ensures ws) in
    elim c.if-is_object_of.branch [
      | then-is_object_of w ↦ rw w.bytes-is (w.mark_one.ensures ws ∙ (rw w.if-is_object_of.true at next))
      | else-is_object_of w ↦ rw w.bytes-is (rw w.if-is_object_of.false at next)
    ]

pub returns : goal.returns
unfolding mark_where
returns c ws =
    let e : c.loop-x.x ≡ numbers = omega arith in
    rw e at (c.loop-x.invariant ws)
