use Rattle.std.proofs.Common.{refl, sym, ◌∙◌, arith}
use Rattle.records.specs.WordLaws.{object_bits, other_bits, not_two}
use Rattle.records.specs.SeenLaws.{seen_fits}
use Rattle.records.specs.GroupLaws.{gathered_none, gathered_free, free_group}
use Rattle.records.proofs.gather.Goals as goal

pub loop-x-init : goal.loop-x-init
unfolding seen_fits object_bits other_bits not_two
loop-x-init c = (omega arith, omega arith, gathered_none _ _ refl)

pub loop-x-preserved-then-group_free : goal.loop-x-preserved-then-group_free
loop-x-preserved-then-group_free c =
    let u = c.free_until-x.ensures in
    (u.in_range, u.whole, gathered_free _ _ _ _ c.loop-x.invariant.2 (free_group _ _ _ (sym c.group_free.ensures ∙ c.if-group_free.true) u))
