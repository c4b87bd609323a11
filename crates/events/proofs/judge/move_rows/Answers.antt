use Rattle.std.proofs.Common.{◌∙◌, ap}
use Rattle.model.specs.Verdicts.{number_of}
use Rattle.model.proofs.VerdictLaws.{only_granted}
use Rattle.events.specs.EventLaws.{walk_asked, walk_unasked}
use Rattle.events.proofs.judge.move_rows.Goals as goal

pub returns-in_default : goal.returns-in_default
returns-in_default c =
    walk_unasked _ _ _ _ _ _ _ _
    (simp (c.driven-above.ensures, c.move_named.ensures, c.unless-place.ensures, c.may_move.ensures))
    (λ h. c.in_default.not-Granted (only_granted _ h))

pub returns : goal.returns
returns c =
    let z = c.args in
    c.unless.ensures
    ∙ walk_asked z.view.now.bytes.now z.view.now.words.now z.e z.d z.x z.f z.t (number_of z.rest)
    (simp (c.driven-above.ensures, c.move_named.ensures, c.unless-place.ensures, c.may_move.ensures))
    (ap number_of c.in-Granted.is)
    c.lies_inside.ensures
    (simp (c.unless-held.ensures, c.all_write.ensures))
