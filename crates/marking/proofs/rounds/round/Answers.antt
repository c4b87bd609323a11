use Rattle.marking.specs.RoundSetLaws.{round_set_law}
use Rattle.marking.proofs.rounds.round.Goals as goal

pub returns : goal.returns
returns c =
    round_set_law _ _ _ _ c.rows_of.ensures c.common-reached.ensures c.union.ensures c.common-driving.ensures c.rows_of-2.ensures
    c.common-driven.ensures c.union-2.ensures
