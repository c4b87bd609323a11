use Rattle.std.proofs.Common.{eqb, rules, tests, ◌∙◌}
use Rattle.std.proofs.lemmas.Iterator.{YieldsList-from_slice}
use Rattle.std.proofs.lemmas.Iterator.Search.{position_from_yields_List}
use Rattle.script.specs.Script.{space}
use Rattle.script.specs.PiecesLaws.{first_end}
use Rattle.script.proofs.pieces.end_of.Goals as goal

pub returns : goal.returns
returns c = c.unwrap_or.ensures ∙ first_end c.args.line.now (position_from_yields_List (λ b. eqb b space) _ _ c.position.result c.position.ensures.ran (YieldsList-from_slice c.args.line.now cc) (λ x b q k. search (rules, tests)))
