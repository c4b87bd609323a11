use Rattle.std.proofs.Common.{◌∙◌, le-ltb}
use Rattle.layout.proofs.PlaceLaws.{stands_past, stands_is}
use Rattle.layout.proofs.fields.is_at.Goals as goal

pub returns-then-at-text : goal.returns-then-at-text
returns-then-at-text c = stands_is c.args.text.now c.args.at c.args.b c.if-at-text.true

pub returns-else-at-text : goal.returns-else-at-text
returns-else-at-text c = le-ltb _ _ c.if-at-text.false ∙ stands_past c.args.text.now c.args.at c.args.b c.if-at-text.false
