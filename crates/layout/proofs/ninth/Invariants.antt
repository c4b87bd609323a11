use Rattle.std.proofs.Common.{◌≡◌, ◌+◌, ◌≤◌, drop}
use Rattle.layout.specs.Layout.{most_deep}
use Rattle.layout.specs.Reading.{ninth_from}
use Rattle.layout.proofs.ninth.Given as goal

abbrev pub invariant-loop-at : goal.invariant-loop-at
invariant-loop-at l = (l.held ≤ most_deep) × (ninth_from 0 l.text ≡ l.at + ninth_from l.held (drop l.at l.text))
