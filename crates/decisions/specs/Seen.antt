-- The memory that a view of a state shows.
-- Assumes nothing.
use Rattle.model.specs.State.{Memory, memory}
use Rattle.decisions.specs.declared.facts.View.{View}

abbrev pub seen : View → Memory
seen v = memory v.bytes.now v.words.now
