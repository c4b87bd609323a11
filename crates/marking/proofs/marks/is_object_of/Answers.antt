use Rattle.std.proofs.Common.{refl, sym, ◌∙◌, eq-eqb, ne_eqb}
use Rattle.records.specs.Records.{is_object}
use Rattle.model.specs.State.{object}
use Rattle.model.specs.Effects.{object_of}
use Rattle.marking.proofs.marks.is_object_of.Goals as goal

pub returns-then-byte-eq-OBJECT : goal.returns-then-byte-eq-OBJECT
unfolding object_of object is_object
returns-then-byte-eq-OBJECT c ws = rw (c.byte-then-byte-eq-OBJECT.ensures, eq-eqb _ 2 (sym c.byte.ensures ∙ c.if-byte-eq-OBJECT.true)) refl

pub returns-else-byte-eq-OBJECT : goal.returns-else-byte-eq-OBJECT
unfolding object_of object is_object
returns-else-byte-eq-OBJECT c ws = rw (← c.byte.ensures, ne_eqb _ 2 c.if-byte-eq-OBJECT.false)
