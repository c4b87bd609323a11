use Rattle.rows.specs.Rows.{cell}
use Rattle.records.specs.Records.{field}
use Rattle.model.specs.State.{in_use, object, has_flow}
use Rattle.model.specs.Effects.{object_of, feeder}
use Rattle.bridging.proofs.Going.is_fed_by.Goals as goal

pub returns : goal.returns
unfolding feeder in_use has_flow object_of object field cell
returns c = rw (c.has_bit.ensures, c.args.self.now.object, c.args.self.now.drives)
