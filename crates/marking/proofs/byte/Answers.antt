use Rattle.std.proofs.Common.{refl}
use Rattle.records.specs.Records.{field}
use Rattle.marking.proofs.byte.Goals as goal

pub returns : goal.returns
unfolding field
returns c = refl
