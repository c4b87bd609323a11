use Rattle.bits.specs.All.{all_b}
use Rattle.bits.specs.Bit.{bit}
use Rattle.model.specs.Events.{unless}
use Rattle.decisions.specs.Decisions.{settled, read_decision, write_decision, move_decision, delete_decision, call_decision, invoke_decision, relay_decision}
use Rattle.table.specs.Table.{facts_of, filled}
use Rattle.table.specs.TableLaws.{tested}
use Rattle.table.proofs.whole_table.Goals as goal

-- all 512 entries are tested
pub returns : goal.returns
unfolding filled facts_of all_b bit unless settled read_decision write_decision move_decision delete_decision call_decision invoke_decision relay_decision
returns c = tested _ tt
