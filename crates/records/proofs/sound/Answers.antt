use Rattle.records.specs.Records.{task_record, object_record_of, sound_record_of, core_record, sound_of}
use Rattle.records.proofs.sound.Goals as goal

-- no definition of soundness names the rows
pub returns : goal.returns
unfolding sound_of core_record sound_record_of task_record object_record_of
returns c = λ rows. rw c.in-Some.ensures.cases.same at c.sound_under.ensures
