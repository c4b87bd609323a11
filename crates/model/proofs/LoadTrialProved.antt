-- The trial of the load holds: one computation.
-- Assumes nothing.
use Rattle.std.specs.Prelude.{refl}
use Rattle.bits.specs.All.{all_b}
use Rattle.bits.specs.Bit.{bit}
use Rattle.rows.specs.Rows.{cell, add_cell}
use Rattle.levels.specs.Order.{at_or_below, order_passes, count_fits, reflexive, transitive, antisymmetric, below_top, clear_outside}
use Rattle.records.specs.Records.{field, set_field, set_record, is_task, is_object, free_record, task_record, object_record_of, sound_record_of, core_record, sound_of}
use Rattle.layout.specs.Layout.{depth_of, form_depth, depth, object_word, driver_word, level_word, task_word, image_word, reads_word, decimal, field_text, head_text, inner_text, object_text, task_text, form_text, written}
use Rattle.layout.specs.Reading as reading
use Rattle.layout.specs.Reading.{after, expect, is_digit, more_digits, number, head, task_at, object_by, objects_by, form_at, layout_by, settled_by, settled}
use Rattle.model.specs.State.{lengths_fit, in_use, task, object, marked, has_write}
use Rattle.model.specs.Effects.{effect, effects}
use Rattle.model.specs.Events.{unless, first_failing, verdict_of, outcome, write, execute, create, create_root}
use Rattle.model.specs.Monitor.{fitted, refused_unless, refusal, started}
use Rattle.model.specs.Load.{inner_calls, form_calls, layout_calls, in_turn, whole, laid_out, load}
use Rattle.model.specs.Trials.{order_of, Q, fresh}
use Rattle.model.specs.LoadTrial.{example, LoadTrial}

pub load_trial : LoadTrial
unfolding load laid_out whole in_turn layout_calls form_calls inner_calls example settled settled_by layout_by form_at object_by objects_by task_at head reading.field number more_digits is_digit expect after written form_text task_text object_text inner_text head_text field_text decimal object_word driver_word level_word task_word image_word reads_word depth form_depth depth_of all_b order_of Q fresh started fitted refused_unless refusal lengths_fit sound_of core_record sound_record_of free_record task_record object_record_of is_task is_object field set_field set_record order_passes count_fits reflexive transitive antisymmetric below_top clear_outside at_or_below bit outcome verdict_of first_failing unless write execute create create_root in_use task object marked has_write effects effect add_cell cell
load_trial = (refl, refl)
