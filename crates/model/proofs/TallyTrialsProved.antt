-- The trials of the tallies hold: each is a computation.
-- Assumes nothing.
use Rattle.std.specs.Prelude.{refl}
use Rattle.bits.specs.All.{all_b}
use Rattle.bits.specs.Bit.{bit}
use Rattle.rows.specs.Rows.{add_cell}
use Rattle.levels.specs.Order.{at_or_below, order_passes, count_fits, reflexive, transitive, antisymmetric, below_top, clear_outside}
use Rattle.records.specs.Records.{field, set_field, set_record, is_task, is_object, free_record, task_record, object_record_of, sound_record_of, core_record, sound_of}
use Rattle.layout.specs.Layout.{depth, object_word}
use Rattle.layout.specs.Reading as reading
use Rattle.layout.specs.Reading.{after, expect, head, object_by, form_at, layout_by, settled_by, settled}
use Rattle.model.specs.State.{lengths_fit, in_use, task, object, marked}
use Rattle.model.specs.Effects.{effect, effects}
use Rattle.model.specs.Events.{unless, first_failing, verdict_of, outcome, write}
use Rattle.model.specs.Monitor.{fitted, refused_unless, refusal, start, started}
use Rattle.model.specs.Load.{layout_calls, in_turn, whole, laid_out, load, past_order}
use Rattle.model.specs.Tallies.{one_more, raised, list_fits, zeroed, raised_at, is_start, if_task, asker, counted_on, with_list, counted, performed, loaded}
use Rattle.model.specs.Trials.{order_of, Q, fresh, three_things}
use Rattle.model.specs.TallyTrials.{unmarked, asked_by, counting_on, WhoAsks, once, once_but, begun_anew, unfit, TallyTrials}

pub who_asks : WhoAsks
unfolding counting_on asked_by counted_on asker if_task past_order unmarked three_things fresh started Q order_of task is_task field set_record set_field
who_asks = (refl, refl, refl, refl, refl, refl, refl)

pub tally_trials : TallyTrials
unfolding performed loaded with_list counted list_fits zeroed raised_at raised one_more is_start if_task asker counted_on past_order once once_but begun_anew unmarked unfit load laid_out whole in_turn layout_calls settled settled_by layout_by form_at object_by head reading.field expect after object_word depth all_b order_of Q fresh three_things started fitted refused_unless refusal start lengths_fit sound_of core_record sound_record_of free_record task_record object_record_of is_task is_object field set_field set_record order_passes count_fits reflexive transitive antisymmetric below_top clear_outside at_or_below bit outcome verdict_of first_failing unless write in_use task object marked effects effect add_cell
tally_trials =
    ((refl, refl), (refl, refl), (refl, refl), (refl, refl), (refl, refl), (refl, refl), (refl, refl), (refl, refl))
