-- The decisions: what the level tests and the marks of an event settle, as functions of yes-or-no facts.
-- Assumes nothing.
use Rattle.std.specs.Prelude.{Bool, true, false, not, ◌&&◌, ◌||◌, ℕ, eqb}
use Rattle.model.specs.Verdicts.{granted, slipped, row_path, row_rule, is_done, number_of}
use Rattle.model.specs.Events.{Event, unless, verdict_of}
use Rattle.decisions.specs.declared.Decision as declared

-- what is decided: the verdict, and which of the event's flows, at most two, are recorded
pub record Decision : Type 0 where
  pub verdict : ℕ
  pub first : Bool
  pub second : Bool

-- a decision of the code, with the number of its verdict
abbrev pub numbered : declared.Decision → Decision
numbered d = record { verdict = number_of d.verdict; first = d.first; second = d.second }

-- ---- decisions. A fact is named by the two levels that it compares, that of the first being at or below that of the second, or by the thing that is marked; `read` is the read level of the task that reads or calls. A flow is the first or the second of its event, in document 01's order

unfoldable pub read_decision : Bool → Bool → Bool → Bool → Bool → Bool → Decision
read_decision task_driver read_driver task_object read_object driver_marked task_marked =
    let honest = task_object || read_object in
    record {
      verdict = unless (task_driver || read_driver) row_path (unless (honest || driver_marked) row_rule (unless honest slipped granted));
      first =
          (not driver_marked && (task_marked || (task_object && task_driver)))
          || (driver_marked && (task_marked || task_driver));
      second = driver_marked && (task_marked || task_driver);
    }

unfoldable pub write_decision : Bool → Bool → Decision
write_decision object_task driver_marked =
    record {
      verdict = unless (object_task || driver_marked) row_rule (unless object_task slipped granted);
      first = true;
      second = driver_marked;
    }

unfoldable pub move_decision : Bool → Bool → Bool → Decision
move_decision object_task object_to driver_marked =
    record {
      verdict = unless (object_task || driver_marked) row_rule (unless object_to row_rule (unless object_task slipped granted));
      first = driver_marked;
      second = driver_marked;
    }

unfoldable pub delete_decision : Bool → Bool → Decision
delete_decision object_task driver_marked = record { verdict = unless object_task row_rule granted; first = driver_marked; second = false }

unfoldable pub call_decision : Bool → Bool → Bool → Bool → Decision
call_decision caller_callee read_callee caller_marked callee_marked =
    record {
      verdict = unless (caller_callee || read_callee) row_path granted;
      first = caller_marked || caller_callee;
      second = (caller_marked || caller_callee) && callee_marked;
    }

unfoldable pub invoke_decision : Bool → Bool → Decision
invoke_decision invokee_invoker invoker_marked = record { verdict = unless invokee_invoker row_rule granted; first = true; second = invoker_marked }

-- of pass and of post: whether what the reader read of the object goes on
unfoldable pub relay_decision : Bool → Bool → Bool → Bool → Bool → Decision
relay_decision reader_object read_object reader_driver read_driver reader_marked =
    let risky = (not reader_object && read_object) || (not reader_driver && read_driver) in
    record { verdict = unless (not risky || reader_marked) row_rule granted; first = true; second = false }

-- as both engines give it: a refusing decision has no flow
unfoldable pub settled : Decision → Decision
settled d = record { verdict = d.verdict; first = is_done d.verdict && d.first; second = is_done d.verdict && d.second }

-- ---- the test that stands apart from the decisions: the object at or below its driver. Where it fails the verdict is 11, unless the decision gives 10
unfoldable pub apart : Bool → ℕ → ℕ
apart below v = unless (below || eqb v row_path) row_rule v

-- a decision with the verdict of all its event's rows; its flows count only where that is granted or slipped
abbrev pub judged : Event → Decision → Decision
judged e d = record { verdict = verdict_of e; first = d.first; second = d.second }
