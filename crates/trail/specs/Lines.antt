-- What a line of a script does: what it prints, the order that is kept for the next, and what it leaves of the memory and of the tallies.
-- Assumes nothing.
use Rattle.std.specs.Prelude.{Bool, true, false, cond, Option, Some, None, List, ℕ, eqb}
use Rattle.levels.specs.declared.Order.{Order}
use Rattle.model.specs.declared.Call.{Call}
use Rattle.model.specs.declared.Call.TheVariants.{Start, Read, Write, Execute, Create, CreateRoot, Move, Delete, CallTask, Invoke, Pass, Post, Find, Mark, Step, Spread}
use Rattle.model.specs.declared.Tally.{Tally}
use Rattle.model.specs.Verdicts.{granted}
use Rattle.model.specs.State.{Memory, memory}
use Rattle.model.specs.Tallies.{Tallied, performed}
use Rattle.tallies.specs.Counts.{records_in}
use Rattle.script.specs.Script.{read_line}
use Rattle.script.specs.declared.Command.{Command}
use Rattle.script.specs.declared.Command.TheVariants as command
use Rattle.script.specs.declared.print.Reply.{Reply}
use Rattle.script.specs.declared.print.Reply.TheVariants as reply
use Rattle.trail.specs.declared.lines.Monitor.{Monitor}

-- what a monitor keeps, as the model has it
abbrev pub memory_of : Monitor → Memory
memory_of m = memory m.bytes m.words

abbrev pub tallies_of : Monitor → List Tally
tallies_of m = records_in m.counts

pub record LineOutcome : Type 0 where
  pub reply : Reply
  pub order : Order
  pub memory : Memory
  pub tallies : List Tally

-- what a contract says of an answer, and of what is left
abbrev pub leaves : Reply → Monitor → LineOutcome
leaves r m = record { reply = r; order = m.order; memory = memory_of m; tallies = tallies_of m }

unfoldable pub is_spread : Call → Bool
is_spread Start = false
is_spread (Read e d x) = false
is_spread (Write e d x) = false
is_spread (Execute c i n l r) = false
is_spread (Create c d n k l) = false
is_spread (CreateRoot c d n l) = false
is_spread (Move e d x f t) = false
is_spread (Delete e d x k) = false
is_spread (CallTask a b) = false
is_spread (Invoke a b) = false
is_spread (Pass z x y) = false
is_spread (Post x z y) = false
is_spread (Find x z y) = false
is_spread (Mark e) = false
is_spread (Step x) = false
is_spread Spread = true

-- after a spread the rounds too
unfoldable pub reply_to : Call → ℕ → ℕ → Reply
reply_to c v n = cond (is_spread c) (reply.Rounds v n) (reply.Verdict v)

-- what a call that gave `out` prints and leaves, with the order that is kept from then on
unfoldable pub answered : Tallied → Reply → Order → LineOutcome
answered out r o = record { reply = r; order = o; memory = out.outcome.memory; tallies = out.tallies }

-- a call, under the order that is kept
unfoldable pub asked : Memory → List Tally → Order → Call → LineOutcome
asked m ts kept c = let out = performed kept m ts c in answered out (reply_to c out.outcome.verdict out.outcome.rounds) kept

-- a start, whose order is kept where it is granted
unfoldable pub started_with : Memory → List Tally → Order → Order → LineOutcome
started_with m ts kept o = let out = performed o m ts Start in answered out (reply.Verdict out.outcome.verdict) (cond (eqb out.outcome.verdict granted) o kept)

-- what a line does by what it asks for: one that is no call prints bad and does nothing
unfoldable pub done_by : Memory → List Tally → Order → Option Command → LineOutcome
done_by m ts kept None = record { reply = reply.Bad; order = kept; memory = m; tallies = ts }
done_by m ts kept (Some (command.Start o)) = started_with m ts kept o
done_by m ts kept (Some (command.Ask c)) = asked m ts kept c

unfoldable pub line_done : Memory → List Tally → Order → List ℕ → LineOutcome
line_done m ts kept l = done_by m ts kept (read_line l)
