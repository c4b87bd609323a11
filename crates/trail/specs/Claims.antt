-- The claims about scripts, each a short definition; the proofs stand in Proved.antt.
-- Assumes nothing.
use Rattle.std.specs.Prelude.{◌≡◌, ◌⊎◌, true, Option, Some, None, List, [], ◌∷◌, ◌++◌, ℕ, ◌<◌}
use Rattle.rows.specs.Size.{numbers}
use Rattle.levels.specs.declared.Order.{Order}
use Rattle.levels.specs.Order.{most_levels}
use Rattle.model.specs.declared.Call.TheVariants.{Start}
use Rattle.model.specs.State.{marked}
use Rattle.model.specs.Verdicts.{row_order}
use Rattle.model.specs.Tallies.{raised_at}
use Rattle.script.specs.Script.{no_order, start_word, pieces, is_number, value, read_line}
use Rattle.script.specs.Print.{line_feed, reply_line}
use Rattle.script.specs.declared.Command.{Command}
use Rattle.script.specs.declared.Command.TheVariants as command
use Rattle.script.specs.declared.print.Reply.TheVariants.{Verdict}
use Rattle.containment.specs.Lists as lists
use Rattle.containment.specs.Lists.{Item, asks, Standing, begun}
use Rattle.containment.specs.Claims.{Reached, Contained}
use Rattle.trail.specs.Marked.{marked_text, listed}
use Rattle.trail.specs.Script.{Progress, lines, zeros, nothing_read, after_line, at_end, output}
use Rattle.trail.specs.Feeding.{Reading, nothing_fed, after_piece, closed, written}

-- ---- what is printed does not depend on how the input comes in pieces

-- the pieces one after the other
abbrev pub joined : List (List ℕ) → List ℕ
joined [] = []
joined (c ∷ cs) = c ++ joined cs

-- feeding two pieces one after the other is feeding them joined
abbrev pub PiecesJoined : Type 0
PiecesJoined = (c d : List ℕ) (r : Reading) → after_piece (c ++ d) r ≡ after_piece d (after_piece c r)

-- all that is written is the script's output, also where only the first bytes of a long line are kept
abbrev pub InPieces : Type 0
InPieces = (cs : List (List ℕ)) → written cs nothing_fed ≡ output (joined cs)

-- and the end is the script's: what it printed, and what it keeps
abbrev pub EndsAlike : Type 0
EndsAlike = (input : List ℕ) → closed (after_piece input nothing_fed) ≡ at_end input

-- ---- the last line lists exactly what is marked

abbrev pub ListsMarked : Type 0
ListsMarked = (input : List ℕ) → output input ≡ (at_end input).printed ++ (marked_text ++ listed (marked (at_end input).memory) numbers ++ line_feed ∷ [])

-- ---- what a script runs is a list of demand 3

-- the calls of a script's lines, each with the order that it is lent: a start its own, any other that of the last granted start,
-- before it all zero
unfoldable pub calls_by : Order → Option Command → List Item
calls_by kept None = []
calls_by kept (Some (command.Start o)) = asks o Start ∷ []
calls_by kept (Some (command.Ask c)) = asks kept c ∷ []

unfoldable pub calls_of : List (List ℕ) → Progress → List Item
calls_of [] p = []
calls_of (l ∷ ls) p = calls_by p.order (read_line l) ++ calls_of ls (after_line l p)

abbrev pub calls : List ℕ → List Item
calls input = calls_of (lines input) nothing_read

-- before the first granted start: memory of zeros, the order all zero, nothing named by a mark
abbrev pub unstarted : Standing
unstarted = record { order = no_order; memory = zeros; outside = [] }

-- where a list of calls stands that begins there
unfoldable pub standing : List Item → Standing
standing is = lists.run is unstarted

-- from one of its granted starts on, this is a list of demand 3
pub record Begun (is : List Item) : Type 0 where
  pub earlier : List Item
  pub order : Order
  pub items : List Item
  pub parts : is ≡ earlier ++ asks order Start ∷ items
  pub reached : Reached (asks order Start) (standing earlier).memory items
  pub leaves : standing is ≡ lists.run items (begun (asks order Start) (standing earlier).memory)

-- the memory and the order that a script ends with are those that the list of its calls leaves; either they leave the memory and the order of
-- zeros, as where no start is granted, or they are a list of demand 3 from a granted start on
pub record IsList (input : List ℕ) : Type 0 where
  pub memory : (at_end input).memory ≡ (standing (calls input)).memory
  pub order : (at_end input).order ≡ (standing (calls input)).order
  pub started : (standing (calls input) ≡ unstarted) ⊎ Begun (calls input)

abbrev pub RunsLists : Type 0
RunsLists = (input : List ℕ) → IsList input

-- so what a script ends with is contained
abbrev pub ScriptContained : Type 0
ScriptContained = (input : List ℕ) → Contained (record { order = (at_end input).order; memory = (at_end input).memory; outside = (standing (calls input)).outside })

-- ---- a start whose count is over sixteen gives 3, whatever follows the count, is counted as refused on record 0 and changes nothing else

abbrev pub OverSixteen : Type 0
OverSixteen = (input l count : List ℕ) (rest : List (List ℕ)) → pieces l ≡ start_word ∷ count ∷ rest → is_number count ≡ true → most_levels < value count
    → after_line l (at_end input) ≡ record {
      printed = (at_end input).printed ++ reply_line (Verdict row_order);
      order = (at_end input).order;
      memory = (at_end input).memory;
      tallies = raised_at 0 row_order (at_end input).tallies;
    }
