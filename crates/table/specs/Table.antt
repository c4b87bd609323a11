-- The decision table of document 02: eight operations times 64 settings of six yes-or-no facts, and what each entry has to be.
-- Assumes nothing.
use Rattle.std.specs.Prelude.{Bool, ◌&&◌, List, [], ◌∷◌, ℕ, ◌+◌, ◌*◌, ◌/◌, ◌%◌, ◌^◌, eqb, get_or}
use Rattle.bits.specs.All.{one, all_b}
use Rattle.bits.specs.Bit.{bit}
use Rattle.decisions.specs.Decisions.{Decision}
use Rattle.decisions.specs.Decisions.{settled, read_decision, write_decision, move_decision, delete_decision, call_decision, invoke_decision, relay_decision}
use Rattle.table.specs.declared.Operation.{Operation}
use Rattle.table.specs.declared.Operation.TheVariants.{Read, Write, Move, Delete, Call, Invoke, Pass, Post}

-- ---- decisions

-- the plain rule of each operation on its facts, fact 0 first; it does not look at those past its own
abbrev pub ruled : Operation → Bool → Bool → Bool → Bool → Bool → Bool → Decision
ruled Read f0 f1 f2 f3 f4 f5 = read_decision f0 f1 f2 f3 f4 f5
ruled Write f0 f1 f2 f3 f4 f5 = write_decision f0 f1
ruled Move f0 f1 f2 f3 f4 f5 = move_decision f0 f1 f2
ruled Delete f0 f1 f2 f3 f4 f5 = delete_decision f0 f1
ruled Call f0 f1 f2 f3 f4 f5 = call_decision f0 f1 f2 f3
ruled Invoke f0 f1 f2 f3 f4 f5 = invoke_decision f0 f1
ruled Pass f0 f1 f2 f3 f4 f5 = relay_decision f0 f1 f2 f3 f4
ruled Post f0 f1 f2 f3 f4 f5 = relay_decision f0 f1 f2 f3 f4

-- the decision, by either engine
abbrev pub decided : Operation → Bool → Bool → Bool → Bool → Bool → Bool → Decision
decided op f0 f1 f2 f3 f4 f5 = settled (ruled op f0 f1 f2 f3 f4 f5)

-- how many facts an operation has
unfoldable pub facts_of : Operation → ℕ
facts_of Read = 6
facts_of Write = 2
facts_of Move = 3
facts_of Delete = 2
facts_of Call = 4
facts_of Invoke = 2
facts_of Pass = 5
facts_of Post = 5

-- ---- "64 settings of six yes-or-no facts": fact i is bit i of the setting's number

abbrev pub settings : ℕ
settings = 64

abbrev pub setting : Bool → Bool → Bool → Bool → Bool → Bool → ℕ
setting f0 f1 f2 f3 f4 f5 = one f0 + 2 * (one f1 + 2 * (one f2 + 2 * (one f3 + 2 * (one f4 + 2 * one f5))))

-- ---- entries

-- the number of a decision: its verdict, with 16 added where the first flow is recorded and 32 where the second is
abbrev pub entry_of : Decision → ℕ
entry_of d = d.verdict + 16 * one d.first + 32 * one d.second

-- and back: bits 4 and 5 are the flows
abbrev pub decision_of : ℕ → Decision
decision_of n = record { verdict = n % 16; first = bit n 4; second = bit n 5 }

-- what has to stand for a setting: the number of the decision on its facts
abbrev pub entry_at : Operation → ℕ → ℕ
entry_at op s = entry_of (decided op (bit s 0) (bit s 1) (bit s 2) (bit s 3) (bit s 4) (bit s 5))

-- ---- the table: eight operations times 64 settings

-- a part for each operation: 64 numbers, in eight rows of eight, as many as the type of the constant has
abbrev pub Entries : Type 0
Entries = List (List (List ℕ))

abbrev pub operations : ℕ
operations = 8

-- whose part stands at each place; past the eight it is the last's
abbrev pub operation_at : ℕ → Operation
operation_at k = get_or (Read ∷ Write ∷ Move ∷ Delete ∷ Call ∷ Invoke ∷ Pass ∷ Post ∷ []) k Post

-- what stands in part k for a setting: row s / 8, column s % 8
abbrev pub entry_in : Entries → ℕ → ℕ → ℕ
entry_in table k s = get_or (get_or (get_or table k []) (s / 8) []) (s % 8) 0

-- that this entry is right: it is the number of the plain decision on its facts, and facts past the operation's own make no difference
abbrev pub right : Entries → ℕ → ℕ → Bool
right table k s = eqb (entry_in table k s) (entry_at (operation_at k) s) && eqb (entry_in table k s) (entry_in table k (s % 2 ^ facts_of (operation_at k)))

-- the one fact about the whole table: every entry is right
unfoldable pub filled : Entries → Bool
filled table = all_b operations (λ k. all_b settings (right table k))
