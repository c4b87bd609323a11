-- The call that a C caller's request is.
-- Assumes nothing.
use Rattle.std.specs.Prelude.{Bool, true, false, ℕ, eqb}
use Rattle.model.specs.declared.Call.{Call}
use Rattle.model.specs.declared.Call.TheVariants.{Start, Read, Write, Execute, Create, CreateRoot, Move, Delete, CallTask, Invoke, Pass, Post, Find, Mark, Step, Spread}
use Rattle.calls.specs.declared.Request.{Request}

abbrev pub pick : Bool → Call → Call → Call
pick true a b = a
pick false a b = b

-- a code that names no call is an unfit number, so it is read as a mark of 65,535, which no memory has: refused with 4 in its place
unfoldable pub call_at : Request → ℕ → Call
call_at q n =
    pick (eqb n 0) Start
    (pick (eqb n 1) (Read q.a q.b q.c)
    (pick (eqb n 2) (Write q.a q.b q.c)
    (pick (eqb n 3) (Execute q.a q.b q.c q.d q.e)
    (pick (eqb n 4) (Create q.a q.b q.c q.d q.e)
    (pick (eqb n 5) (CreateRoot q.a q.b q.c q.d)
    (pick (eqb n 6) (Move q.a q.b q.c q.d q.e)
    (pick (eqb n 7) (Delete q.a q.b q.c q.d)
    (pick (eqb n 8) (CallTask q.a q.b)
    (pick (eqb n 9) (Invoke q.a q.b)
    (pick (eqb n 10) (Pass q.a q.b q.c)
    (pick (eqb n 11) (Post q.a q.b q.c)
    (pick (eqb n 12) (Find q.a q.b q.c)
    (pick (eqb n 13) (Mark q.a)
    (pick (eqb n 14) (Step q.a)
    (pick (eqb n 15) Spread
    (Mark 65535))))))))))))))))

abbrev pub call_of : Request → Call
call_of q = call_at q q.code
