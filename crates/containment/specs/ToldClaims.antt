-- The claims of document 02's told word, each a short definition; the proofs stand in ToldProof.antt.
-- Assumes nothing.
use Rattle.std.specs.Prelude.{◌≡◌, true, List, ℕ, length}
use Rattle.rows.specs.Size.{Size, present}
use Rattle.levels.specs.declared.Order.{Order}
use Rattle.records.specs.Records.{sound_of}
use Rattle.model.specs.declared.Call.{Call}
use Rattle.model.specs.declared.Call.TheVariants.{Read, Delete}
use Rattle.model.specs.declared.Tally.{Tally}
use Rattle.model.specs.Verdicts.{granted, slipped, row_rule, row_feeding}
use Rattle.model.specs.State.{MemoryOf}
use Rattle.model.specs.Monitor.{perform}
use Rattle.model.specs.Tallies.{performed}
use Rattle.model.specs.Told.{told, SameButMarks}

-- two sound states that "differ only in marks": reached or not
pub record Twins {size : Size} (o : Order) (m n : MemoryOf size) : Type 0 where
  pub sound_one : sound_of size o m.bytes ≡ true
  pub sound_other : sound_of size o n.bytes ≡ true
  pub but_marks : SameButMarks m n

-- one call on two such states: "the told word is equal", granted, slipped or refused by whichever row, with every number, and under an order that does not pass too. Of the tallies only
-- the length matters. "It covers one call": what the two leave may differ in more than marks
abbrev pub ToldAlike : Type 0
ToldAlike = (size : Size) (o : Order) (m n : MemoryOf size) → Twins o m n → (ts us : List Tally) → length ts ≡ length us
    → (c : Call) → told c (performed o m ts c).outcome.verdict ≡ told c (performed o n us c).outcome.verdict

-- ---- why the verdict itself may not be told

-- on two such states the call has one verdict and another; a whole call has the same, if its list of tallies fits
pub record VerdictsApart (c : Call) (v w : ℕ) : Type 0 where
  pub order : Order
  pub one : MemoryOf present
  pub other : MemoryOf present
  pub twins : Twins order one other
  pub gives_one : (perform order one c).verdict ≡ v
  pub gives_other : (perform order other c).verdict ≡ w

-- 11 and 1: a read's verdict shows its driver's mark. 0 and 16: "deletion is exempt because 16 shows a mark"
abbrev pub VerdictsShowMarks : Type 0
VerdictsShowMarks = VerdictsApart (Read 1 3 2) row_rule slipped × VerdictsApart (Delete 1 0 4 3) granted row_feeding
