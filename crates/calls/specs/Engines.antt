-- The claim on the two engines: what the contracts of a whole call and a whole load say of the end leaves one end only. No engine stands in them, so on every memory, list, order, call and text both engines end alike. That the engine by the table keeps them rests on the fact about the table, `filled`, by the contract of its lookups.
-- Assumes nothing.
use Rattle.std.specs.Prelude.{◌≡◌, List, ℕ}
use Rattle.std.proofs.Common.{sym, ap, ◌∙◌}
use Rattle.levels.specs.declared.Order.{Order}
use Rattle.model.specs.declared.Call.{Call}
use Rattle.model.specs.declared.Tally.{Tally}
use Rattle.model.specs.State.{Memory}
use Rattle.model.specs.Tallies.{Tallied}
use Rattle.model.specs.Told.{told}
use Rattle.calls.specs.Ends.{End, ends_as, Performs, Loads}

pub record EnginesAgree : Type 0 where
  pub calls : (o : Order) (m : Memory) (ts : List Tally) (c : Call) (table rules : End) → Performs o m ts c table → Performs o m ts c rules → table ≡ rules
  pub loads : (o : Order) (m : Memory) (ts : List Tally) (text : List ℕ) (table rules : End) → Loads o m ts text table → Loads o m ts text rules → table ≡ rules

-- ---- its proof

one_end : (a b : End) → ends_as a ≡ ends_as b → a.answer.told ≡ b.answer.told → a ≡ b
one_end a b e w =
    λ i. record {
      answer = record { verdict = (e i).outcome.verdict; rounds = (e i).outcome.rounds; told = w i };
      bytes = (e i).outcome.memory.bytes;
      words = (e i).outcome.memory.words;
      tallies = (e i).tallies;
    }

pub engines_agree : EnginesAgree
engines_agree =
    record {
      calls = λ o m ts c a b p q. let e = p.0 ∙ sym q.0 in one_end a b e (p.1 ∙ ap (λ (t : Tallied). told c t.outcome.verdict) e ∙ sym q.1);
      loads = λ o m ts text a b p q. one_end a b (p.0 ∙ sym q.0) (p.1 ∙ sym q.1);
    }
