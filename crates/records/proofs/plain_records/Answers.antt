use Rattle.std.proofs.Common.{◌≡◌, sym, ap, ◌∙◌, ℕ, zero, suc, Bool, ◌&&◌, ◌+◌, refl, add-zero, rules, arith}
use Rattle.std.proofs.Math.Bool.{and_assoc}
use Rattle.std.proofs.lemmas.Iterator.{YieldsList-from_range}
use Rattle.std.proofs.lemmas.Iterator.Search.{all_from_yields_List}
use Rattle.std.specs.List.{list_all, range_with_len}
use Rattle.bits.specs.All.{all_b}
use Rattle.bits.specs.AllLaws.{and-true, all_step}
use Rattle.rows.specs.Size.{numbers}
use Rattle.records.specs.Records.{sound_record}
use Rattle.records.proofs.plain_records.Goals as goal

-- all below a, and the n from there on
listed : (p : ℕ → Bool) (a n : ℕ) → (all_b a p && list_all p (range_with_len a n)) ≡ all_b (a + n) p
listed p a zero = and-true (all_b a p) ∙ ap (λ (k : ℕ). all_b k p) (sym (add-zero a))
listed p a (suc n) =
    let e : a + 1 + n ≡ a + suc n = omega arith in
    sym (and_assoc (all_b a p) (p a) _) ∙ rw (← all_step a p) (listed p (a + 1) n) ∙ ap (λ (k : ℕ). all_b k p) e

pub returns : goal.returns
unfolding all_b
returns c =
    let p : ℕ → Bool = λ x. sound_record c.args.order c.args.bytes.now x in
    all_from_yields_List p _ _ _ c.all.ensures.ran (YieldsList-from_range 0 numbers numbers (cc) refl) (λ x b q h. search rules) ∙ listed p 0 numbers
