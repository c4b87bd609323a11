use Rattle.std.proofs.Common.{◌≡◌, refl, sym, ap, ◌∙◌, List, ℕ, zero, suc, Bool, ◌&&◌, ◌||◌, ◌+◌, eqb, add-zero, rules, arith}
use Rattle.std.proofs.Math.Bool.{not, or_assoc}
use Rattle.std.proofs.lemmas.Iterator.{YieldsList-from_range}
use Rattle.std.proofs.lemmas.Iterator.Search.{any_from_yields_List}
use Rattle.std.specs.List.{list_any, range_with_len}
use Rattle.bits.specs.All.{any_b}
use Rattle.bits.specs.AllLaws.{or_false, any_more}
use Rattle.rows.specs.Size.{numbers}
use Rattle.records.specs.Records.{container, is_object}
use Rattle.events.specs.Judged.{is_empty}
use Rattle.events.proofs.judge.is_empty.Goals as goal

-- one of the numbers below a, or of the n from there on
listed : (p : ℕ → Bool) (a n : ℕ) → (any_b a p || list_any p (range_with_len a n)) ≡ any_b (a + n) p
listed p a zero = simp (or_false, add-zero)
listed p a (suc n) =
    let e : a + 1 + n ≡ a + suc n = omega arith in
    sym (or_assoc (any_b a p) (p a) _) ∙ rw (← any_more a p, listed p (a + 1) n, e)

abbrev inside : List ℕ → ℕ → ℕ → Bool
inside bytes x y = is_object bytes y && eqb (container bytes y) x

pub returns : goal.returns
unfolding is_empty any_b
returns c =
    let p = inside c.args.view.now.bytes.now c.args.x in
    ap not
    (any_from_yields_List p _ _ _ c.any.ensures.ran (YieldsList-from_range 0 numbers numbers (cc) refl) (λ y b q h. search rules)
    ∙ listed p 0 numbers)
