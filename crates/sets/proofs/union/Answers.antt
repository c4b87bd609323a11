use Rattle.std.proofs.Common.{◌∙◌, ap₂, ◌||◌, bit_or, rules}
use Rattle.std.proofs.lemmas.Nat.{or_lt}
use Rattle.bits.specs.BitLaws.{bit_or_law}
use Rattle.sets.specs.SetLaws.{pair, fits, each_bit}
use Rattle.sets.proofs.union.Goals as goal

pub returns : goal.returns
returns c =
    ap₂ pair (search rules) (search rules)
    ∙ each_bit (λ x y. x || y) bit_or (λ a b i f l. bit_or_law a b i) (λ a b. or_lt 64 a b) c.args.a c.args.b
    (fits (search rules) (search rules)) (fits (search rules) (search rules))
