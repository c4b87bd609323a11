use Rattle.std.proofs.Common.{◌∙◌, ap₂, ◌&&◌, bit_and, rules}
use Rattle.std.specs.Int.Bits.{and_lt}
use Rattle.bits.specs.BitLaws.{bit_and_law}
use Rattle.sets.specs.SetLaws.{pair, fits, each_bit}
use Rattle.sets.proofs.common.Goals as goal

pub returns : goal.returns
returns c =
    ap₂ pair (search rules) (search rules)
    ∙ each_bit (λ x y. x && y) bit_and (λ a b i f l. bit_and_law a b i) (λ a b. and_lt 64 a b) c.args.a c.args.b
    (fits (search rules) (search rules)) (fits (search rules) (search rules))
