use Rattle.std.proofs.Common.{ap₂, ap, ◌∙◌, Bool, not, ◌&&◌, ◌-◌, ◌^◌, bit_and, rules}
use Rattle.std.specs.Int.Bits.{and_lt}
use Rattle.std.proofs.Math.Pow.{ones_sub-lt}
use Rattle.bits.specs.Bit.{bit}
use Rattle.bits.specs.BitLaws.{bit_and_law, bit_not}
use Rattle.sets.specs.SetLaws.{pair, fits, each_bit}
use Rattle.sets.proofs.without.Goals as goal

pub returns : goal.returns
returns c =
    ap₂ pair (search rules) (search rules)
    ∙ each_bit (λ x y. x && not y) (λ a b. bit_and a ((2 ^ 64 - 1) - b)) (λ a b i f l. bit_and_law a ((2 ^ 64 - 1) - b) i ∙ ap (λ (y : Bool). bit a i && y) (bit_not 64 b i f l)) (λ a b. λ f h. and_lt 64 a ((2 ^ 64 - 1) - b) f (ones_sub-lt 64 b)) c.args.a c.args.b
    (fits (search rules) (search rules)) (fits (search rules) (search rules))
