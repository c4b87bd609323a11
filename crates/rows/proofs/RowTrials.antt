-- Rows bridged, computed: some of one word and some of two.
-- Assumes nothing.
use Rattle.std.specs.Prelude.{◌≡◌, refl, true, ◌||◌, [], ◌∷◌, eqb, ltb}
use Rattle.bits.specs.All.{up_to}
use Rattle.bits.specs.Bit.{word_of}
use Rattle.rows.specs.Rows.{join_row, bridged}

-- rows 0 and 1 get the columns 1 and 2, but row 1 not its own; row 3 keeps what it has
pub one_word : bridged 1 4 (λ x. ltb x 2) (λ y. eqb y 1 || eqb y 2) (0 ∷ 0 ∷ 0 ∷ 8 ∷ []) ≡ 6 ∷ 4 ∷ 0 ∷ 8 ∷ []
unfolding bridged join_row word_of up_to
one_word = refl

-- column 65 stands in the second word
pub two_words : bridged 2 2 (λ x. true) (λ y. eqb y 1 || eqb y 65) (0 ∷ 0 ∷ 0 ∷ 0 ∷ []) ≡ 2 ∷ 2 ∷ 0 ∷ 2 ∷ []
unfolding bridged join_row word_of up_to
two_words = refl
