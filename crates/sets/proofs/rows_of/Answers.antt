use Rattle.std.proofs.Common.{ap, ◌∙◌, Bool, ◌||◌, rules}
use Rattle.rows.specs.Size.{row_size}
use Rattle.sets.specs.Sets.{in_word, joined}
use Rattle.sets.specs.SetLaws.{fits, in_set, set_ext, joined_words}
use Rattle.sets.proofs.rows_of.Goals as goal

pub returns : goal.returns
returns c =
    let a = c.args in
    c.join_word.ensures.0
    ∙ set_ext _ _ (λ x l. ap (λ (b : Bool). b || joined row_size a.words.now (in_word a.set.high 64) x) (in_set _ c.join_word-low.ensures.0 x l)
    ∙ joined_words a.words.now a.set (fits (search rules) (search rules)) x l)
