use Rattle.std.proofs.Common.{ap, ◌∙◌, rules}
use Rattle.records.specs.Records.{BytesLent}
use Rattle.sets.specs.Sets.{in_word}
use Rattle.sets.specs.SetLaws.{fits, has_words}
use Rattle.model.specs.Effects.{mark_where}
use Rattle.marking.specs.MarksLaws.{where_then}
use Rattle.marking.proofs.marks.mark_set.Goals as goal

pub returns : goal.returns
returns c ws =
    let s = c.args.set in
    let lent : BytesLent c.args.bytes.now = search rules in
    c.mark_word-2.ensures.0 ws ∙ ap (mark_where (in_word s.high 64)) (c.mark_word.ensures.0 ws)
    ∙ where_then _ _ _ _ lent (has_words s (fits (search rules) (search rules)))
