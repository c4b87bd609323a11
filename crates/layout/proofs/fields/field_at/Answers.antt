use Rattle.std.proofs.Common.{◌≡◌, ◌+◌, length, drop, ap, ◌∙◌, sym, arith}
use Rattle.layout.specs.Reading.{field, number}
use Rattle.layout.specs.Answers.{answer}
use Rattle.layout.proofs.PlaceLaws.{leaves_at, lost_is, word_lost, word_end}
use Rattle.layout.proofs.fields.field_at.Goals.{then-not-stands+else-same-word, else-not-stands}
use Rattle.layout.proofs.fields.field_at.Goals as goal

pub returns-then-same-word : goal.returns-then-same-word
returns-then-same-word c =
    let l = c.args.text.now in
    let w = c.args.word.now in
    let s = c.same_bytes-same in
    lost_is _ _ _ (leaves_at l _ _ (s.ensures.same ∙ word_lost l w s.result _ c.if-same-word.true (s.ensures.differs c.if-same-word.true)) s.ensures.within.1)

pub returns : goal.returns
returns c =
    let l = c.args.text.now in
    let w = c.args.word.now in
    let read : field w (drop c.args.at l) ≡ number (drop (c.args.at + length w) l) =
    elim c.if-not-stands.branch [
      | then-not-stands+else-same-word b ↦
          let s = b.same_bytes-same in
          let all : s.result ≡ length w = omega arith in
          s.ensures.same ∙ word_end l w s.result _ b.if-same-word.false ∙ rw all
      | else-not-stands b ↦ (c.stands.ensures b.if-not-stands.false).1
    ]
    in
    c.number_at.ensures ∙ ap (answer (length l)) (sym read)
