use Rattle.std.proofs.Common.{◌-◌, length, take, drop, ◌∙◌, drop-drop, arith}
use Rattle.std.proofs.lemmas.Bool.Decides.{Decides-eqb}
use Rattle.std.proofs.lemmas.List.{take_rest}
use Rattle.std.proofs.lemmas.Slice.Eq.{starts_is}
use Rattle.layout.proofs.PlaceLaws.{word_ends}
use Rattle.layout.proofs.fields.stands.Goals as goal

pub returns-then-starts_with : goal.returns-then-starts_with
returns-then-starts_with c t =
    let l = c.args.text.now in
    let w = c.args.word.now in
    let rest = drop c.args.at l in
    let k = length w - 4 in
    let first = (starts_is Decides-eqb rest (take 4 w) _ (rw (take_rest l c.args.at) at c.starts_with.ensures.value)).0 c.if-starts_with.true in
    let last = (starts_is Decides-eqb (drop k rest) (drop k w) _ (simp take_rest at c.starts_with-then-starts_with.ensures.value)).0 t in
    (omega arith, word_ends w rest _ _ c.requires.1 c.requires.2 first last ∙ rw (drop-drop (length w) c.args.at l))
