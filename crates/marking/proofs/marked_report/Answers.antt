use Rattle.std.proofs.Common.{◌≡◌, ◌+◌, arith}
use Rattle.sets.specs.Sets.{words}
use Rattle.sets.specs.SetLaws.{set_words}
use Rattle.model.specs.State.{memory, marked}
use Rattle.model.specs.Monitor.{marked_words, ones_in}
use Rattle.marking.proofs.marked_report.Goals as goal

pub returns : goal.returns
unfolding marked marked_words ones_in
returns c ws =
    let s = c.with_field-marked.result in
    let n : c.count_of_ones.result + c.count_of_ones-2.result ≡ ones_in (words s) = omega (arith, c.count_of_ones.ensures, c.count_of_ones-2.ensures) in
    let w = set_words (marked (memory c.args.bytes.now ws)) c.with_field-marked.ensures in
    cc (n, w)
