use Rattle.std.proofs.Common.{◌≡◌, ◌-◌, ℕ, eqb, min, length, take, sym, ap, ◌∙◌, arith, rules, tests}
use Rattle.std.proofs.lemmas.Iterator.{YieldsList-from_slice}
use Rattle.std.proofs.lemmas.Iterator.Search.{position_from_yields_List}
use Rattle.std.proofs.lemmas.List.{take-take}
use Rattle.script.specs.Print.{until}
use Rattle.script.specs.PrintLaws.{copied, until_within, until_taken, until_end}
use Rattle.script.proofs.text.Text.until.Goals as goal

pub returns : goal.returns
returns g c =
    let stop = c.args.stop in
    let bytes = c.args.bytes.now in
    let t = until stop bytes in
    let k = c.min-kept.result in
    let a = c.args.self.now in
    let ran = position_from_yields_List (λ b. eqb b stop) _ _ c.position.result c.position.ensures.ran (YieldsList-from_slice bytes cc) (λ x b q k. search (rules, tests)) in
    let counts : c.unwrap_or-taken.result ≡ length t = c.unwrap_or-taken.ensures ∙ until_end stop bytes ran in
    let kept : k ≡ min (length t) (g.row.N - a.len) = c.min-kept.ensures ∙ ap (λ (x : ℕ). min x (g.row.N - a.len)) counts in
    record {
      within = omega (arith, counts, until_within stop bytes);
      counts = counts;
      prints = record {
        stored = copied a.bytes t a.size a.within kept (c.copy_from_slice.ensures.after ∙ sym (take-take k (length t) bytes (omega (arith, kept))) ∙ ap (take k) (until_taken stop bytes));
      };
    }
