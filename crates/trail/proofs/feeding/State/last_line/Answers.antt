use Rattle.std.proofs.Common.{sym, ap, ◌∙◌, length, eq-eqb, eqb-true}
use Rattle.std.proofs.lemmas.Bool.{false≢true}
use Rattle.script.specs.Print.{held}
use Rattle.trail.specs.Feeding.{Reading, closed}
use Rattle.trail.specs.Buffers.{progress_in}
use Rattle.trail.proofs.BufferLaws.{no_last, some_last}
use Rattle.trail.proofs.feeding.State.last_line.Goals as goal

pub returns-then-not-is_empty-clause-closes : goal.returns-then-not-is_empty-clause-closes
unfolding closed
returns-then-not-is_empty-clause-closes c =
    let s = c.args.self.now in
    ap (λ (r : Reading). r.progress) c.end_line.ensures.ends ∙ some_last (held s.line) (progress_in s) (λ e. false≢true (c.if-not-is_empty.ensures ∙ eq-eqb _ _ (ap length c.as_slice.ensures ∙ e)))

pub returns-else-not-is_empty-clause-closes : goal.returns-else-not-is_empty-clause-closes
unfolding closed
returns-else-not-is_empty-clause-closes c = let s = c.args.self.now in no_last (held s.line) (progress_in s) (sym (ap length c.as_slice.ensures) ∙ eqb-true _ _ (sym c.if-not-is_empty.ensures))
