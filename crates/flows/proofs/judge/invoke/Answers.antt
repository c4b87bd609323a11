use Rattle.std.proofs.Common.{refl}
use Rattle.model.specs.Events.{unless}
use Rattle.model.specs.State.{task, marked}
use Rattle.decisions.specs.DecisionLaws.{judged_is}
use Rattle.flows.specs.Judged.{invoke_ruled}
use Rattle.flows.specs.FlowLaws.{invoke_verdict}
use Rattle.flows.proofs.judge.invoke.Goals as goal

pub returns : goal.returns
unfolding task marked invoke_ruled unless
returns g c = judged_is _ _ (simp (c.invoke.ensures, c.is_marked.ensures, c.is_below.ensures) refl) (λ v. rw (invoke_verdict, c.requires) v)
