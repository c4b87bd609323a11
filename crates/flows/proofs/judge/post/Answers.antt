use Rattle.model.specs.State.{task, object, in_use, has_flow, has_read}
use Rattle.decisions.specs.DecisionLaws.{judged_is}
use Rattle.flows.specs.Judged.{relay_ruled, relay_decided}
use Rattle.flows.specs.FlowLaws.{relay_rows, post_verdict}
use Rattle.flows.proofs.judge.post.Goals as goal

pub returns : goal.returns
unfolding task object in_use has_flow has_read relay_ruled relay_decided
returns g c =
    let l = c.args.view.now.ready.0 in
    judged_is _ _ c.relay-judged.ensures
    (λ v. rw post_verdict (simp (c.unless-2.ensures, c.unless.ensures, c.reads.ensures, c.has_flow.ensures) (relay_rows c.requires _ _ v)))
