use Rattle.std.proofs.Common.{subst, sym}
use Rattle.cmwq_explore.proofs.SearchLemmas.{handled_result, ready_in}
use Rattle.cmwq_explore.specs.Plans.{PlanContents}
use Rattle.cmwq_explore.specs.Waiting.{AreWaiting}
use Rattle.cmwq_explore.proofs.exploring.handle.Goals as goal

pub expand-requires : goal.expand-requires
expand-requires g c = record {
  waiting = subst (λ (p : PlanContents). AreWaiting p c.args.seen.now c.come_to.new.waiting) (sym c.in_ok-standing.ensures.plan) c.come_to.ensures.waiting;
  ready =
      ready_in c.args.plan.now.value c.in_ok-standing.standing.plan c.args.asked.question c.args.seen.now c.in_ok-standing.standing.explored c.args.asked.from c.args.asked.depth
      c.in_ok-standing.ensures.plan c.requires.ahead c.in_ok-standing.ensures.whole c.in_ok-standing.ensures.there;
}

pub returns-clause-handles : goal.returns-clause-handles
returns-clause-handles g c =
    handled_result c.args.plan.now.value c.in_ok-standing.standing.plan c.args.asked.question c.args.seen.now c.expand.new.seen c.in_ok-standing.standing.explored c.args.asked.from
    c.args.asked.depth c.expand.result c.in_ok-standing.ensures.plan c.requires.ahead c.in_ok-standing.ensures.whole c.in_ok-standing.ensures.there c.expand.ensures.progress

pub returns-clause-waiting : goal.returns-clause-waiting
returns-clause-waiting g c =
    λ going. subst (λ (p : PlanContents). AreWaiting p c.expand.new.seen c.expand.new.waiting) c.in_ok-standing.ensures.plan (c.expand.ensures.waiting going)
