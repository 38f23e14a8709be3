use Rattle.std.proofs.Common.{◌≡◌, ap, true, false}
use Rattle.cmwq_explore.proofs.SearchLemmas.{added_failing, added_going, extends_same, next_known}
use Rattle.cmwq_explore.proofs.WaitingLemmas.{added_waiting}
use Rattle.cmwq_explore.specs.Plans.{PlanContents}
use Rattle.cmwq_explore.specs.Searching.{knows}
use Rattle.cmwq_stored.specs.Stored.{stored_of}
use Rattle.cmwq_explore.proofs.expanding.add_next.Goals as goal

pub returns-then-knows-clause-progress : goal.returns-then-knows-clause-progress
returns-then-knows-clause-progress g c =
    let known : knows c.args.seen.now (stored_of c.args.next.explored) ≡ true = cc (c.in_ok-stored.ensures, c.knows.ensures, c.if-knows.true) in (
      extends_same c.args.seen.now,
      c.requires.ready,
      next_known c.args.standing.now.plan.scenario c.args.standing.now.plan.before c.args.asked.question c.args.seen.now c.args.standing.now.explored c.args.next.explored
          c.args.asked.from c.args.asked.depth c.args.choice c.requires.ready c.requires.taken known,
    )

pub returns-then-mark-clause-progress : goal.returns-then-mark-clause-progress
returns-then-mark-clause-progress g c =
    let unknown : knows c.args.seen.now c.in_ok-stored.stored ≡ false = cc (c.knows.ensures, c.if-knows.false) in
    added_failing c.args.standing.now.plan.scenario c.args.next.plan.scenario c.args.standing.now.plan.before c.args.next.plan.before c.args.asked.question c.args.seen.now c.add.new.self
    c.args.standing.now.explored c.args.next.explored c.in_ok-stored.stored c.args.asked.from c.args.asked.depth c.args.choice c.in_ok-mark.mark
    (ap (λ (p : PlanContents). p.scenario) c.requires.plan) (ap (λ (p : PlanContents). p.before) c.requires.plan)
    c.requires.ready c.requires.taken c.in_ok-stored.ensures unknown c.in_ok-mark.ensures.noted c.in_ok-mark.ensures.from c.in_ok-mark.ensures.choice c.in_ok-mark.ensures.depth
    c.in_ok-add.ensures.added c.if-mark.true

pub returns-clause-progress : goal.returns-clause-progress
returns-clause-progress g c =
    let unknown : knows c.args.seen.now c.in_ok-stored.stored ≡ false = cc (c.knows.ensures, c.if-knows.false) in
    added_going c.args.standing.now.plan.scenario c.args.next.plan.scenario c.args.standing.now.plan.before c.args.next.plan.before c.args.asked.question c.args.seen.now c.add.new.self
    c.args.standing.now.explored c.args.next.explored c.in_ok-stored.stored c.args.asked.from c.args.asked.depth c.args.choice c.in_ok-mark.mark
    (ap (λ (p : PlanContents). p.scenario) c.requires.plan) (ap (λ (p : PlanContents). p.before) c.requires.plan)
    c.requires.ready c.requires.taken c.in_ok-stored.ensures unknown c.in_ok-mark.ensures.noted c.in_ok-mark.ensures.from c.in_ok-mark.ensures.choice c.in_ok-mark.ensures.depth
    c.in_ok-add.ensures.added c.if-mark.false

pub returns-clause-waiting : goal.returns-clause-waiting
returns-clause-waiting g c =
    λ going. added_waiting c.args.standing.now.plan c.args.seen.now c.add.new.self c.in_ok-stored.stored c.in_ok-mark.mark c.args.standing.now.explored c.args.choice c.args.next c.len-place.result
    c.args.waiting.now c.keep.new.self c.requires.waiting c.in_ok-add.ensures.added c.in_ok-stored.ensures c.len-place.ensures.len c.requires.plan c.requires.ready.whole c.requires.taken c.in_ok-keep.ensures
