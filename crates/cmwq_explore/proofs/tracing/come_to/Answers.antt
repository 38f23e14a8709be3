use Rattle.std.proofs.Common.{subst, sym}
use Rattle.cmwq_explore.proofs.WaitingLemmas.{first_taken}
use Rattle.cmwq_explore.specs.Waiting.{AreWaiting}
use Rattle.cmwq_explore.proofs.tracing.come_to.Goals as goal

pub returns-in-Some-clause-plan : goal.returns-in-Some-clause-plan
returns-in-Some-clause-plan g c =
    (first_taken c.args.plan.now.value c.args.seen.now c.args.waiting.now c.take.new.self (record { place = c.args.place; stood = c.in-Some.standing }) c.requires.waiting c.in-Some.ensures).0.of_plan

pub returns-in-Some-clause-there : goal.returns-in-Some-clause-there
returns-in-Some-clause-there g c =
    (first_taken c.args.plan.now.value c.args.seen.now c.args.waiting.now c.take.new.self (record { place = c.args.place; stood = c.in-Some.standing }) c.requires.waiting c.in-Some.ensures).0.there

pub returns-in-Some-clause-whole : goal.returns-in-Some-clause-whole
returns-in-Some-clause-whole g c =
    (first_taken c.args.plan.now.value c.args.seen.now c.args.waiting.now c.take.new.self (record { place = c.args.place; stood = c.in-Some.standing }) c.requires.waiting c.in-Some.ensures).0.whole

pub returns-in-Some-clause-waiting : goal.returns-in-Some-clause-waiting
returns-in-Some-clause-waiting g c =
    (first_taken c.args.plan.now.value c.args.seen.now c.args.waiting.now c.take.new.self (record { place = c.args.place; stood = c.in-Some.standing }) c.requires.waiting c.in-Some.ensures).1

pub returns-in-None-clause-waiting : goal.returns-in-None-clause-waiting
returns-in-None-clause-waiting g c = subst (AreWaiting c.args.plan.now.value c.args.seen.now) (sym c.in-None.ensures) c.requires.waiting
