use Rattle.std.proofs.Common.{Ok, ap}
use Rattle.cmwq_explore.proofs.SearchLemmas.{expanded}
use Rattle.cmwq_explore.proofs.expanding.expand.Goals as goal

pub returns-clause-progress : goal.returns-clause-progress
returns-clause-progress g c =
    expanded c.args.standing.now.plan c.args.asked.question c.args.standing.now.explored c.args.asked.from c.args.asked.depth c.args.seen.now c.try_lines.new.seen c.try_choice.new.seen
    c.try_steps.new.seen c.try_choice-2.new.seen c.in_ok-other.other c.in_ok-other-2.other c.in_ok-other-3.other c.try_choice-2.result c.in-Going.is c.in-Going-2.is c.in-Going-3.is
    c.in_ok-other.ensures.progress c.in_ok-other-2.ensures.progress c.in_ok-other-3.ensures.progress c.try_choice-2.ensures.progress

pub try_choice-requires-clause-waiting : goal.try_choice-requires-clause-waiting
try_choice-requires-clause-waiting g c = c.in_ok-other.ensures.waiting (ap Ok c.in-Going.is)

pub try_steps-requires-clause-waiting : goal.try_steps-requires-clause-waiting
try_steps-requires-clause-waiting g c = c.in_ok-other-2.ensures.waiting (ap Ok c.in-Going-2.is)

pub try_choice-requires-2-clause-waiting : goal.try_choice-requires-2-clause-waiting
try_choice-requires-2-clause-waiting g c = c.in_ok-other-3.ensures.waiting (ap Ok c.in-Going-3.is)
