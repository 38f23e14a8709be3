use Rattle.std.proofs.Common.{Ok, ap, refl}
use Rattle.cmwq_explore.proofs.ResultLemmas.{comes_closed, comes_deep, full_states}
use Rattle.cmwq_explore.proofs.exploring.explore_into.Goals as goal

pub returns-in-Closed-clause-answer : goal.returns-in-Closed-clause-answer
returns-in-Closed-clause-answer g c =
    let plan = c.args.plan.now.value in
    comes_closed plan plan c.args.question c.search.new.seen c.in_ok-search.field-0 c.tally_of.result refl c.in-Closed.is c.in_ok-search.ensures.comes c.tally_of.ensures

pub returns-in-Failed-clause-answer : goal.returns-in-Failed-clause-answer
returns-in-Failed-clause-answer g c = c.found_last.ensures.answer c.args.limit

pub returns-in-Deep-clause-answer : goal.returns-in-Deep-clause-answer
returns-in-Deep-clause-answer g c =
    let plan = c.args.plan.now.value in (
      comes_deep plan plan c.args.question c.search.new.seen c.in_ok-search.field-0 c.in-Deep.depth refl c.in-Deep.is c.in_ok-search.ensures.comes,
      full_states c.args.limit c.len.result c.search.new.seen c.in-Deep.depth c.len.ensures.len (c.in_ok-search.ensures.full c.in-Deep.depth (ap Ok c.in-Deep.is)),
    )
