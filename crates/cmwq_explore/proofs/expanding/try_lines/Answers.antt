use Rattle.std.proofs.Common.{Ok, ap}
use Rattle.cmwq_orders.specs.declared.choice.Choice.TheVariants.{Line}
use Rattle.cmwq_explore.proofs.SearchLemmas.{one_more}
use Rattle.cmwq_explore.proofs.expanding.try_lines.Goals as goal

pub loop-actor-preserved : goal.loop-actor-preserved
loop-actor-preserved g c =
    let more =
    one_more c.args.standing.now.plan c.args.asked.question c.args.standing.now.explored c.args.asked.from c.args.asked.depth c.args.seen.now c.loop-actor.seen c.try_choice.new.seen Line
    c.loop-actor.actor c.in_ok-other.other c.in-Going.is c.loop-actor.invariant.more c.loop-actor.invariant.nexts c.in_ok-other.ensures.progress in
    record { more = more.0; waiting = c.in_ok-other.ensures.waiting (ap Ok c.in-Going.is); ready = more.1; nexts = more.2 }
