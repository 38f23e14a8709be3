use Rattle.std.proofs.Common.{ℕ, Ok, ap}
use Rattle.cmwq_orders.specs.declared.choice.Choice.TheVariants.{Own}
use Rattle.cmwq_types.specs.declared.instr.Instr.TheVariants.{Step}
use Rattle.cmwq_explore.proofs.SearchLemmas.{one_more}
use Rattle.cmwq_explore.proofs.expanding.try_steps.Goals as goal

pub loop-pool-preserved : goal.loop-pool-preserved
loop-pool-preserved g c =
    let more =
    one_more c.args.standing.now.plan c.args.asked.question c.args.standing.now.explored c.args.asked.from c.args.asked.depth c.args.seen.now c.loop-pool.seen c.try_choice.new.seen (λ (n : ℕ). Own (Step n))
    c.loop-pool.pool c.in_ok-other.other c.in-Going.is c.loop-pool.invariant.more c.loop-pool.invariant.nexts c.in_ok-other.ensures.progress in
    record { more = more.0; waiting = c.in_ok-other.ensures.waiting (ap Ok c.in-Going.is); ready = more.1; nexts = more.2 }
