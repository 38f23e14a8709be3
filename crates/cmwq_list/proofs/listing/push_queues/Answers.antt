use Rattle.std.proofs.Common.{arith, subst}
use Rattle.std.proofs.lemmas.Grind.{common_steps}
use Rattle.std.proofs.lemmas.List.Elements.{All-more}
use Rattle.cmwq_types.specs.Values.{IsQueueDecl}
use Rattle.cmwq_list.proofs.listing.push_queues.Goals as goal

pub loop-queue-preserved : goal.loop-queue-preserved
loop-queue-preserved c = record {
  text = grind (arith, common_steps);
  queues = All-more IsQueueDecl c.args.queues.now c.loop-queue.queue-index c.queue-item.result c.loop-queue-test.true c.loop-queue.invariant.queues (subst IsQueueDecl c.queue-item.is c.in_ok-push_queue.ensures.queue);
}
