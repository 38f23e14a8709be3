use Rattle.std.proofs.Common.{◌≡◌, ◌++◌, take}
use Rattle.std.specs.List.{All, flat_map}
use Rattle.cmwq_image.proofs.writing.push_queues.Given as goal
use Rattle.cmwq_image.specs.Image.{queue_image}
use Rattle.cmwq_types.specs.Values.{IsQueueDecl}

abbrev pub invariant-loop-queue : goal.invariant-loop-queue
invariant-loop-queue l = record {
  image : l.bytes.items ≡ l.fn.bytes.items ++ flat_map queue_image (take l.queue-index l.queues);
  queues : All IsQueueDecl (take l.queue-index l.queues);
}
