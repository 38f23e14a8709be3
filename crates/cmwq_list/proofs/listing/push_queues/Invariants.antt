use Rattle.std.proofs.Common.{◌≡◌, ◌++◌, take}
use Rattle.std.specs.List.{All, flat_map}
use Rattle.std.specs.Prelude.{map}
use Rattle.cmwq_types.specs.Listing.{queue_line, written_text}
use Rattle.cmwq_types.specs.Values.{IsQueueDecl}
use Rattle.cmwq_list.proofs.listing.push_queues.Given as goal

-- the lines so far, and that what they list are contents
abbrev pub invariant-loop-queue : goal.invariant-loop-queue
invariant-loop-queue l = record {
  text : l.text.items ≡ l.fn.text.items ++ flat_map written_text (map queue_line (take l.queue-index l.queues));
  queues : All IsQueueDecl (take l.queue-index l.queues);
}
