use Rattle.std.proofs.Common.{◌≡◌, ◌++◌, string_bytes}
use Rattle.cmwq_dump.specs.Dump.{dumped_queue}
use Rattle.cmwq_dump.specs.Order.{each_below}
use Rattle.cmwq_dump.proofs.dumping.Dumping.push_queues.Given as goal

abbrev pub invariant-loop-queue : goal.invariant-loop-queue
invariant-loop-queue g l = string_bytes l.text ≡ string_bytes l.fn.text ++ each_below (dumped_queue l.self.scenario l.self.state) l.queue
