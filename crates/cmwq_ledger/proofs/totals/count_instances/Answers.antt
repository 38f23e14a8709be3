use Rattle.std.proofs.Common.{◌+◌, ◌^◌, ◌-◌, arith}
use Rattle.cmwq_ledger.proofs.BoundLemmas.{queues-up}
use Rattle.cmwq_ledger.proofs.totals.count_instances.Goals as goal

pub count_of_work-requires-3 : goal.count_of_work-requires-3
count_of_work-requires-3 c =
    queues-up (2 ^ 63 + 1 + 1) (2 ^ 64 - 2) _ (omega arith) (c.count_of_work-2.ensures.within (2 ^ 63 + 1) (c.count_of_work.ensures.within (2 ^ 63) c.requires))

pub count_of_work-requires-4 : goal.count_of_work-requires-4
count_of_work-requires-4 c =
    queues-up (2 ^ 63 + 1 + 1 + 1) (2 ^ 64 - 2) _ (omega arith)
    (c.count_of_work-3.ensures.within (2 ^ 63 + 1 + 1) (c.count_of_work-2.ensures.within (2 ^ 63 + 1) (c.count_of_work.ensures.within (2 ^ 63) c.requires)))
