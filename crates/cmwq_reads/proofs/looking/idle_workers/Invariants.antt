use Rattle.std.proofs.Common.{◌≡◌, ◌++◌, drop}
use Rattle.cmwq_table.specs.View.{idle_from}
use Rattle.cmwq_reads.proofs.looking.idle_workers.Given as goal

-- the workers so far and those of what is left are all
abbrev pub invariant-loop-seat : goal.invariant-loop-seat
invariant-loop-seat l = l.workers.items ++ idle_from l.seat (drop l.seat l.idle) ≡ idle_from 0 l.idle
