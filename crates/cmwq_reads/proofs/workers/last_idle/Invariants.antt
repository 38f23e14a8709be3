use Rattle.std.proofs.Common.{◌≡◌, ◌<◌, IfSome}
use Rattle.std.specs.Prelude.{is_some}
use Rattle.cmwq_types.specs.First.{first_below, by_greatest}
use Rattle.cmwq_table.specs.Counts.{idle_stamp}
use Rattle.cmwq_table.specs.State.{idle_at}
use Rattle.cmwq_reads.proofs.workers.last_idle.Given as goal

abbrev pub invariant-loop-worker : goal.invariant-loop-worker
invariant-loop-worker g l = record {
  last : l.last ≡ first_below (by_greatest (λ worker. idle_stamp (idle_at (g.R.Reads.state l.machine) l.pool worker))) (λ worker. is_some (idle_at (g.R.Reads.state l.machine) l.pool worker)) l.worker;
  in_range : IfSome l.last (λ worker. worker < l.worker);
}
