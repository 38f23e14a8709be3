use Rattle.std.proofs.Common.{◌≡◌, ◌+◌, ◌*◌, length}
use Rattle.cmwq_types.specs.declared.limits.TheConstants.{MAX_CPUS}
use Rattle.cmwq_plain.specs.Heads.{AreHeads}
use Rattle.cmwq_plain.proofs.records.Records.heads.Given as goal

abbrev pub invariant-loop-pool : goal.invariant-loop-pool
invariant-loop-pool l = record {
  heads : AreHeads l.self.scenario l.self.state l.pool l.heads;
  long : length l.heads ≡ 2 * MAX_CPUS + 2;
}
