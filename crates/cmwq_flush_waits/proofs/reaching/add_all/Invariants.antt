use Rattle.std.proofs.Common.{◌≡◌, drop}
use Rattle.cmwq_flush_waits.specs.Waits.{with_instances}
use Rattle.cmwq_flush_waits.proofs.reaching.add_all.Given as goal

abbrev pub invariant-loop-other : goal.invariant-loop-other
invariant-loop-other l = with_instances l.all.items (drop l.other-index l.others) ≡ with_instances l.fn.all.items l.others
