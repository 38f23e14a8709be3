use Rattle.std.proofs.Common.{arith}
use Rattle.cmwq_ledger.proofs.totals.count_idle.Goals as goal

pub returns-clause-within : goal.returns-clause-within
returns-clause-within g c = λ k. omega (arith, c.loop-cpu.invariant.within k)
