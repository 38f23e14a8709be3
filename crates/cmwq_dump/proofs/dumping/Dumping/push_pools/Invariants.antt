use Rattle.std.proofs.Common.{◌≡◌, ◌++◌, string_bytes}
use Rattle.cmwq_dump.specs.Dump.{pool_lines}
use Rattle.cmwq_dump.specs.Order.{each_below}
use Rattle.cmwq_dump.proofs.dumping.Dumping.push_pools.Given as goal

abbrev pub invariant-loop-pool : goal.invariant-loop-pool
invariant-loop-pool g l = string_bytes l.text ≡ string_bytes l.fn.text ++ each_below (pool_lines l.self.scenario l.self.state) l.pool
