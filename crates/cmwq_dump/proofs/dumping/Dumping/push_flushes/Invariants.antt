use Rattle.std.proofs.Common.{◌≡◌, ◌++◌, string_bytes}
use Rattle.cmwq_dump.specs.Dump.{flush_line}
use Rattle.cmwq_dump.specs.Order.{each_below}
use Rattle.cmwq_dump.proofs.dumping.Dumping.push_flushes.Given as goal

abbrev pub invariant-loop-flush : goal.invariant-loop-flush
invariant-loop-flush g l = string_bytes l.text ≡ string_bytes l.fn.text ++ each_below (flush_line l.self.scenario l.self.state) l.flush
