use Rattle.std.proofs.Common.{◌≡◌, ◌≤◌}
use Rattle.std.specs.Fmt.{decimal}
use Rattle.std.specs.Str.{bytes_eq}
use Rattle.cmwq_types.specs.First.{count_below}
use Rattle.cmwq_remarks.proofs.traps.is_cpu.Given as goal

abbrev pub invariant-loop-cpu : goal.invariant-loop-cpu
invariant-loop-cpu l = record {
  counted : l.count ≡ count_below (λ cpu. bytes_eq l.word (decimal cpu)) l.cpu;
  few : l.count ≤ l.cpu;
}
