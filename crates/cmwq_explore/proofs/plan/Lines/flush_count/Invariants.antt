use Rattle.std.proofs.Common.{◌≡◌, ◌≤◌, count_by, take}
use Rattle.cmwq_explore.specs.Plans.{gives_flush}
use Rattle.cmwq_explore.proofs.plan.Lines.flush_count.Given as goal

-- of the lines so far
abbrev pub invariant-loop-instr : goal.invariant-loop-instr
invariant-loop-instr l = record {
  count : l.count ≡ count_by gives_flush (take l.instr-index l.self);
  few : l.count ≤ l.instr-index;
}
