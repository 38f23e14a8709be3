use Rattle.std.proofs.Common.{◌≡◌, ◌≤◌, ◌++◌, length}
use Rattle.std.specs.List.{flat_map}
use Rattle.cmwq_runs.specs.RunInstructions.{left}
use Rattle.cmwq_orders.specs.Orders.{apart, lines_of}
use Rattle.cmwq_explore.proofs.plan.lines_within.Given as goal

-- what is left makes the whole
abbrev pub invariant-loop-instr : goal.invariant-loop-instr
invariant-loop-instr l = record {
  whole : l.instrs.items ++ flat_map apart (left l.instr-iterator) ≡ lines_of l.actor;
  few : length l.instrs.items ≤ l.room;
}
