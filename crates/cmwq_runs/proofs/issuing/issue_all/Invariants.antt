use Rattle.std.proofs.Common.{◌≡◌}
use Rattle.cmwq_types.specs.Scenario.{expand_lines}
use Rattle.cmwq_table.specs.Table.{after_all}
use Rattle.cmwq_runs.specs.RunInstructions.{left}
use Rattle.cmwq_runs.proofs.issuing.issue_all.Given as goal

-- what is left leads to where all lead
abbrev pub invariant-loop-instr : goal.invariant-loop-instr
invariant-loop-instr g l = record {
  loaded : g.M.Reads.loaded l.machine ≡ g.M.Reads.loaded l.fn.machine;
  state : after_all (g.M.Reads.loaded l.fn.machine) (g.M.Reads.state l.machine) (left l.instr-iterator)
      ≡ after_all (g.M.Reads.loaded l.fn.machine) (g.M.Reads.state l.fn.machine) (expand_lines l.lines);
}
