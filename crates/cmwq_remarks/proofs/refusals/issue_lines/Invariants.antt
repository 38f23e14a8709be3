use Rattle.std.proofs.Common.{◌≡◌, ◌≤◌, ◌+◌, length}
use Rattle.cmwq_types.specs.Scenario.{expand_lines}
use Rattle.cmwq_table.specs.Table.{after_all, replies_from}
use Rattle.cmwq_runs.specs.RunInstructions.{left}
use Rattle.cmwq_remarks.specs.Remarks.{first_or, first_refusal, refusal_count, spent_count}
use Rattle.cmwq_remarks.proofs.refusals.issue_lines.Given as goal

-- what is left makes the whole
abbrev pub invariant-loop-instr : goal.invariant-loop-instr
invariant-loop-instr g l = record {
  loaded : g.M.Reads.loaded l.machine ≡ g.M.Reads.loaded l.fn.machine;
  state : after_all (g.M.Reads.loaded l.fn.machine) (g.M.Reads.state l.machine) (left l.instr-iterator)
      ≡ after_all (g.M.Reads.loaded l.fn.machine) (g.M.Reads.state l.fn.machine) (expand_lines l.lines);
  counted : l.count + refusal_count (replies_from (g.M.Reads.loaded l.fn.machine) (g.M.Reads.state l.machine) (left l.instr-iterator))
      ≡ refusal_count (replies_from (g.M.Reads.loaded l.fn.machine) (g.M.Reads.state l.fn.machine) (expand_lines l.lines));
  spent : l.spent + spent_count (replies_from (g.M.Reads.loaded l.fn.machine) (g.M.Reads.state l.machine) (left l.instr-iterator))
      ≡ spent_count (replies_from (g.M.Reads.loaded l.fn.machine) (g.M.Reads.state l.fn.machine) (expand_lines l.lines));
  first : first_or l.first (first_refusal l.place (replies_from (g.M.Reads.loaded l.fn.machine) (g.M.Reads.state l.machine) (left l.instr-iterator)))
      ≡ first_refusal 0 (replies_from (g.M.Reads.loaded l.fn.machine) (g.M.Reads.state l.fn.machine) (expand_lines l.lines));
  few : l.count ≤ l.place;
  few_spent : l.spent ≤ l.place;
  places : l.place + length (left l.instr-iterator) ≡ length (expand_lines l.lines);
}
