use Rattle.std.proofs.Common.{◌≡◌, ◌++◌}
use Rattle.cmwq_runs.specs.RunInstructions.{left}
use Rattle.cmwq_types.specs.Scenario.{expand_lines}
use Rattle.cmwq_draw.specs.Hints.{hints_from}
use Rattle.cmwq_draw.proofs.walking.walk.Given as goal

-- what is said, and what the instructions that are left come to, is the whole
abbrev pub invariant-loop-instr : goal.invariant-loop-instr
invariant-loop-instr g l = record {
  scenario : g.M.Reads.loaded l.behind ≡ g.M.Reads.loaded l.fn.behind;
  same : g.M.Reads.state l.ahead ≡ g.M.Reads.state l.behind;
  loaded : g.M.Reads.loaded l.ahead ≡ g.M.Reads.loaded l.behind;
  whole : l.found.items ++ hints_from (g.M.Reads.loaded l.fn.behind) l.picture l.column (g.M.Reads.state l.behind) (left l.instr-iterator)
      ≡ hints_from (g.M.Reads.loaded l.fn.behind) l.picture 0 (g.M.Reads.state l.fn.behind) (expand_lines l.lines);
}
