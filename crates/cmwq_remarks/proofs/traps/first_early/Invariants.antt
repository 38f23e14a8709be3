use Rattle.std.proofs.Common.{◌≡◌, drop}
use Rattle.cmwq_remarks.specs.Traps.{first_early}
use Rattle.cmwq_remarks.proofs.traps.first_early.Given as goal

-- the lines that are left tell it
abbrev pub invariant-loop-line : goal.invariant-loop-line
invariant-loop-line g l = record {
  loaded : g.M.Reads.loaded l.machine ≡ g.M.Reads.loaded l.fn.machine;
  number : l.number ≡ l.line-index;
  at : first_early (g.M.Reads.loaded l.fn.machine) (g.M.Reads.state l.machine) l.number (drop l.line-index l.lines)
      ≡ first_early (g.M.Reads.loaded l.fn.machine) (g.M.Reads.state l.fn.machine) 0 l.lines;
}
