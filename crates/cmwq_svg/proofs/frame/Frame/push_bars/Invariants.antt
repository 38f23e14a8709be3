use Rattle.std.proofs.Common.{◌≡◌, ◌≤◌, ◌++◌, IfSome, drop, string_bytes}
use Rattle.cmwq_svg.specs.Bars.{bars, bars_from}
use Rattle.cmwq_svg.specs.Svg.{bars_svg}
use Rattle.cmwq_svg.proofs.frame.Frame.push_bars.Given as goal

-- what is written, and what the cells that are left come to, is the whole
abbrev pub invariant-loop-column : goal.invariant-loop-column
invariant-loop-column l = record {
  written : string_bytes l.text ++ bars_svg l.self.scenario.now l.self.edges.now l.self.grid l.at l.row l.left (bars_from l.last l.column (drop l.column l.cells))
      ≡ string_bytes l.fn.text ++ bars_svg l.self.scenario.now l.self.edges.now l.self.grid l.at l.row l.hints (bars l.cells);
  begun : IfSome l.last (λ bar. (bar.from ≤ bar.to) × (bar.to ≤ l.column));
}
