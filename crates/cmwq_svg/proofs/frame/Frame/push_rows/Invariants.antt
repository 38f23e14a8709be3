use Rattle.std.proofs.Common.{◌≡◌, ◌++◌, drop, string_bytes}
use Rattle.cmwq_svg.specs.Svg.{rows_svg}
use Rattle.cmwq_svg.proofs.frame.Frame.push_rows.Given as goal

-- what is written, and what the rows that are left come to, is the whole
abbrev pub invariant-loop-at : goal.invariant-loop-at
invariant-loop-at l =
    string_bytes l.text ++ rows_svg l.self.scenario.now l.self.edges.now l.self.grid l.self.large l.hints l.at (drop l.at l.rows)
    ≡ string_bytes l.fn.text ++ rows_svg l.self.scenario.now l.self.edges.now l.self.grid l.self.large l.hints 0 l.rows
