use Rattle.std.proofs.Common.{◌≡◌, ◌+◌, ◌++◌, drop, string_bytes}
use Rattle.cmwq_svg.specs.Svg.{legend_svg}
use Rattle.cmwq_svg.proofs.frame.Frame.push_legend.Given as goal

abbrev pub invariant-loop-number : goal.invariant-loop-number
invariant-loop-number l = string_bytes l.text ++ legend_svg l.self.grid (l.first + l.number) (drop l.number l.cells) ≡ string_bytes l.fn.text ++ legend_svg l.self.grid l.first l.cells
