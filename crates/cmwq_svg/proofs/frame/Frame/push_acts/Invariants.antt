use Rattle.std.proofs.Common.{◌≡◌, ◌+◌, ◌++◌, drop, string_bytes}
use Rattle.cmwq_svg.specs.Svg.{acts_svg}
use Rattle.cmwq_svg.proofs.frame.Frame.push_acts.Given as goal

-- what is written, and what those that are left come to, is the whole
abbrev pub invariant-loop-number : goal.invariant-loop-number
invariant-loop-number l =
    string_bytes l.text ++ acts_svg l.self.scenario.now l.self.edges.now l.self.grid (l.first + l.number) (drop l.number l.acts)
    ≡ string_bytes l.fn.text ++ acts_svg l.self.scenario.now l.self.edges.now l.self.grid l.first l.acts
