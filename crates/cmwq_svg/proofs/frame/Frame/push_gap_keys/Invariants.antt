use Rattle.std.proofs.Common.{◌≡◌, ◌+◌, ◌++◌, drop, string_bytes}
use Rattle.cmwq_svg.specs.Svg.{gap_keys}
use Rattle.cmwq_svg.proofs.frame.Frame.push_gap_keys.Given as goal

abbrev pub invariant-loop-number : goal.invariant-loop-number
invariant-loop-number l = string_bytes l.text ++ gap_keys l.self.grid (l.first + l.number) (drop l.number l.gaps) ≡ string_bytes l.fn.text ++ gap_keys l.self.grid l.first l.gaps
