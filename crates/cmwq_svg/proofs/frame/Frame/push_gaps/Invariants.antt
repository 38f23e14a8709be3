use Rattle.std.proofs.Common.{◌≡◌, ◌++◌, string_bytes, take}
use Rattle.std.specs.List.{flat_map}
use Rattle.cmwq_svg.specs.Svg.{gap_svg}
use Rattle.cmwq_svg.proofs.frame.Frame.push_gaps.Given as goal

abbrev pub invariant-loop-gap : goal.invariant-loop-gap
invariant-loop-gap l = string_bytes l.text ≡ string_bytes l.fn.text ++ flat_map (gap_svg l.self.grid l.bottom) (take l.gap-index l.gaps)
