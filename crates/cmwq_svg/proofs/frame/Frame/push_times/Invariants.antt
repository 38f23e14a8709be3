use Rattle.std.proofs.Common.{◌≡◌, ◌++◌, string_bytes}
use Rattle.cmwq_svg.specs.Svg.{time_marks}
use Rattle.cmwq_svg.proofs.frame.Frame.push_times.Given as goal

abbrev pub invariant-loop-number : goal.invariant-loop-number
invariant-loop-number l = string_bytes l.text ≡ string_bytes l.fn.text ++ time_marks l.self.edges.now l.self.grid l.step l.bottom l.number
