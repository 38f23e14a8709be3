use Rattle.std.proofs.Common.{◌≡◌, string_bytes}
use Rattle.cmwq_render.specs.Times.{times_above}
use Rattle.cmwq_render.proofs.times.header.Given as goal

abbrev pub invariant-loop-number : goal.invariant-loop-number
invariant-loop-number l = string_bytes l.line ≡ times_above l.edges l.width l.number
