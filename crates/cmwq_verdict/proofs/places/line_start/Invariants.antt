use Rattle.std.proofs.Common.{◌≡◌, ◌+◌, drop}
use Rattle.cmwq_verdict.specs.FaultPlaces.{line_start}
use Rattle.cmwq_verdict.proofs.places.line_start.Given as goal

abbrev pub invariant-loop-index : goal.invariant-loop-index
invariant-loop-index l = l.index + line_start l.left (drop l.index l.text) ≡ line_start l.n l.text
