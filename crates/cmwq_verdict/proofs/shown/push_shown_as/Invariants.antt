use Rattle.std.proofs.Common.{◌≡◌, ◌++◌, take}
use Rattle.std.specs.Prelude.{map}
use Rattle.cmwq_verdict.specs.Shown.{shown_as}
use Rattle.cmwq_verdict.proofs.shown.push_shown_as.Given as goal

abbrev pub invariant-loop-byte : goal.invariant-loop-byte
invariant-loop-byte l = l.told.items ≡ l.fn.told.items ++ map (shown_as l.shown) (take l.byte-index l.bytes)
