use Rattle.std.proofs.Common.{◌≡◌, take}
use Rattle.std.specs.Prelude.{map}
use Rattle.cmwq_outcome.specs.FaultsTold.{printable_byte}
use Rattle.cmwq_outcome.proofs.telling.printable.Given as goal

abbrev pub invariant-loop-byte : goal.invariant-loop-byte
invariant-loop-byte l = l.told.items ≡ map printable_byte (take l.byte-index l.text)
