use Rattle.std.proofs.Common.{◌≡◌, take}
use Rattle.std.specs.Prelude.{map}
use Rattle.cmwq_fitting.specs.NearMisses.{small_letter}
use Rattle.cmwq_fitting.proofs.near_misses.small_letters.Given as goal

abbrev pub invariant-loop-byte : goal.invariant-loop-byte
invariant-loop-byte l = l.small.items ≡ map small_letter (take l.byte-index l.word)
