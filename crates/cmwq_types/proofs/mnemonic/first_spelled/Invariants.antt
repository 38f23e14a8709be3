use Rattle.std.proofs.Common.{◌≡◌, drop}
use Rattle.cmwq_types.specs.Mnemonics.{first_spelled}
use Rattle.cmwq_types.proofs.mnemonic.first_spelled.Given as goal

-- the first among those that are left is the first of all
abbrev pub invariant-loop-mnemonic : goal.invariant-loop-mnemonic
invariant-loop-mnemonic l = first_spelled (drop l.mnemonic-index l.mnemonics) l.word ≡ first_spelled l.mnemonics l.word
