use Rattle.std.proofs.Common.{◌≡◌, ◌++◌, take}
use Rattle.std.specs.List.{filter}
use Rattle.std.specs.Prelude.{map}
use Rattle.cmwq_types.specs.Mnemonics.{spelling}
use Rattle.cmwq_grammar.specs.Instructions.{operands_of}
use Rattle.cmwq_grammar.specs.Offers.{has_named}
use Rattle.cmwq_verdict.specs.OfferLines.{spelled}
use Rattle.cmwq_verdict.proofs.first_words.push_named.Given as goal

abbrev pub invariant-loop-mnemonic : goal.invariant-loop-mnemonic
invariant-loop-mnemonic l =
    map spelled l.words.items
    ≡ map spelled l.fn.words.items ++ map spelling (filter (λ mnemonic. has_named l.works l.queues (operands_of mnemonic)) (take l.mnemonic-index l.all))
