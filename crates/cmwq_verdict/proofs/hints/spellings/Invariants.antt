use Rattle.std.proofs.Common.{◌≡◌, take}
use Rattle.std.specs.Prelude.{map}
use Rattle.cmwq_verdict.specs.OfferLines.{spelled}
use Rattle.cmwq_verdict.proofs.hints.spellings.Given as goal

abbrev pub invariant-loop-word : goal.invariant-loop-word
invariant-loop-word l = map (λ word. word.now) l.spellings.items ≡ map spelled (take l.word-index l.words)
