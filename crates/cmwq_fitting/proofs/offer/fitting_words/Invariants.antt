use Rattle.std.proofs.Common.{◌≡◌, take}
use Rattle.std.specs.List.{filter}
use Rattle.std.specs.Prelude.{map}
use Rattle.cmwq_fitting.specs.Fitting.{fits}
use Rattle.cmwq_fitting.proofs.offer.fitting_words.Given as goal

abbrev pub invariant-loop-word : goal.invariant-loop-word
invariant-loop-word l = map (λ word. word.now) l.words.items ≡ filter (fits l.gap.line l.gap.front.now) (map (λ word. word.now) (take l.word-index l.known))
