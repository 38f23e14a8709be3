use Rattle.std.proofs.Common.{◌≡◌, ◌++◌, take, codes}
use Rattle.std.specs.List.{flat_map}
use Rattle.std.specs.Prelude.{map}
use Rattle.cmwq_verdict.specs.OfferLines.{spelled}
use Rattle.cmwq_verdict.proofs.offers.push_other_words.Given as goal

abbrev pub invariant-loop-other : goal.invariant-loop-other
invariant-loop-other l = l.told.items ≡ l.fn.told.items ++ flat_map (λ other. codes ", " ++ other) (map spelled (take l.other-index l.others))
