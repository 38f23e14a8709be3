use Rattle.std.proofs.Common.{rules, false, ◌≡◌, ◌∙◌}
use Rattle.cmwq_rings.specs.Rings.{goes_in_ring, pairs_of}
use Rattle.cmwq_request.proofs.ExploringLemmas.{as_asked}
use Rattle.cmwq_request.proofs.WhyLemmas.{nothing_of}
use Rattle.cmwq_request.proofs.exploring.explore_request.Goals as goal

pub returns-clause-words : goal.returns-clause-words
returns-clause-words c stuck flag =
    let none : goes_in_ring (pairs_of c.in_ok-before.before.items) ≡ false = search rules in
    c.request_with.ensures.words stuck flag ∙ as_asked stuck _ _ _ _ _ (pairs_of c.in_ok-before.before.items) c.in_ok-before.ensures none

pub returns-clause-nothing : goal.returns-clause-nothing
returns-clause-nothing c asks = nothing_of _ _ (returns-clause-words c asks.0 asks.1 ∙ asks.2)
