use Rattle.std.proofs.Common.{◌≡◌, drop}
use Rattle.cmwq_explored.specs.Asking.{precedences_asked}
use Rattle.cmwq_explored.proofs.AskingLemmas.{put_all}
use Rattle.cmwq_explored.proofs.asking.precedences_asked.Given as goal

-- the pairs so far, and those that are left, make the whole
abbrev pub invariant-loop-pair : goal.invariant-loop-pair
invariant-loop-pair l = precedences_asked l.scenario l.pairs ≡ put_all l.before.items (precedences_asked l.scenario (drop l.pair-index l.pairs))
