use Rattle.std.proofs.Common.{◌≡◌, None, not}
use Rattle.std.specs.Prelude.{map}
use Rattle.cmwq_types.specs.First.{by_least, first_below}
use Rattle.cmwq_fitting.specs.KnownWords.{is_known}
use Rattle.cmwq_fitting.specs.Offered.{numbered_name}
use Rattle.cmwq_fitting.proofs.offer.unknown_name.Given as goal

-- each name so far is known
abbrev pub invariant-loop-number : goal.invariant-loop-number
invariant-loop-number l = first_below (by_least (λ n. n)) (λ n. not (is_known (map (λ word. word.now) l.known) (numbered_name n))) l.number ≡ None
