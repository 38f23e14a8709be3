use Rattle.std.proofs.Common.{◌≡◌, None}
use Rattle.cmwq_types.specs.First.{by_least, first_below}
use Rattle.cmwq_fitting.specs.Fitting.{fits}
use Rattle.cmwq_fitting.specs.Shortened.{shortened}
use Rattle.cmwq_fitting.proofs.shortening.name_number.Given as goal

-- no form so far fits
abbrev pub invariant-loop-number : goal.invariant-loop-number
invariant-loop-number l = first_below (by_least (λ n. n)) (λ n. fits l.gap.line l.gap.front.now (shortened l.name n)) l.number ≡ None
