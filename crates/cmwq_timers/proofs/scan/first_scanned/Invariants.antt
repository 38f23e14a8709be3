use Rattle.std.proofs.Common.{◌≡◌, ◌<◌, IfSome, is_some}
use Rattle.cmwq_types.specs.First.{first_below}
use Rattle.cmwq_timers.specs.Timers.{fires_before, timer_at}
use Rattle.cmwq_timers.proofs.scan.first_scanned.Given as goal

-- the first of the works that were looked at
abbrev pub invariant-loop-w : goal.invariant-loop-w
invariant-loop-w l = record {
  first : l.first ≡ first_below (fires_before l.timers) (λ v. is_some (timer_at l.timers v)) l.w;
  inside : IfSome l.first (λ v. v < l.w);
}
