use Rattle.std.proofs.Common.{◌≡◌, ◌<◌, IfSome, is_some}
use Rattle.cmwq_types.specs.First.{by_least, first_below}
use Rattle.cmwq_timers.specs.Alarms.{alarm_at, tick_or_0}
use Rattle.cmwq_timers.proofs.alarm_scan.first_alarm.Given as goal

-- the first of the works that were looked at
abbrev pub invariant-loop-w : goal.invariant-loop-w
invariant-loop-w l = record {
  first : l.first ≡ first_below (by_least (λ v. tick_or_0 (alarm_at l.alarms v))) (λ v. is_some (alarm_at l.alarms v)) l.w;
  inside : IfSome l.first (λ v. v < l.w);
}
