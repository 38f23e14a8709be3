use Rattle.cmwq_timers.specs.AlarmRanks.{no_alarm}
use Rattle.cmwq_timers.proofs.TreeLemmas.{IsOnTheWay, IsLesser}
use Rattle.cmwq_timers.proofs.alarm_tree.raise_alarm.Given as goal

-- all nodes but this one have the lesser ranks, and its own is known
abbrev pub invariant-loop-at : goal.invariant-loop-at
invariant-loop-at l = record {
  way : IsOnTheWay l.fn.ranks l.ranks l.leaf no_alarm l.at;
  lesser : IsLesser l.ranks l.at l.lesser;
}

abbrev pub decreases-loop-at : goal.decreases-loop-at
decreases-loop-at l = l.at
