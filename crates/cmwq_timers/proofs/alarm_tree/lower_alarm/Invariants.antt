use Rattle.cmwq_timers.proofs.TreeLemmas.{IsLowering}
use Rattle.cmwq_timers.proofs.alarm_tree.lower_alarm.Given as goal

-- all nodes but this one have the lesser ranks
abbrev pub invariant-loop-at : goal.invariant-loop-at
invariant-loop-at l = IsLowering l.fn.ranks l.ranks l.leaf l.rank l.at

abbrev pub decreases-loop-at : goal.decreases-loop-at
decreases-loop-at l = l.at
