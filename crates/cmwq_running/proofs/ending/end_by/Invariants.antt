use Rattle.std.proofs.Common.{◌≡◌}
use Rattle.cmwq_running.specs.Heads.{AreHeaded, AreOnTime, alarm_count}
use Rattle.cmwq_running.specs.Pools.{AreAlikeOutside}
use Rattle.cmwq_running.specs.RunningContents.{seen}
use Rattle.cmwq_running.proofs.ending.end_by.Given as goal

-- nothing shows of what has ended so far, and only the pools that are noted may see it
abbrev pub invariant-loop-pool : goal.invariant-loop-pool
invariant-loop-pool l = record {
  seen : seen l.fn.time l.works ≡ seen l.fn.time l.fn.works;
  on_time : AreOnTime l.fn.time l.works.runs;
  headed : AreHeaded l.works.scenario l.works.runs;
  elsewhere : AreAlikeOutside l.pools l.fn.works.runs l.works.runs;
}

abbrev pub decreases-loop-pool : goal.decreases-loop-pool
decreases-loop-pool l = alarm_count l.works
