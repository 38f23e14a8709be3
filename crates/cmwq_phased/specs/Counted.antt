-- How the tallies are tied to the runs. No public clause cites this module.
use Rattle.std.specs.Prelude.{◌≡◌, ℕ, ◌*◌, List, length, replicate, Option}
use Rattle.cmwq_types.specs.Contents.{ScenarioContents}
use Rattle.cmwq_phased.specs.Indexes.{awake_classes, busy_classes, rescued_classes, running_classes}
use Rattle.cmwq_phased.specs.declared.counts.Counts.{Counts}
use Rattle.cmwq_phased.specs.declared.pools.TheConstants.{MAX_POOLS}
use Rattle.cmwq_phased.specs.declared.run.Run.{Run}
use Rattle.cmwq_tally.specs.TallyContents.{IsTallied}

-- for so many queues, of whose works none runs
abbrev pub no_counts : ℕ → Counts
no_counts queues = record {
  running = replicate (MAX_POOLS * queues) 0;
  awake = replicate MAX_POOLS 0;
  rescued = replicate queues 0;
  busy = replicate 1 0;
}

-- each tally has the counts of its classes
pub record AreCounted (S : ScenarioContents) (runs : List (Option Run)) (c : Counts) : Type 0 where
  pub running_long : length c.running ≡ MAX_POOLS * length S.queues
  pub awake_long : length c.awake ≡ MAX_POOLS
  pub rescued_long : length c.rescued ≡ length S.queues
  pub busy_long : length c.busy ≡ 1
  pub running : IsTallied c.running (running_classes S runs) (length S.works)
  pub awake : IsTallied c.awake (awake_classes S runs) (length S.works)
  pub rescued : IsTallied c.rescued (rescued_classes S runs) (length S.works)
  pub busy : IsTallied c.busy (busy_classes S runs) (length S.works)
