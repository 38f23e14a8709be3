-- The runs with all their indexes. No public clause cites this module.
use Rattle.std.specs.Prelude.{ℕ, List, Option}
use Rattle.cmwq_types.specs.Contents.{ScenarioContents}
use Rattle.cmwq_lists.specs.ListContents.{ListContents}
use Rattle.cmwq_phased.specs.Counted.{AreCounted}
use Rattle.cmwq_phased.specs.Indexes.{AreLined, AreRuns, AreTimed}
use Rattle.cmwq_phased.specs.declared.counts.Counts.{Counts}
use Rattle.cmwq_phased.specs.declared.run.Run.{Run}

-- runs, lines, alarms and counts, in step
pub record AreIndexed (S : ScenarioContents) (runs : List (Option Run)) (lines : ListContents) (alarms : List (Option ℕ)) (counts : Counts) : Type 0 where
  pub are_runs : AreRuns S runs
  pub are_lined : AreLined S runs lines
  pub are_timed : AreTimed runs alarms
  pub are_counted : AreCounted S runs counts
