-- What contracts see of the sums of a run.
use Rattle.cmwq_types.specs.Contents.{ScenarioContents}
use Rattle.cmwq_table.specs.State.{State}
use Rattle.cmwq_ledger.specs.Contents.{TotalsContents}
use Rattle.cmwq_reports.specs.declared.report.Format.{Format}

pub record SumsContents : Type 0 where
  pub format : Format
  pub scenario : ScenarioContents
  pub totals : TotalsContents
  pub state : State
