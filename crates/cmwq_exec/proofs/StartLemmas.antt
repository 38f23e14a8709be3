-- A valid scenario begins in a state that can be gone on from.
use Rattle.cmwq_types.specs.Contents.{ScenarioContents}
use Rattle.cmwq_types.specs.Faults.{IsValid}
use Rattle.cmwq_types.proofs.SettingLemmas.{IsSetting-valid}
use Rattle.cmwq_table.specs.Ready.{IsKept}
use Rattle.cmwq_table.specs.State.{start}
use Rattle.cmwq_table.proofs.CounterLemmas.{start-counters}

pub IsKept-start : (S : ScenarioContents) → IsValid S → IsKept (record { scenario = S; state = start S })
IsKept-start S valid = record { setting = IsSetting-valid S valid; counters = start-counters S }

pub ruleset starts = (IsSetting-valid, IsKept-start)
