-- What one may believe of the file of a run's events, as laws.
use Rattle.std.specs.Prelude.{◌≡◌, ◌≤◌, List, length}
use Rattle.std.specs.List.{AllByRecursion}
use Rattle.cmwq_types.specs.Contents.{ScenarioContents}
use Rattle.cmwq_types.specs.Faults.{IsValid}
use Rattle.cmwq_types.specs.Values.{IsInstr, IsScenario}
use Rattle.cmwq_types.specs.declared.instr.Instr.{Instr}
use Rattle.cmwq_types.specs.declared.limits.TheConstants.{MAX_HISTORY}
use Rattle.cmwq_events.specs.KernelEvents.{kernel_events}
use Rattle.cmwq_trace_data.specs.FileReading.{file_read, told_by_cpus}
use Rattle.cmwq_trace_data.specs.TraceData.{dat_bytes}

-- In each run of a valid scenario, of as many instructions as a run may have, what is read of the file is what the run's events tell.
unfoldable pub TellsEachRun : Type 0
TellsEachRun =
    (S : ScenarioContents) → IsScenario S → IsValid S → (instrs : List Instr) → AllByRecursion IsInstr instrs → length instrs ≤ MAX_HISTORY
    → file_read (dat_bytes S (kernel_events S instrs)) ≡ told_by_cpus S (kernel_events S instrs)
