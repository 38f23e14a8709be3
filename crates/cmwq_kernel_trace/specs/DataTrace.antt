-- The file `trace.dat` of a run.
use Rattle.std.specs.Prelude.{ℕ, List}
use Rattle.cmwq_types.specs.Contents.{ScenarioContents}
use Rattle.cmwq_types.specs.declared.instr.Instr.{Instr}
use Rattle.cmwq_events.specs.KernelEvents.{kernel_events}
use Rattle.cmwq_trace_data.specs.TraceData.{dat_bytes}

abbrev pub dat_of_run : ScenarioContents → List Instr → List ℕ
dat_of_run S instrs = dat_bytes S (kernel_events S instrs)
