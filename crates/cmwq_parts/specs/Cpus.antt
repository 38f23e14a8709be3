-- The CPUs of timers.
use Rattle.std.specs.Prelude.{◌<◌, Option, Some, None}
use Rattle.cmwq_types.specs.Contents.{ScenarioContents}
use Rattle.cmwq_types.specs.declared.reply.Place.{Place}
use Rattle.cmwq_types.specs.declared.reply.Place.TheVariants.{Timer, Inactive, Listed, Deferred}
use Rattle.cmwq_table.specs.declared.state.Pending.{Pending}

-- where the place is a timer, its CPU is there
abbrev pub HasCpu : ScenarioContents → Place → Type 0
HasCpu S (Timer due cpu) = cpu < S.cpus
HasCpu S (Inactive pool) = Unit {0}
HasCpu S (Listed pool) = Unit {0}
HasCpu S (Deferred pool) = Unit {0}

abbrev pub HasCpuIfPending : ScenarioContents → Option Pending → Type 0
HasCpuIfPending S (Some p) = HasCpu S p.place
HasCpuIfPending S None = Unit {0}
