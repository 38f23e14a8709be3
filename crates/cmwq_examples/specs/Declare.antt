-- Short words for writing scenarios down.
use Rattle.std.specs.Prelude.{ℕ, true, List, [], ◌∷◌}
use Rattle.cmwq_types.specs.Contents.{ScenarioContents, WorkContents}
use Rattle.cmwq_types.specs.declared.instr.Instr.{Instr}
use Rattle.cmwq_types.specs.declared.instr.Instr.TheVariants as instr
use Rattle.cmwq_types.specs.declared.scenario.Flags.{Flags}
use Rattle.cmwq_types.specs.declared.scenario.Line.{Line}
use Rattle.cmwq_types.specs.declared.scenario.Op.{Op}
use Rattle.cmwq_types.specs.declared.scenario.Op.TheVariants as op
use Rattle.cmwq_types.specs.declared.scenario.QueueDecl.{QueueDecl}
use Rattle.cmwq_types.specs.Scenario.{plain_flags}

abbrev pub queue : List ℕ → ℕ → Flags → QueueDecl
queue name max flags = record { name = name; max = max; flags = flags }

abbrev pub work : List ℕ → ℕ → List Op → WorkContents
work name on body = record { name = name; queue = record { 0 = on }; body = body }

abbrev pub highpri : Flags
highpri = record plain_flags { highpri = true }

abbrev pub unbound : Flags
unbound = record plain_flags { unbound = true }

abbrev pub cpu_intensive : Flags
cpu_intensive = record plain_flags { cpu_intensive = true }

abbrev pub freezable : Flags
freezable = record plain_flags { freezable = true }

abbrev pub ordered : Flags
ordered = record plain_flags { ordered = true }

abbrev pub mem_reclaim : Flags
mem_reclaim = record plain_flags { mem_reclaim = true }

-- the operations `queue W C` and `queue W 0`
abbrev pub queues_on : ℕ → ℕ → Op
queues_on w cpu = op.Queue (record { 0 = w }) cpu

abbrev pub queues : ℕ → Op
queues w = queues_on w 0

-- the operations `delay W N`, `mod W N` and `cancel W`
abbrev pub delays : ℕ → ℕ → Op
delays w ticks = op.Delay (record { 0 = w }) ticks

abbrev pub mods : ℕ → ℕ → Op
mods w ticks = op.Mod (record { 0 = w }) ticks

abbrev pub cancels : ℕ → Op
cancels w = op.Cancel (record { 0 = w })

-- `queue W C`
abbrev pub enqueue : ℕ → ℕ → Line
enqueue w cpu = record { instr = instr.Queue (record { 0 = w }) cpu; times = 1 }

-- `delay W C N`, `delay W 0 N` and `mod W 0 N`
abbrev pub delay_on : ℕ → ℕ → ℕ → Line
delay_on w cpu ticks = record { instr = instr.Delay (record { 0 = w }) cpu ticks; times = 1 }

abbrev pub delay : ℕ → ℕ → Line
delay w ticks = delay_on w 0 ticks

abbrev pub modify : ℕ → ℕ → Line
modify w ticks = record { instr = instr.Mod (record { 0 = w }) 0 ticks; times = 1 }

-- `cancel W` and `cancel_sync W`
abbrev pub cancel : ℕ → Line
cancel w = record { instr = instr.Cancel (record { 0 = w }); times = 1 }

abbrev pub cancel_sync : ℕ → Line
cancel_sync w = record { instr = instr.CancelSync (record { 0 = w }); times = 1 }

-- `disable W` and `enable W`
abbrev pub disable : ℕ → Line
disable w = record { instr = instr.Disable (record { 0 = w }); times = 1 }

abbrev pub enable : ℕ → Line
enable w = record { instr = instr.Enable (record { 0 = w }); times = 1 }

-- `flush W`, `flush_delayed W` and `flush_queue Q`
abbrev pub flush : ℕ → Line
flush w = record { instr = instr.Flush (record { 0 = w }); times = 1 }

abbrev pub flush_delayed : ℕ → Line
flush_delayed w = record { instr = instr.FlushDelayed (record { 0 = w }); times = 1 }

abbrev pub flush_queue : ℕ → Line
flush_queue q = record { instr = instr.FlushQueue (record { 0 = q }); times = 1 }

-- `set_max Q N`
abbrev pub set_max_to : ℕ → ℕ → Line
set_max_to q max = record { instr = instr.SetMax (record { 0 = q }) max; times = 1 }

-- `ask F` and `state W`
abbrev pub ask : ℕ → Line
ask number = record { instr = instr.Ask number; times = 1 }

abbrev pub state : ℕ → Line
state w = record { instr = instr.State (record { 0 = w }); times = 1 }

-- an instruction, this often
abbrev pub times : Instr → ℕ → Line
times instr n = record { instr = instr; times = n }

-- one CPU, four workers a pool, 1000 steps, and the one actor `t`
abbrev pub scenario : ℕ → List QueueDecl → List WorkContents → List Line → ScenarioContents
scenario steps queues works lines =
    record {
      cpus = 1;
      workers = 4;
      steps = steps;
      flushes = 2;
      queues = queues;
      works = works;
      actors = record { name = 116 ∷ []; lines = lines } ∷ [];
    }
