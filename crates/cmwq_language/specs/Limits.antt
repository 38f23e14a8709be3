-- The limits of a scenario, each behind what it limits.
use Rattle.std.specs.Prelude.{ℕ, List, [], ◌∷◌, ◌++◌, codes}
use Rattle.std.specs.Fmt.{decimal}
use Rattle.cmwq_types.specs.declared.limits.TheConstants.{MAX_ACTORS, MAX_CPUS, MAX_FLUSHES, MAX_LINES, MAX_MAX_ACTIVE, MAX_OPS, MAX_QUEUES, MAX_STEPS, MAX_TICKS, MAX_TIMES, MAX_WORKERS, MAX_WORKS}
use Rattle.cmwq_language.specs.declared.limits.Limited.{Limited}
use Rattle.cmwq_language.specs.declared.limits.Limited.TheVariants as limited

abbrev pub limit : Limited → ℕ
limit limited.Cpus = MAX_CPUS
limit limited.Workers = MAX_WORKERS
limit limited.Steps = MAX_STEPS
limit limited.Flushes = MAX_FLUSHES
limit limited.MaxActive = MAX_MAX_ACTIVE
limit limited.Queues = MAX_QUEUES
limit limited.Works = MAX_WORKS
limit limited.Operations = MAX_OPS
limit limited.Lines = MAX_LINES
limit limited.Actors = MAX_ACTORS
limit limited.Burn = MAX_TICKS
limit limited.Sleep = MAX_TICKS
limit limited.Delay = MAX_TICKS
limit limited.Mod = MAX_TICKS
limit limited.Times = MAX_TIMES

abbrev pub before : Limited → List ℕ
before limited.Cpus = codes "  cpus N: CPUs, 1 to "
before limited.Workers = codes "\n  workers N: the most workers of a pool, 1 to "
before limited.Steps = codes "\n  steps N: the most instructions that are accepted, 1 to "
before limited.Flushes = codes "\n  flushes N: how many flushes can be given, 0 to "
before limited.MaxActive = codes "\n  queue NAME max N FLAG..: its max_active is N, 1 to "
before limited.Queues = codes "; queues are at most "
before limited.Works = codes "\n  work NAME QUEUE: a work item of a declared queue; work items are at most "
before limited.Operations = codes "\n  body NAME: begins the body of the next work item; operations are at most "
before limited.Lines = codes "\n  actor NAME: begins a caller; lines are at most "
before limited.Actors = codes "; actors are at most "
before limited.Burn = codes "  burn N: keeps the CPU for N ticks, 1 to "
before limited.Sleep = codes "\n  sleep N: sleeps for N ticks, 1 to "
before limited.Delay = codes "\n  queue WORK CPU: queues a work item on a CPU, from 0 on, unless it is pending\n  delay WORK N: as queue, on this body's CPU in N ticks, 0 to "
before limited.Mod = codes "\n  mod WORK N: as delay, and replaces an earlier request, 0 to "
before limited.Times = codes "\n  cancel WORK: takes it off, if it is pending\n  finish: ends the body\n\nInstructions of an actor; `* N` after one gives it N times, 1 to "

abbrev pub limited_text : Limited → List ℕ
limited_text limited = before limited ++ decimal (limit limited)

-- what is limited in the lines, in their order, and in bodies and actors' lines
abbrev pub in_lines : List Limited
in_lines =
    limited.Cpus ∷ limited.Workers ∷ limited.Steps ∷ limited.Flushes ∷ limited.MaxActive ∷ limited.Queues ∷ limited.Works ∷ limited.Operations
    ∷ limited.Lines ∷ limited.Actors ∷ []

abbrev pub in_bodies : List Limited
in_bodies = limited.Burn ∷ limited.Sleep ∷ limited.Delay ∷ limited.Mod ∷ limited.Times ∷ []
