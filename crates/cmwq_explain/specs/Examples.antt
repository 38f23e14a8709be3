-- Worked examples: what is told of a work that is queued, starts, burns a tick and finishes.
use Rattle.std.specs.Prelude.{ℕ, Bool, List, [], ◌∷◌, ◌++◌, Option, Some, None, codes, if◌then◌else◌, nat_lt}
use Rattle.std.specs.Fmt.{decimal}
use Rattle.cmwq_types.specs.Contents.{ScenarioContents}
use Rattle.cmwq_types.specs.Scenario.{plain_flags}
use Rattle.cmwq_types.specs.declared.instr.Instr.{Instr}
use Rattle.cmwq_types.specs.declared.instr.Instr.TheVariants as instr
use Rattle.cmwq_types.specs.declared.scenario.Op.TheVariants as op
use Rattle.cmwq_examples.specs.Declare.{queue, work}
use Rattle.cmwq_table.specs.State.{State}

-- one CPU, one worker a pool, and a work that burns for a tick
abbrev pub burning_work : ScenarioContents
burning_work =
    record {
      cpus = 1;
      workers = 1;
      steps = 9;
      flushes = 0;
      queues = queue (codes "q") 1 plain_flags ∷ [];
      works = work (codes "a") 0 (op.Burn 1 ∷ op.Finish ∷ []) ∷ [];
      actors = [];
    }

-- it is queued; `next` starts it, lets it burn, passes the tick, and finishes it
abbrev pub its_run : List Instr
its_run = instr.Queue (record { 0 = 0 }) 0 ∷ instr.Next ∷ instr.Next ∷ instr.Next ∷ instr.Next ∷ []

-- the same as far as the tick, behind which the work is to finish
abbrev pub up_to_its_tick : List Instr
up_to_its_tick = instr.Queue (record { 0 = 0 }) 0 ∷ instr.Next ∷ instr.Next ∷ instr.Next ∷ []

-- it is delayed by a tick; `next` passes the tick, lets its timer fire, starts it, and lets it burn
abbrev pub delayed_run : List Instr
delayed_run = instr.Delay (record { 0 = 0 }) 0 1 ∷ instr.Next ∷ instr.Next ∷ instr.Next ∷ instr.Next ∷ []

-- the time is said
abbrev pub says_time : ScenarioContents → Bool → State → Option (List ℕ)
says_time S is_last s = Some (codes "time " ++ decimal s.time ++ 10 ∷ [])

-- the time is said from tick 1 on
abbrev pub says_later : ScenarioContents → Bool → State → Option (List ℕ)
says_later S is_last s = if nat_lt s.time 1 then None else Some (codes "late\n")

-- nothing is ever said
abbrev pub says_nothing : ScenarioContents → Bool → State → Option (List ℕ)
says_nothing S is_last s = None

-- two works that burn for a tick each, and a flush
abbrev pub two_works : ScenarioContents
two_works =
    record burning_work {
      workers = 2;
      flushes = 1;
      queues = queue (codes "q") 2 plain_flags ∷ [];
      works = work (codes "a") 0 (op.Burn 1 ∷ op.Finish ∷ []) ∷ work (codes "b") 0 (op.Burn 1 ∷ op.Finish ∷ []) ∷ [];
    }

-- both are queued, b first, and b is flushed; there is no `next`
abbrev pub without_next : List Instr
without_next = instr.Queue (record { 0 = 1 }) 0 ∷ instr.Queue (record { 0 = 0 }) 0 ∷ instr.Flush (record { 0 = 1 }) ∷ []

-- b alone is queued, starts, burns, and finishes
abbrev pub to_the_end : List Instr
to_the_end = instr.Queue (record { 0 = 1 }) 0 ∷ instr.Next ∷ instr.Next ∷ instr.Next ∷ instr.Next ∷ []

-- with two steps both are spent where b has been queued and flushed
abbrev pub of_two_steps : ScenarioContents
of_two_steps = record two_works { steps = 2 }

abbrev pub to_the_last_step : List Instr
to_the_last_step = instr.Queue (record { 0 = 1 }) 0 ∷ instr.Flush (record { 0 = 1 }) ∷ []
