-- Scenarios and instructions by which the premises of the laws hold.
use Rattle.std.specs.Prelude.{List, [], ◌∷◌, ◌++◌, codes, replicate}
use Rattle.cmwq_types.specs.Contents.{ScenarioContents}
use Rattle.cmwq_types.specs.Scenario.{plain_flags}
use Rattle.cmwq_types.specs.declared.instr.Instr.{Instr}
use Rattle.cmwq_types.specs.declared.instr.Instr.TheVariants as instr
use Rattle.cmwq_types.specs.declared.scenario.Op.TheVariants as op
use Rattle.cmwq_table.specs.State.{State}
use Rattle.cmwq_table.specs.Table.{after_all, run}

-- one work, which burns for two ticks, sleeps for one and burns for one more
abbrev pub burns_twice : ScenarioContents
burns_twice = record {
  cpus = 1;
  workers = 1;
  steps = 100;
  flushes = 0;
  queues = record { name = codes "q"; max = 1; flags = plain_flags } ∷ [];
  works = record { name = codes "a"; queue = record { 0 = 0 }; body = op.Burn 2 ∷ op.Sleep 1 ∷ op.Burn 1 ∷ op.Finish ∷ [] } ∷ [];
  actors = [];
}

-- the instructions that queue the first and the second work on CPU 0
abbrev pub queue_a : Instr
queue_a = instr.Queue (record { 0 = 0 }) 0

abbrev pub queue_b : Instr
queue_b = instr.Queue (record { 0 = 1 }) 0

-- the work is listed, and the next instruction starts it
abbrev pub listed : State
listed = run burns_twice (queue_a ∷ [])

-- Burn, and the first tick.
abbrev pub for_a_tick : List Instr
for_a_tick = replicate 2 instr.Next

-- Burn, two ticks, Sleep, a tick, Wakes, Burn and a tick; the next instruction ends it.
abbrev pub to_its_end : List Instr
to_its_end = replicate 8 instr.Next

-- two works at once: a burns for a tick, sleeps for one and burns for one more, and b burns for three
abbrev pub shares_cpu : ScenarioContents
shares_cpu = record {
  cpus = 1;
  workers = 2;
  steps = 100;
  flushes = 0;
  queues = record { name = codes "q"; max = 2; flags = plain_flags } ∷ [];
  works = record { name = codes "a"; queue = record { 0 = 0 }; body = op.Burn 1 ∷ op.Sleep 1 ∷ op.Burn 1 ∷ op.Finish ∷ [] }
      ∷ record { name = codes "b"; queue = record { 0 = 0 }; body = op.Burn 3 ∷ op.Finish ∷ [] } ∷ [];
  actors = [];
}

-- both are listed, and the next instruction starts a
abbrev pub both_listed : State
both_listed = run shares_cpu (queue_a ∷ queue_b ∷ [])

-- Burn of a, a tick, Sleep; b starts, Burn, a tick; a wakes, and b burns for two ticks more.
abbrev pub through_its_wait : List Instr
through_its_wait = replicate 9 instr.Next

-- Then b finishes, Burn of a, and a tick; the next instruction ends it.
abbrev pub through_its_turn : List Instr
through_its_turn = replicate 12 instr.Next

-- one work, which burns for two ticks and sleeps for one
abbrev pub burns_again : ScenarioContents
burns_again = record burns_twice {
  queues = record { name = codes "q"; max = 2; flags = plain_flags } ∷ [];
  works = record { name = codes "a"; queue = record { 0 = 0 }; body = op.Burn 2 ∷ op.Sleep 1 ∷ op.Finish ∷ [] } ∷ [];
}

-- it is listed, and the next instruction starts it
abbrev pub listed_once : State
listed_once = run burns_again (queue_a ∷ [])

-- Burn, two ticks, Sleep; the work is queued anew, and deferred; a tick, and Wakes. The next instruction ends it, and starts
-- the instance that was deferred.
abbrev pub to_its_next : List Instr
to_its_next = replicate 4 instr.Next ++ queue_a ∷ replicate 3 instr.Next

-- the state before that instruction
abbrev pub at_its_next : State
at_its_next = after_all burns_again listed_once (instr.Next ∷ to_its_next)

-- Burn, two ticks, Sleep, a tick, and Wakes; the next instruction ends that one too.
abbrev pub to_its_last : List Instr
to_its_last = replicate 6 instr.Next
