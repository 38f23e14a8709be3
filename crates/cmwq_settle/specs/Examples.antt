-- Worked examples: small scenarios, and when their machines are quiet.
use Rattle.std.specs.Prelude.{ℕ, List, [], ◌∷◌, codes}
use Rattle.cmwq_types.specs.Contents.{ScenarioContents, WorkContents}
use Rattle.cmwq_types.specs.Scenario.{plain_flags}
use Rattle.cmwq_types.specs.declared.instr.Instr.{Instr}
use Rattle.cmwq_types.specs.declared.instr.Instr.TheVariants as instr
use Rattle.cmwq_types.specs.declared.instr.WorkId.{WorkId}
use Rattle.cmwq_types.specs.declared.scenario.Op.TheVariants as op
use Rattle.cmwq_types.specs.declared.scenario.QueueDecl.{QueueDecl}
use Rattle.cmwq_examples.specs.Declare.{queue, queues, work}

-- one CPU, a worker a pool, so many steps, and no actor
abbrev pub small : ℕ → List WorkContents → ScenarioContents
small steps works =
    record {
      cpus = 1;
      workers = 1;
      steps = steps;
      flushes = 0;
      queues = queue (codes "q") 1 plain_flags ∷ [];
      works = works;
      actors = [];
    }

-- a work that burns for two ticks, and one that ends at once
abbrev pub two_works : ℕ → ScenarioContents
two_works steps = small steps (work (codes "a") 0 (op.Burn 2 ∷ op.Finish ∷ []) ∷ work (codes "b") 0 (op.Finish ∷ []) ∷ [])

-- a work that queues itself
abbrev pub never_quiet : ℕ → ScenarioContents
never_quiet steps = small steps (work (codes "a") 0 (queues 0 ∷ op.Finish ∷ []) ∷ [])

abbrev pub a : WorkId
a = record { 0 = 0 }

abbrev pub b : WorkId
b = record { 0 = 1 }

-- `queue a 0`, `queue b 0` and `delay b 0 1`
abbrev pub a_queued : Instr
a_queued = instr.Queue a 0

abbrev pub b_queued : Instr
b_queued = instr.Queue b 0

abbrev pub delay_b : Instr
delay_b = instr.Delay b 0 1
