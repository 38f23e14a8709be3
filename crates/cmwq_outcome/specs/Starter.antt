-- The first scenario, and what it prints.
use Rattle.std.specs.Prelude.{ℕ, List, [], ◌∷◌, codes}
use Rattle.cmwq_types.specs.Contents.{ScenarioContents}
use Rattle.cmwq_types.specs.Scenario.{plain_flags}
use Rattle.cmwq_types.specs.declared.instr.Instr.TheVariants as instr
use Rattle.cmwq_types.specs.declared.scenario.Op.TheVariants as op
use Rattle.cmwq_examples.specs.Declare.{enqueue, queue, times, work}
use Rattle.cmwq_types.specs.Listing.{text_of_lines}

-- two works share a CPU
abbrev pub first_scenario : ScenarioContents
first_scenario =
    record {
      cpus = 1;
      workers = 4;
      steps = 1000;
      flushes = 0;
      queues = queue (codes "q") 2 plain_flags ∷ [];
      works =
          work (codes "a") 0 (op.Burn 3 ∷ op.Sleep 5 ∷ op.Burn 1 ∷ op.Finish ∷ [])
          ∷ work (codes "b") 0 (op.Burn 4 ∷ op.Finish ∷ []) ∷ [];
      actors = record { name = codes "me"; lines = enqueue 0 0 ∷ enqueue 1 0 ∷ times instr.Quiet 100 ∷ [] } ∷ [];
    }

-- the second has the CPU while the first sleeps
abbrev pub first_lines : List ℕ
first_lines =
    text_of_lines (
    codes "0 a starts" ∷ codes "0 a burns 3" ∷ codes "3 a sleeps 5" ∷ codes "3 b starts" ∷ codes "3 b burns 4" ∷
    codes "7 b finishes" ∷ codes "8 a wakes" ∷ codes "8 a burns 1" ∷ codes "9 a finishes" ∷ [])
