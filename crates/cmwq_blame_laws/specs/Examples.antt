-- A run by which the premises of the laws hold.
use Rattle.std.specs.Prelude.{List, [], ◌∷◌, codes, replicate, true}
use Rattle.cmwq_types.specs.Contents.{ScenarioContents}
use Rattle.cmwq_types.specs.Scenario.{plain_flags}
use Rattle.cmwq_types.specs.declared.instr.Instr.{Instr}
use Rattle.cmwq_types.specs.declared.instr.Instr.TheVariants as instr
use Rattle.cmwq_types.specs.declared.scenario.Op.TheVariants as op

-- q lets two in at a time: a and b sleep, and c is behind them; d is of a queue that a freeze stops
abbrev pub two_at_a_time : ScenarioContents
two_at_a_time = record {
  cpus = 1;
  workers = 2;
  steps = 100;
  flushes = 0;
  queues = record { name = codes "q"; max = 2; flags = plain_flags }
      ∷ record { name = codes "f"; max = 1; flags = record plain_flags { freezable = true } } ∷ [];
  works = record { name = codes "a"; queue = record { 0 = 0 }; body = op.Sleep 2 ∷ op.Finish ∷ [] }
      ∷ record { name = codes "b"; queue = record { 0 = 0 }; body = op.Sleep 1 ∷ op.Finish ∷ [] }
      ∷ record { name = codes "c"; queue = record { 0 = 0 }; body = op.Finish ∷ [] }
      ∷ record { name = codes "d"; queue = record { 0 = 1 }; body = op.Finish ∷ [] } ∷ [];
  actors = [];
}

-- the next instruction is a tick
abbrev pub until_both_sleep : List Instr
until_both_sleep =
    instr.Freeze ∷ instr.Queue (record { 0 = 0 }) 0 ∷ instr.Queue (record { 0 = 1 }) 0 ∷ instr.Queue (record { 0 = 2 }) 0
    ∷ instr.Queue (record { 0 = 3 }) 0 ∷ replicate 4 instr.Next
