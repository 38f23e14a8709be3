-- A race of two actors: one queues a work and asks twice, the other cancels it.
use Rattle.std.specs.Prelude.{ℕ, List, [], ◌∷◌}
use Rattle.cmwq_types.specs.Contents.{ActorContents, ScenarioContents}
use Rattle.cmwq_types.specs.declared.instr.Instr.{Instr}
use Rattle.cmwq_types.specs.declared.instr.Instr.TheVariants as instr
use Rattle.cmwq_types.specs.declared.reply.Reply.{Reply}
use Rattle.cmwq_types.specs.declared.reply.Reply.TheVariants as reply
use Rattle.cmwq_engine.specs.declared.history.Entry.{Entry}

abbrev pub queue_it : Instr
queue_it = instr.Queue (record { 0 = 0 }) 0

abbrev pub cancel_it : Instr
cancel_it = instr.Cancel (record { 0 = 0 })

abbrev pub two_actors : ScenarioContents
two_actors = record {
  cpus = 1;
  workers = 1;
  steps = 9;
  flushes = 0;
  queues = [];
  works = [];
  actors = record { name = 97 ∷ []; lines = record { instr = queue_it; times = 1 } ∷ record { instr = instr.Busy; times = 2 } ∷ [] }
      ∷ record { name = 98 ∷ []; lines = record { instr = cancel_it; times = 1 } ∷ [] } ∷ [];
}

abbrev pub example_entry : ℕ → ℕ → Instr → Reply → Entry
example_entry ticket caller instr reply = record { ticket = ticket; caller = caller; instr = instr; reply = reply }

-- the cancel comes between the queueing and the questions, and after a ticket that nobody used
abbrev pub race : List Entry
race = example_entry 0 0 queue_it reply.Queued ∷ example_entry 2 1 cancel_it reply.Cancelled ∷ example_entry 3 0 instr.Busy reply.No ∷ example_entry 4 0 instr.Busy reply.No ∷ []
