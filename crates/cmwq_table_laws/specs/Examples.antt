-- Runs in which the premises of the laws hold.
use Rattle.std.specs.Prelude.{ℕ, true, List, [], ◌∷◌, codes, replicate}
use Rattle.cmwq_types.specs.Contents.{ScenarioContents, WorkContents}
use Rattle.cmwq_types.specs.Scenario.{plain_flags}
use Rattle.cmwq_types.specs.declared.instr.Instr.{Instr}
use Rattle.cmwq_types.specs.declared.instr.Instr.TheVariants as instr
use Rattle.cmwq_types.specs.declared.scenario.Flags.{Flags}
use Rattle.cmwq_types.specs.declared.scenario.Op.{Op}
use Rattle.cmwq_types.specs.declared.scenario.Op.TheVariants as op
use Rattle.cmwq_types.specs.declared.scenario.QueueDecl.{QueueDecl}
use Rattle.cmwq_table.specs.State.{pending_at}
use Rattle.cmwq_table.specs.Table.{place_of, run}
use Rattle.cmwq_types.specs.declared.reply.Place.{Place}
use Rattle.std.specs.Prelude.{Option}

abbrev pub a_queue : List ℕ → Flags → QueueDecl
a_queue name flags = record { name = name; max = 1; flags = flags }

abbrev pub a_work : List ℕ → ℕ → List Op → WorkContents
a_work name queue body = record { name = name; queue = record { 0 = queue }; body = body }

-- two CPUs; a queue of each kind, whose works are a to f, and g, whose body queues b on the second CPU
abbrev pub each_kind : ScenarioContents
each_kind = record {
  cpus = 2;
  workers = 2;
  steps = 100;
  flushes = 0;
  queues =
      a_queue (codes "n") plain_flags ∷ a_queue (codes "h") (record plain_flags { highpri = true })
      ∷ a_queue (codes "u") (record plain_flags { unbound = true }) ∷ a_queue (codes "v") (record plain_flags { unbound = true; highpri = true })
      ∷ a_queue (codes "o") (record plain_flags { ordered = true }) ∷ a_queue (codes "p") (record plain_flags { ordered = true; highpri = true }) ∷ [];
  works =
      a_work (codes "a") 0 (op.Burn 2 ∷ op.Finish ∷ []) ∷ a_work (codes "b") 1 (op.Finish ∷ []) ∷ a_work (codes "c") 2 (op.Finish ∷ [])
      ∷ a_work (codes "d") 3 (op.Finish ∷ []) ∷ a_work (codes "e") 4 (op.Finish ∷ []) ∷ a_work (codes "f") 5 (op.Finish ∷ [])
      ∷ a_work (codes "g") 0 (op.Queue (record { 0 = 1 }) 1 ∷ op.Finish ∷ []) ∷ [];
  actors = [];
}

-- the instruction that queues the work on the second CPU, and those that do so after some ticks
abbrev pub queue_on_1 : ℕ → Instr
queue_on_1 w = instr.Queue (record { 0 = w }) 1

abbrev pub delay_on_1 : ℕ → ℕ → Instr
delay_on_1 w ticks = instr.Delay (record { 0 = w }) 1 ticks

abbrev pub mod_on_1 : ℕ → ℕ → Instr
mod_on_1 w ticks = instr.Mod (record { 0 = w }) 1 ticks

abbrev pub disable_it : ℕ → Instr
disable_it w = instr.Disable (record { 0 = w })

abbrev pub enable_it : ℕ → Instr
enable_it w = instr.Enable (record { 0 = w })

-- where the work is behind these instructions
abbrev pub place_after_all : List Instr → ℕ → Option Place
place_after_all instrs w = place_of (pending_at (run each_kind instrs) w)

-- a runs in the first CPU's normal pool
abbrev pub a_runs : List Instr
a_runs = instr.Queue (record { 0 = 0 }) 0 ∷ instr.Next ∷ []

-- and has two ticks to burn
abbrev pub a_burns : List Instr
a_burns = instr.Queue (record { 0 = 0 }) 0 ∷ instr.Next ∷ instr.Next ∷ []

-- g is about to queue b
abbrev pub g_queues_b : List Instr
g_queues_b = queue_on_1 6 ∷ instr.Next ∷ []

-- b's timer, on the second CPU, has run out
abbrev pub b_is_due : List Instr
b_is_due = delay_on_1 1 1 ∷ instr.Tick ∷ []

-- b's timer, on the second CPU, was set a tick ago, and since then so many times on one of 7 ticks
abbrev pub b_is_set : ℕ → List Instr
b_is_set times = delay_on_1 1 5 ∷ instr.Tick ∷ replicate times (mod_on_1 1 7)

-- two CPUs, and a queue n of theirs and an unbound one u; a, of n, delays b, modifies it so that it is placed at once, and cancels it; c, of u,
-- modifies b; and d, of a queue h of high priority, delays b
abbrev pub bodies_arm : ScenarioContents
bodies_arm = record {
  cpus = 2;
  workers = 2;
  steps = 50;
  flushes = 0;
  queues =
      a_queue (codes "n") plain_flags ∷ a_queue (codes "u") (record plain_flags { unbound = true })
      ∷ a_queue (codes "h") (record plain_flags { highpri = true }) ∷ [];
  works =
      a_work (codes "a") 0 (op.Delay (record { 0 = 1 }) 2 ∷ op.Mod (record { 0 = 1 }) 0 ∷ op.Cancel (record { 0 = 1 }) ∷ op.Finish ∷ [])
      ∷ a_work (codes "b") 0 (op.Finish ∷ []) ∷ a_work (codes "c") 1 (op.Mod (record { 0 = 1 }) 4 ∷ op.Finish ∷ [])
      ∷ a_work (codes "d") 2 (op.Delay (record { 0 = 1 }) 3 ∷ op.Finish ∷ []) ∷ [];
  actors = [];
}

-- a runs in the second CPU's normal pool, and has done so many operations
abbrev pub a_has_done : ℕ → List Instr
a_has_done operations = queue_on_1 0 ∷ instr.Next ∷ replicate operations (instr.Step 2)

-- c runs in the normal unbound pool
abbrev pub c_runs : List Instr
c_runs = queue_on_1 2 ∷ instr.Next ∷ []

-- d runs in the second CPU's high pool
abbrev pub d_runs : List Instr
d_runs = queue_on_1 3 ∷ instr.Next ∷ []

-- where b is behind these instructions
abbrev pub place_of_b : List Instr → Option Place
place_of_b instrs = place_of (pending_at (run bodies_arm instrs) 1)
