-- What a contract sees of `Pool`: the machine's scenario and state, and the pool's number.
use Rattle.std.specs.Prelude.{ℕ, if◌then◌else◌, ◌==◌, Option, Some, None}
use Rattle.cmwq_types.specs.Contents.{ScenarioContents}
use Rattle.cmwq_types.specs.declared.reply.Place.{Place}
use Rattle.cmwq_types.specs.declared.reply.Place.TheVariants.{Timer, Inactive, Listed, Deferred}
use Rattle.cmwq_table.specs.Ready.{Loaded}
use Rattle.cmwq_table.specs.State.{State}
use Rattle.cmwq_table.specs.declared.state.Pending.{Pending}
use Rattle.cmwq_table.specs.declared.state.Running.{Running}

pub record PoolContents : Type 0 where
  pub scenario : ScenarioContents
  pub state : State
  pub number : ℕ

abbrev pub pool_of : Loaded → ℕ → PoolContents
pool_of m number = record { scenario = m.scenario; state = m.state; number = number }

-- the pending instance, if its place is in the pool and it isn't inactive
abbrev pub placed_in : ℕ → Pending → Place → Option Pending
placed_in number p (Listed pool) = if pool == number then Some p else None
placed_in number p (Deferred pool) = if pool == number then Some p else None
placed_in number p (Inactive pool) = None
placed_in number p (Timer due cpu) = None

abbrev pub pending_in : ℕ → Option Pending → Option Pending
pending_in number (Some p) = placed_in number p p.place
pending_in number None = None

-- the running instance, if it runs in the pool
abbrev pub running_in : ℕ → Option Running → Option Running
running_in number (Some r) = if r.pool == number then Some r else None
running_in number None = None
