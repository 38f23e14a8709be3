-- What a pass knows once its actor has ended.
use Rattle.std.specs.Prelude.{◌≡◌, ℕ, ◌<◌, List, Option, Some, IfSome, length, slice_index_or}
use Rattle.cmwq_types.specs.declared.instr.Instr.{Instr}
use Rattle.cmwq_lock.specs.declared.views.Knowledge.{Knowledge}
use Rattle.cmwq_lock.specs.Views.{mine_of}
use Rattle.cmwq_engine.specs.History.{instrs_of}
use Rattle.cmwq_engine.specs.Shared.{EngineView}
use Rattle.cmwq_engine.specs.declared.history.Entry.{Entry}
use Rattle.cmwq_actors.specs.Ending.{HasEnded}
use Rattle.cmwq_actors.specs.Interleaving.{script_at}
use Rattle.cmwq_actors.specs.declared.ending.Ending.{Ending}

-- the instructions that a pass has issued, in order
abbrev pub issued_with : EngineView → List Instr
issued_with view = instrs_of (mine_of view)

-- the actor has passed the gate before each of its first so many calls
abbrev pub HasPassedEach : (ℕ → ℕ → Type 0) → ℕ → ℕ → Type 0
HasPassedEach has_passed actor calls = (call : ℕ) → call < calls → has_passed actor call

-- The caller, and what it has issued of its script, as its ending says; nothing is said where it wasn't let begin. Before each
-- call it has passed the gate, under its own number and the call's.
pub record HasPlayed (has_passed : ℕ → ℕ → Type 0) (capacity caller : ℕ) (script : List Instr) (ending : Option Ending) (knows : Knowledge Entry) : Type 0 where
  pub caller_is : knows.caller ≡ caller
  pub gate : HasPassedEach has_passed caller (length knows.mine)
  pub ended : IfSome ending (λ e. HasEnded capacity knows.seen (instrs_of knows.mine) script e)

-- what the retired passes knew, in the actors' order: each has issued of its script what its ending says
pub record EachHasPlayed
    (has_passed : ℕ → ℕ → Type 0) (capacity : ℕ) (scripts : List (List Instr)) (endings : List Ending) (records : List (Knowledge Entry)) : Type 0 where
  pub counted : length records ≡ length scripts
  pub each : (actor : ℕ) (e : Ending) (k : Knowledge Entry) → actor < length scripts
      → HasPlayed has_passed capacity actor (script_at scripts actor) (Some (slice_index_or endings actor e)) (slice_index_or records actor k)
