-- A list of instructions that is carried out on a machine, forwards and back, and where it has checkpoints.
use Rattle.std.specs.Prelude.{◌≡◌, ◌⊎◌, ◌≤◌, ℕ, ◌+◌, ◌-◌, List, length, take, slice_index_or}
use Rattle.std.specs.List.{All}
use Rattle.cmwq_types.specs.Contents.{ScenarioContents}
use Rattle.cmwq_types.specs.Faults.{IsValid}
use Rattle.cmwq_types.specs.declared.instr.Instr.{Instr}
use Rattle.cmwq_types.specs.declared.instr.Instr.TheVariants.{Next}
use Rattle.cmwq_types.specs.declared.limits.TheConstants.{MAX_HISTORY}
use Rattle.cmwq_types.specs.declared.reply.Reply.{Reply}
use Rattle.cmwq_table.specs.State.{State}
use Rattle.cmwq_table.specs.Table.{run, table}
use Rattle.cmwq_debug.specs.Checkpoints.{Comes, Passes, Spread, no_checkpoints, turn_for}
use Rattle.cmwq_debug.specs.declared.checkpoints.Checkpoint.{Checkpoint}

-- A scenario, a list of instructions, how many of them were carried out, and where there are checkpoints.
pub record Course : Type 0 where
  pub scenario : ScenarioContents
  pub instrs : List Instr
  pub position : ℕ
  pub spread : Spread

abbrev pub course_of : ScenarioContents → List Instr → ℕ → Spread → Course
course_of S instrs position spread = record { scenario = S; instrs = instrs; position = position; spread = spread }

-- nothing was carried out yet
abbrev pub at_start : ScenarioContents → List Instr → Course
at_start S instrs = course_of S instrs 0 no_checkpoints

-- the table's reply to the instruction behind those that were carried out
abbrev pub next_reply : Course → Reply
next_reply c = (table c.scenario (run c.scenario (take c.position c.instrs)) (slice_index_or c.instrs c.position Next)).1

-- one instruction more was carried out
pub record HasAdvanced (old new : Course) : Type 0 where
  pub scenario : new.scenario ≡ old.scenario
  pub instrs : new.instrs ≡ old.instrs
  pub position : new.position ≡ old.position + 1
  pub spread : Comes old.spread (old.position + 1) new.spread

-- instructions were carried out up to the position
pub record HasGoneTo (old : Course) (to : ℕ) (new : Course) : Type 0 where
  pub scenario : new.scenario ≡ old.scenario
  pub instrs : new.instrs ≡ old.instrs
  pub position : new.position ≡ to
  pub spread : Passes old.spread old.position (to - old.position) new.spread

-- A way to the position begins where it may: where it was, or where a way back begins, with the checkpoints that there were.
pub record HasTurned (old : Course) (to : ℕ) (new : Course) : Type 0 where
  pub below : new.position ≤ to
  pub same : new ≡ record old { position = new.position }
  pub from : (new.position ≡ turn_for old.spread to) ⊎ (new.position ≡ old.position)

-- the position was come to from such a beginning
pub record HasReached (old : Course) (to : ℕ) (new : Course) : Type 0 where
  pub turned : Course
  pub back : HasTurned old to turned
  pub gone : HasGoneTo turned to new

module _ {M : Type 0} (loaded : M → ScenarioContents) (state : M → State) where
  -- the machine is the table's, after so many of the instructions
  pub record IsThere (S : ScenarioContents) (instrs : List Instr) (position : ℕ) (machine : M) : Type 0 where
    pub scenario : loaded machine ≡ S
    pub reached : state machine ≡ run S (take position instrs)
    pub within : position ≤ length instrs

  -- a replay between calls
  pub record IsReplayed (c : Course) (machine : M) (held : List (Checkpoint M)) : Type 0 where
    pub valid : IsValid c.scenario
    pub short : length c.instrs ≤ MAX_HISTORY
    pub there : IsThere c.scenario c.instrs c.position machine
    pub checkpoints : All (λ e. IsThere c.scenario c.instrs e.at e.machine) held
