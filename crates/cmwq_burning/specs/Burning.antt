-- What an instance of a work burns, from the reply that tells that it starts to the one that tells that it finishes.
use Rattle.std.specs.Prelude.{◌≡◌, ℕ, ◌+◌, Bool, true, false, ◌&&◌, List, [], ◌∷◌, Some, if◌then◌else◌, nat_lt, take}
use Rattle.std.specs.List.{list_any, sum_by}
use Rattle.cmwq_types.specs.Contents.{ScenarioContents}
use Rattle.cmwq_types.specs.Scenario.{work_at}
use Rattle.cmwq_types.specs.declared.instr.Instr.{Instr}
use Rattle.cmwq_types.specs.declared.reply.Reply.{Reply}
use Rattle.cmwq_table.specs.State.{State, running_at}
use Rattle.cmwq_table.specs.declared.state.Running.{Running}
use Rattle.cmwq_table.specs.Counts.{burns}
use Rattle.cmwq_table.specs.Laws.{reply_to, state_after}
use Rattle.cmwq_table.specs.Table.{after_all, replies_from}
use Rattle.cmwq_table.specs.Told.{burn_of, is_end, is_start, tells_event}

-- What a body burns.

-- the sum of the burns of the work's body
abbrev pub burns_of_body : ScenarioContents → ℕ → ℕ
burns_of_body S w = sum_by burn_of (work_at S w).body

-- the sum of those that stand before a place in it
abbrev pub burns_before : ScenarioContents → ℕ → ℕ → ℕ
burns_before S w pc = sum_by burn_of (take pc (work_at S w).body)

-- What replies tell.

-- the reply tells that an instance of the work starts, on a worker, in place of the one that finishes, or on a rescuer
abbrev pub starts_work : ℕ → Reply → Bool
starts_work w = tells_event is_start w

-- the reply tells that the running instance of the work finishes
abbrev pub finishes_work : ℕ → Reply → Bool
finishes_work w = tells_event is_end w

-- What is burned.

-- a tick passes at the instruction, and the work burns in it
abbrev pub burns_at : ScenarioContents → State → Instr → ℕ → Bool
burns_at S s i w = nat_lt s.time (state_after S s i).time && burns S s w (running_at s w)

-- at how many of the instructions, from the state on, a tick passes in which the work burns
abbrev pub ticks_burned : ScenarioContents → State → List Instr → ℕ → ℕ
ticks_burned S s [] w = 0
ticks_burned S s (i ∷ is) w = (if burns_at S s i w then 1 else 0) + ticks_burned S (state_after S s i) is w

-- The laws.

-- the state after an instruction and those that come then
abbrev pub state_then : ScenarioContents → State → Instr → List Instr → State
state_then S s first during = after_all S (state_after S s first) during

-- An instance of the work starts at the first instruction, and finishes at none of those that come then.
pub record IsUnderWay (S : ScenarioContents) (s : State) (w : ℕ) (first : Instr) (during : List Instr) : Type 0 where
  pub starts : starts_work w (reply_to S s first) ≡ true
  pub goes_on : list_any (finishes_work w) (replies_from S (state_after S s first) during) ≡ false

-- It finishes at the last instruction, which comes behind these.
pub record IsCarriedOut (S : ScenarioContents) (s : State) (w : ℕ) (first : Instr) (during : List Instr) (last : Instr) : Type 0 where
  pub under_way : IsUnderWay S s w first during
  pub finishes : finishes_work w (reply_to S (state_then S s first during) last) ≡ true

-- An instance that has finished has burned just as many ticks as the burns of its body add up to.
unfoldable pub BurnsItsBody : ScenarioContents → State → Type 0
BurnsItsBody S s =
    (w : ℕ) (first : Instr) (during : List Instr) (last : Instr) → IsCarriedOut S s w first during last
    → ticks_burned S (state_after S s first) during w ≡ burns_of_body S w

-- An instance that hasn't finished runs, and what it has burned and what it has left to burn add up to the burns before its
-- place in the body.
unfoldable pub BurnsUpToItsPlace : ScenarioContents → State → Type 0
BurnsUpToItsPlace S s =
    (w : ℕ) (first : Instr) (during : List Instr) → IsUnderWay S s w first during
    → (r : Running) × (running_at (state_then S s first during) w ≡ Some r)
    × (ticks_burned S (state_after S s first) during w + r.left ≡ burns_before S w r.pc)
