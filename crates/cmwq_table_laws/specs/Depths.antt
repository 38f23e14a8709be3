-- How often works are disabled.
use Rattle.std.specs.Prelude.{◌≡◌, ◌≢◌, ◌+◌}
use Rattle.cmwq_types.specs.Contents.{ScenarioContents}
use Rattle.cmwq_types.specs.declared.instr.Instr.{Instr}
use Rattle.cmwq_types.specs.declared.instr.Instr.TheVariants as instr
use Rattle.cmwq_types.specs.declared.instr.WorkId.{WorkId}
use Rattle.cmwq_types.specs.declared.reply.Refusal.{Refusal}
use Rattle.cmwq_types.specs.declared.reply.Reply.TheVariants as reply
use Rattle.cmwq_table.specs.Laws.{reply_to, state_after}
use Rattle.cmwq_table.specs.State.{State, depth_at}

abbrev pub IsAccepted : ScenarioContents → State → Instr → Type 0
IsAccepted S s i = (why : Refusal) → reply_to S s i ≢ reply.Refused why

-- A disable that is accepted adds one to the depth of its work.
unfoldable pub DisablesOnce : ScenarioContents → State → Instr → Type 0
DisablesOnce S s i =
    (work : WorkId) → i ≡ instr.Disable work → IsAccepted S s i → depth_at (state_after S s i) work.0 ≡ depth_at s work.0 + 1

-- An enable that is accepted takes one off it.
unfoldable pub EnablesOnce : ScenarioContents → State → Instr → Type 0
EnablesOnce S s i =
    (work : WorkId) → i ≡ instr.Enable work → IsAccepted S s i → depth_at (state_after S s i) work.0 + 1 ≡ depth_at s work.0

-- No other instruction changes the depth of that work.
unfoldable pub LeavesDepths : ScenarioContents → State → Instr → Type 0
LeavesDepths S s i =
    (work : WorkId) → i ≢ instr.Disable work → i ≢ instr.Enable work → depth_at (state_after S s i) work.0 ≡ depth_at s work.0
