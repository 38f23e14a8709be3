-- What one may believe of answers without reading how they are made up.
use Rattle.std.specs.Prelude.{◌≡◌, ◌≤◌, ◌⊎◌, ℕ, true, false, List, [], length, take}
use Rattle.cmwq_types.specs.Contents.{ActorContents, ScenarioContents}
use Rattle.cmwq_types.specs.Scenario.{expand}
use Rattle.cmwq_types.specs.declared.instr.Instr.{Instr}
use Rattle.cmwq_table.specs.Table.{run}
use Rattle.cmwq_types.specs.Scenario.{work_named}
use Rattle.cmwq_play.specs.Runs.{IsRunOf}
use Rattle.cmwq_settle.specs.Settled.{IsSettled}
use Rattle.cmwq_question.specs.declared.question.Inquiry.{Inquiry}
use Rattle.cmwq_explain.specs.Changes.{is_settled}
use Rattle.cmwq_explain.specs.Explained.{IsAsked, is_work_unfinished, told_along}
use Rattle.cmwq_question.specs.declared.question.Question.{Question}
use Rattle.cmwq_question.specs.declared.question.Question.TheVariants.{Work, Flush}

-- the question is after a flush
abbrev pub IsAfterFlush : Question → Type 0
IsAfterFlush (Work name) = ⊥
IsAfterFlush (Flush flush) = Unit {0}

-- Nothing is told only where the question is after a flush: one after a declared work, of a run that isn't past its end, is answered.
unfoldable pub AnswersAfterWorks : Type 0
AnswersAfterWorks =
    (inquiry : Inquiry) (S T : ScenarioContents) (actor : ActorContents) → IsAsked inquiry S T actor → told_along inquiry T actor ≡ []
    → IsAfterFlush inquiry.question

-- At each tick that a run comes to there is a position that is settled, or the last one: time passes only where it is settled.
unfoldable pub LooksAtEachTick : Type 0
LooksAtEachTick =
    (S : ScenarioContents) (instrs : List Instr) (tick : ℕ) → tick ≤ (run S instrs).time
    → (k : ℕ) × (k ≤ length instrs) × ((run S (take k instrs)).time ≡ tick) × ((k ≡ length instrs) ⊎ (is_settled S (run S (take k instrs)) ≡ true))

-- At the end of a settled run no work is pending, and none runs: so of none it is told that the actor has stopped.
unfoldable pub SettledRunsFinish : Type 0
SettledRunsFinish =
    (S T : ScenarioContents) (actor : ActorContents) (name : List ℕ) → IsSettled S T → IsRunOf T actor
    → is_work_unfinished (run T (expand actor)) (work_named T name) ≡ false
