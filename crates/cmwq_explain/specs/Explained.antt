-- What is answered to the question why something waits, and why nothing is.
use Rattle.std.specs.Prelude.{◌≡◌, ◌≢◌, ◌⊎◌, ℕ, Bool, false, not, ◌&&◌, ◌==◌, List, [], ◌∷◌, ◌++◌, codes, length, Option, Some, None, option_map, if◌then◌else◌, nat_lt, slice_get, Result, Err, IfErr, OnOk}
use Rattle.std.specs.Io.KnownBytes.{Keeps}
use Rattle.std.specs.List.{after_first, before_first}
use Rattle.cmwq_types.specs.Contents.{ActorContents, ScenarioContents}
use Rattle.cmwq_types.specs.Scenario.{expand}
use Rattle.cmwq_table.specs.State.{State}
use Rattle.cmwq_table.specs.declared.state.FlushTarget.{FlushTarget}
use Rattle.cmwq_reasons.specs.Reasons.{waits}
use Rattle.cmwq_why_text.specs.WhyText.{why_line}
use Rattle.cmwq_flush_waits.specs.FlushText.{flush_lines}
use Rattle.cmwq_types.specs.Scenario.{work_named}
use Rattle.cmwq_explain.specs.Changes.{changes_text}
use Rattle.cmwq_explain.specs.ChangesTold.{IsPastEnd}
use Rattle.cmwq_question.specs.declared.question.Inquiry.{Inquiry}
use Rattle.cmwq_play.specs.Commands.{Writes}
use Rattle.cmwq_play.specs.Runs.{IsRunOf}
use Rattle.cmwq_table.specs.Counts.{pends_or_runs}
use Rattle.cmwq_settle.specs.Settled.{IsSettledIf, IsUnsettledIf}
use Rattle.cmwq_streams.specs.Sending.{IsSendError}
use Rattle.cmwq_streams.specs.declared.error.PlayError.{PlayError}
use Rattle.cmwq_streams.specs.declared.error.PlayError.TheVariants as errors
use Rattle.cmwq_question.specs.declared.question.Question.{Question}
use Rattle.cmwq_question.specs.declared.question.Question.TheVariants.{Work, Flush}

-- What is said of a state.

abbrev pub line_of_work : ScenarioContents → State → Option ℕ → Option (List ℕ)
line_of_work S s (Some w) = Some (why_line S s w)
line_of_work S s None = None

-- nothing where no work has the name, and before the flush is given
abbrev pub said_of : Question → ScenarioContents → State → Option (List ℕ)
said_of (Work name) S s = line_of_work S s (work_named S name.now)
said_of (Flush flush) S s = flush_lines S s flush

-- What is said besides where the run ends.

abbrev pub is_work_unfinished : State → Option ℕ → Bool
is_work_unfinished s (Some w) = pends_or_runs s w
is_work_unfinished s None = false

abbrev pub is_flush_unfinished : ScenarioContents → State → Option FlushTarget → Bool
is_flush_unfinished S s (Some on) = not (length (waits S s on) == 0)
is_flush_unfinished S s None = false

-- the work is pending or runs, or the flush waits for some instance
abbrev pub is_unfinished : Question → ScenarioContents → State → Bool
is_unfinished (Work name) S s = is_work_unfinished s (work_named S name.now)
is_unfinished (Flush flush) S s = is_flush_unfinished S s (slice_get s.flushes flush)

-- The run ends, and not for want of steps, before what is asked for is finished: the actor gives no instruction more, and neither the
-- move nor the tick that is waited for comes.
abbrev pub has_stopped : Question → ScenarioContents → (is_last : Bool) → State → Bool
has_stopped question S is_last s = is_last && (nat_lt s.spent S.steps && is_unfinished question S s)

-- the words behind the first line of a text
abbrev pub behind_first_line : (words text : List ℕ) → List ℕ
behind_first_line words text = before_first (λ byte. byte == 10) text ++ words ++ 10 ∷ after_first (λ byte. byte == 10) text

abbrev pub with_stop : List ℕ → List ℕ
with_stop text = behind_first_line (codes "; the actor has stopped") text

-- what is said of a state of the run, which may be its last
abbrev pub said_to : Question → ScenarioContents → (is_last : Bool) → State → Option (List ℕ)
said_to question S is_last s =
    if has_stopped question S is_last s then option_map with_stop (said_of question S s) else said_of question S s

-- What is answered. S is the text's scenario, and T the one whose run is told of: S itself, or S settled.

-- it is after a work that isn't declared
abbrev pub IsUnknown : Question → ScenarioContents → Type 0
IsUnknown (Work name) T = work_named T name.now ≡ None
IsUnknown (Flush flush) T = ⊥

-- The scenario comes to T, whose one actor's run has positions to look at, and the question is after something that may be there.
pub record IsAsked (inquiry : Inquiry) (S T : ScenarioContents) (actor : ActorContents) : Type 0 where
  pub settled : IsSettledIf inquiry.settle S T
  pub runs : IsRunOf T actor
  pub known : IsUnknown inquiry.question T → ⊥
  pub within : IsPastEnd inquiry.looks T (expand actor) → ⊥

-- what is told along the actor's run
abbrev pub told_along : Inquiry → ScenarioContents → ActorContents → List ℕ
told_along inquiry T actor = changes_text (said_to inquiry.question) inquiry.looks T (expand actor)

-- this is told along the run of the scenario's one actor, and it is something
abbrev pub IsAnswer : Inquiry → ScenarioContents → List ℕ → Type 0
IsAnswer inquiry S output =
    (T : ScenarioContents) × (actor : ActorContents) × IsAsked inquiry S T actor × (output ≡ told_along inquiry T actor) × (output ≢ [])

-- why nothing is told: the scenario can't be run, or settled, no work has the name, the run ends before, or nothing is to be told of
-- the flush
abbrev pub IsUnanswered : Inquiry → ScenarioContents → PlayError → Type 0
IsUnanswered inquiry S errors.NoSuchWork =
    (T : ScenarioContents) × IsSettledIf inquiry.settle S T × IsUnknown inquiry.question T
IsUnanswered inquiry S errors.PastEnd =
    (T : ScenarioContents) × (actor : ActorContents) × IsSettledIf inquiry.settle S T × IsRunOf T actor
    × (IsUnknown inquiry.question T → ⊥) × IsPastEnd inquiry.looks T (expand actor)
IsUnanswered inquiry S errors.NoSuchFlush =
    (T : ScenarioContents) × (actor : ActorContents) × IsAsked inquiry S T actor × (told_along inquiry T actor ≡ [])
IsUnanswered inquiry S error = IsUnsettledIf inquiry.settle S error

-- this is told along the run of the one actor of the scenario, or of that one settled
abbrev pub AreChanges : Inquiry → ScenarioContents → List ℕ → Type 0
AreChanges inquiry S output =
    (T : ScenarioContents) × (actor : ActorContents) × IsSettledIf inquiry.settle S T × IsRunOf T actor
    × (output ≡ told_along inquiry T actor)

-- What becomes of the question to a scenario's run.
pub record Explains (inquiry : Inquiry) (S : ScenarioContents) (before after : Option (List ℕ)) (failed : Bool) (result : Result (Unit {0}) PlayError) : Type 0 where
  pub writes : Writes (AreChanges inquiry S) before after failed result
  pub never_quiet : result ≡ Err errors.NeverQuiet → Keeps before after
  pub answered : OnOk result ((T : ScenarioContents) × (actor : ActorContents) × IsAsked inquiry S T actor × (told_along inquiry T actor ≢ []))
  pub why : IfErr result (λ error. IsUnanswered inquiry S error ⊎ IsSendError error)
