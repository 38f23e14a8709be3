-- What each task comes to: its goal, the faults that it tells, and what it writes.
use Rattle.std.specs.Prelude.{ℕ, Bool, true, false, List, Option, Some, Result}
use Rattle.cmwq_types.specs.Listing.{listing}
use Rattle.cmwq_tasks.specs.declared.task.Task.{Task}
use Rattle.cmwq_reports.specs.declared.report.TraceForm.TheVariants as form
use Rattle.cmwq_tasks.specs.declared.task.Task.TheVariants.{Run, Settle, List as Listing, Show, Draw, Why, Times as Timed, Trace}
use Rattle.cmwq_draw.specs.Drawn.{IsDrawFault, IsDrawnText}
use Rattle.cmwq_explain.specs.Explained.{AreChanges, IsAnswer, IsUnanswered}
use Rattle.cmwq_play.specs.Commands.{Answers, Writes}
use Rattle.cmwq_play.specs.Framing.{IsTextOfRun}
use Rattle.cmwq_kernel_trace.specs.KernelText.{ftrace_text}
use Rattle.cmwq_trace.specs.Lines.{objects_text}
use Rattle.cmwq_play.specs.Images.{IsImageFault, IsShown}
use Rattle.cmwq_play.specs.PlayTexts.{ComesTo, IsFaultOf as IsTextFaultOf, IsOutput, IsRun, IsRunFault, IsTextFault}
use Rattle.cmwq_settle.specs.Settling.{IsFollowedRun, IsSettledRun, IsSettledText, IsUnsettledRun, IsUnsettledText}
use Rattle.cmwq_streams.specs.declared.error.PlayError.{PlayError}
use Rattle.cmwq_tell.specs.RunTold.{IsToldFault, IsToldRun}
use Rattle.cmwq_times.specs.TimesOfRun.{IsTimedRun}
use Rattle.cmwq_trace.specs.Json.{json_text}
use Rattle.cmwq_tasks.specs.declared.task.RunKind.TheVariants.{Plain, Settled, Told, ToldSettled}

-- what the input comes to
abbrev pub IsGoalOf : Task → Option (List ℕ) → List ℕ → Type 0
IsGoalOf (Run Plain) = IsRun
IsGoalOf (Run Settled) = IsSettledRun
IsGoalOf (Run Told) = IsToldRun false
IsGoalOf (Run ToldSettled) = IsToldRun true
IsGoalOf Settle = IsSettledText
IsGoalOf Listing = IsOutput listing
IsGoalOf Show = IsShown
IsGoalOf (Draw drawing) = IsDrawnText drawing
IsGoalOf (Why inquiry) = ComesTo (IsAnswer inquiry)
IsGoalOf (Timed asked) = IsTimedRun asked
IsGoalOf (Trace form.Json) = IsTextOfRun json_text
IsGoalOf (Trace form.Lines) = IsTextOfRun objects_text
IsGoalOf (Trace form.Text) = IsTextOfRun ftrace_text

-- what is told of the input
abbrev pub IsTaskFault : Task → Option (List ℕ) → PlayError → Type 0
IsTaskFault (Run Plain) = IsRunFault
IsTaskFault (Run Settled) = IsUnsettledRun
IsTaskFault (Run Told) = IsToldFault false
IsTaskFault (Run ToldSettled) = IsToldFault true
IsTaskFault Settle = IsUnsettledText
IsTaskFault Listing = IsTextFault
IsTaskFault Show = IsImageFault
IsTaskFault (Draw drawing) = IsDrawFault drawing
IsTaskFault (Why inquiry) = IsTextFaultOf (IsUnanswered inquiry)
IsTaskFault (Timed asked) = IsRunFault
IsTaskFault (Trace form) = IsRunFault

-- what is written: the goal; where a machine never is quiet, its lines all the same; and to a question nothing where nothing is said
abbrev pub IsWrittenBy : Task → Option (List ℕ) → List ℕ → Type 0
IsWrittenBy (Run Plain) = IsRun
IsWrittenBy (Run Settled) = IsFollowedRun
IsWrittenBy (Run Told) = IsToldRun false
IsWrittenBy (Run ToldSettled) = IsToldRun true
IsWrittenBy Settle = IsSettledText
IsWrittenBy Listing = IsOutput listing
IsWrittenBy Show = IsShown
IsWrittenBy (Draw drawing) = IsDrawnText drawing
IsWrittenBy (Why inquiry) = ComesTo (AreChanges inquiry)
IsWrittenBy (Timed asked) = IsTimedRun asked
IsWrittenBy (Trace form.Json) = IsTextOfRun json_text
IsWrittenBy (Trace form.Lines) = IsTextOfRun objects_text
IsWrittenBy (Trace form.Text) = IsTextOfRun ftrace_text

-- the task was carried out on an input that has these bytes
abbrev pub HasDone : Task → List ℕ → (before after : Option (List ℕ)) → (failed : Bool) → Result (Unit {0}) PlayError → Type 0
HasDone task bytes before after failed result =
    Answers (IsGoalOf task) (IsTaskFault task) (Some bytes) result × Writes (IsWrittenBy task (Some bytes)) before after failed result
