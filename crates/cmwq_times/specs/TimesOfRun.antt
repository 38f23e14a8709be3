-- What is told of the run of a text's scenario.
use Rattle.std.specs.Prelude.{◌≡◌, ℕ, List, Option}
use Rattle.cmwq_types.specs.Contents.{ActorContents, ScenarioContents}
use Rattle.cmwq_types.specs.Scenario.{expand}
use Rattle.cmwq_play.specs.PlayTexts.{ComesTo}
use Rattle.cmwq_play.specs.Runs.{IsRunOf}
use Rattle.cmwq_times.specs.TimesText.{times_text}
use Rattle.cmwq_reports.specs.declared.report.Times.{Times}

-- the scenario can be run, and this is where the time of its actor's run went
abbrev pub IsTimed : Times → ScenarioContents → List ℕ → Type 0
IsTimed asked S output = (actor : ActorContents) × IsRunOf S actor × (output ≡ times_text asked S (expand actor))

-- the input spells a scenario that can be run, and this is where the time of its actor's run went
abbrev pub IsTimedRun : Times → Option (List ℕ) → List ℕ → Type 0
IsTimedRun asked input output = ComesTo (IsTimed asked) input output
