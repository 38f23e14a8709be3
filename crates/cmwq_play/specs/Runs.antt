-- Which scenarios are run, and what a run prints.
use Rattle.std.specs.Prelude.{◌≡◌, ◌≢◌, ◌<◌, ◌≤◌, ℕ, List, [], ◌∷◌, length}
use Rattle.cmwq_types.specs.Contents.{ActorContents, ScenarioContents}
use Rattle.cmwq_types.specs.Scenario.{expand}
use Rattle.cmwq_types.specs.declared.limits.TheConstants.{MAX_HISTORY}
use Rattle.cmwq_table.specs.Events.{events}
use Rattle.cmwq_streams.specs.declared.error.PlayError.{PlayError}
use Rattle.cmwq_streams.specs.declared.error.PlayError.TheVariants.{Actors, Full}

-- The scenario has this one actor, whose instructions are no more than one run issues.
pub record IsRunOf (S : ScenarioContents) (actor : ActorContents) : Type 0 where
  pub alone : S.actors ≡ actor ∷ []
  pub few : length (expand actor) ≤ MAX_HISTORY

-- the scenario can be run
abbrev pub CanRun : ScenarioContents → Type 0
CanRun S = (actor : ActorContents) × IsRunOf S actor

-- why a scenario isn't run: it hasn't exactly one actor, or the one has too many instructions
abbrev pub IsRefused : ScenarioContents → PlayError → Type 0
IsRefused S Actors = length S.actors ≢ 1
IsRefused S Full = (actor : ActorContents) × (S.actors ≡ actor ∷ []) × (MAX_HISTORY < length (expand actor))
IsRefused S error = ⊥

-- the scenario can be run, and this is what its actor's instructions print
abbrev pub IsPrinted : ScenarioContents → List ℕ → Type 0
IsPrinted S output = (actor : ActorContents) × IsRunOf S actor × (output ≡ events S (expand actor))
