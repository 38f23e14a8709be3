-- The settled scenario: its actor's lines are followed by as many `next` as make its machine quiet.
use Rattle.std.specs.Prelude.{◌≡◌, ◌<◌, ◌≤◌, ◌/◌, ◌%◌, ◌⊎◌, ℕ, zero, suc, Bool, true, false, List, [], ◌∷◌, ◌++◌, length, map, replicate}
use Rattle.cmwq_types.specs.Contents.{ActorContents, ScenarioContents}
use Rattle.cmwq_types.specs.Scenario.{expand}
use Rattle.cmwq_types.specs.declared.instr.Instr.{Instr}
use Rattle.cmwq_types.specs.declared.instr.Instr.TheVariants as instr
use Rattle.cmwq_types.specs.declared.limits.TheConstants.{MAX_LINES, MAX_TIMES}
use Rattle.cmwq_types.specs.declared.scenario.Line.{Line}
use Rattle.cmwq_play.specs.Runs.{CanRun, IsRefused, IsRunOf}
use Rattle.cmwq_streams.specs.declared.error.PlayError.{PlayError}
use Rattle.cmwq_streams.specs.declared.error.PlayError.TheVariants as errors
use Rattle.cmwq_settle.specs.Quiet.{NeverQuiet, Settles}

-- `next * N`
abbrev pub next_line : ℕ → Line
next_line n = record { instr = instr.Next; times = n }

-- what full lines leave
abbrev pub rest_lines : ℕ → List Line
rest_lines zero = []
rest_lines (suc n) = next_line (suc n) ∷ []

-- So many `next`: lines as full as one can be, and then the rest. None is none.
abbrev pub next_lines : ℕ → List Line
next_lines n = replicate (n / MAX_TIMES) (next_line MAX_TIMES) ++ rest_lines (n % MAX_TIMES)

-- the actor gives so many `next` behind its lines
abbrev pub with_nexts : ℕ → ActorContents → ActorContents
with_nexts n actor = record actor { lines = actor.lines ++ next_lines n }

-- the same scenario, whose actor does so
abbrev pub settled_scenario : ScenarioContents → ℕ → ScenarioContents
settled_scenario S n = record S { actors = map (with_nexts n) S.actors }

-- The scenario has this one actor, and so many `next` behind its instructions are the least after which the machine is quiet.
pub record IsSettledBy (S : ScenarioContents) (actor : ActorContents) (n : ℕ) : Type 0 where
  pub runs : IsRunOf S actor
  pub settles : Settles S (expand actor) n

-- The scenario has this one actor, and no `next` that can be issued behind its instructions makes the machine quiet.
pub record IsNeverQuiet (S : ScenarioContents) (actor : ActorContents) : Type 0 where
  pub runs : IsRunOf S actor
  pub never : NeverQuiet S (expand actor)

-- the one scenario settled is the other
abbrev pub IsSettled : ScenarioContents → ScenarioContents → Type 0
IsSettled S T =
    (actor : ActorContents) × (n : ℕ) × IsSettledBy S actor n × (length (with_nexts n actor).lines ≤ MAX_LINES) × (T ≡ settled_scenario S n)

-- the actor of the settled scenario would have more lines than an actor can have
abbrev pub IsTooLong : ScenarioContents → Type 0
IsTooLong S = (actor : ActorContents) × (n : ℕ) × IsSettledBy S actor n × (MAX_LINES < length (with_nexts n actor).lines)

-- why a scenario's machine isn't made quiet: it can't be run, or never is quiet
abbrev pub IsNotSettled : ScenarioContents → PlayError → Type 0
IsNotSettled S errors.NeverQuiet = (actor : ActorContents) × IsNeverQuiet S actor
IsNotSettled S error = IsRefused S error

-- why there is no settled scenario: that, or it would have too many lines
abbrev pub IsUnsettleable : ScenarioContents → PlayError → Type 0
IsUnsettleable S errors.Full = IsRefused S errors.Full ⊎ IsTooLong S
IsUnsettleable S error = IsNotSettled S error

-- Where settling is a choice.

-- the scenario that is run: the settled one where that is asked, and else the scenario itself, which can be run
abbrev pub IsSettledIf : (settle : Bool) → ScenarioContents → ScenarioContents → Type 0
IsSettledIf true S T = IsSettled S T
IsSettledIf false S T = (T ≡ S) × CanRun S

-- why there is none
abbrev pub IsUnsettledIf : (settle : Bool) → ScenarioContents → PlayError → Type 0
IsUnsettledIf true S error = IsUnsettleable S error
IsUnsettledIf false S error = IsRefused S error
