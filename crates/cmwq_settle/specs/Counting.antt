-- What is told of how many `next` settle a machine. No public clause cites this.
use Rattle.std.specs.Prelude.{◌≡◌, ℕ, [], ◌∷◌}
use Rattle.cmwq_types.specs.Contents.{ActorContents, ScenarioContents}
use Rattle.cmwq_types.specs.Scenario.{expand}
use Rattle.cmwq_play.specs.Runs.{IsRunOf}
use Rattle.cmwq_settle.specs.Quiet.{NeverQuiet, Settles, nexts_left}
use Rattle.cmwq_settle.specs.declared.counting.Nexts.{Nexts}
use Rattle.cmwq_settle.specs.declared.counting.Nexts.TheVariants.{Settle, Never}

-- this is so behind the actor's instructions
abbrev pub IsCounted : ScenarioContents → ActorContents → Nexts → Type 0
IsCounted S actor (Settle n) = Settles S (expand actor) n
IsCounted S actor (Never n) = NeverQuiet S (expand actor) × (n ≡ nexts_left S (expand actor))

abbrev pub nexts_given : Nexts → ℕ
nexts_given (Settle n) = n
nexts_given (Never n) = n

-- and it is so behind those of the scenario's one actor
abbrev pub HasCounted : ScenarioContents → Nexts → Type 0
HasCounted S nexts = (actor : ActorContents) × IsRunOf S actor × IsCounted S actor nexts

-- the same scenario with this one actor
abbrev pub with_one_actor : ScenarioContents → ActorContents → ScenarioContents
with_one_actor S actor = record S { actors = actor ∷ [] }
