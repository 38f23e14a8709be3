-- What a play leaves, and why it ended.
use Rattle.std.specs.Prelude.{◌≡◌, ◌≤◌, ℕ, List, Option, length, Result, Ok, Err}
use Rattle.std.specs.Io.KnownBytes.{Appends}
use Rattle.cmwq_types.specs.Contents.{ScenarioContents}
use Rattle.cmwq_types.specs.Scenario.{expand}
use Rattle.cmwq_engine.specs.History.{instrs_of}
use Rattle.cmwq_engine.specs.declared.history.Entry.{Entry}
use Rattle.cmwq_grammar.specs.Grammar.{Spells}
use Rattle.cmwq_actors.specs.Ending.{AllHaveEnded}
use Rattle.cmwq_actors.specs.Interleaving.{InterleavesFronts, scripts_of}
use Rattle.cmwq_actors.specs.declared.ending.Ending.{Ending}
use Rattle.cmwq_actors.specs.declared.ending.Ending.TheVariants as ending
use Rattle.cmwq_streams.specs.Sending.{HasSentFront}
use Rattle.cmwq_streams.specs.declared.error.PlayError.{PlayError}
use Rattle.cmwq_streams.specs.declared.error.PlayError.TheVariants as errors
use Rattle.cmwq_interleaving.specs.Played.{played, played_text, player}

-- This text is what a play with this history leaves: it spells the scenario whose one actor gives the history's instructions.
pub record IsLeft (S : ScenarioContents) (history : List Entry) (text : List ℕ) : Type 0 where
  pub text_is : text ≡ played_text S (instrs_of history)
  pub spells : Spells text (played S (instrs_of history))
  pub gives : expand (player (instrs_of history)) ≡ instrs_of history

-- what a play with such a history leaves was written
abbrev pub Left : ScenarioContents → (List Entry → Type 0) → (before after : Option (List ℕ)) → Type 0
Left S IsSuch before after = (history : List Entry) × (text : List ℕ) × IsSuch history × IsLeft S history text × Appends before after text

-- a front of it was written
abbrev pub LeftFront : ScenarioContents → (List Entry → Type 0) → (before after : Option (List ℕ)) → Type 0
LeftFront S IsSuch before after = (history : List Entry) × (text : List ℕ) × IsSuch history × IsLeft S history text × HasSentFront before after text

-- the history interleaves fronts of what the actors have to issue
abbrev pub HasFronts : ScenarioContents → List Entry → Type 0
HasFronts S history = InterleavesFronts (scripts_of S) history

-- and it has no room left
abbrev pub IsFull : ScenarioContents → ℕ → List Entry → Type 0
IsFull S capacity history = HasFronts S history × (length history ≡ capacity)

-- so all actors have ended, and this text is left
abbrev pub IsActed : ScenarioContents → ℕ → Ending → List ℕ → Type 0
IsActed S capacity ending text = (history : List Entry) × AllHaveEnded (scripts_of S) capacity history ending × IsLeft S history text

-- how a play ends, by how its actors end
abbrev pub play_end : Ending → Result (Unit {0}) PlayError
play_end ending.Done = Ok tt
play_end ending.Full = Err errors.Full
play_end ending.Exhausted = Err errors.Tickets

-- what a play may answer before anything is written
abbrev pub IsBeforePlaying : PlayError → Type 0
IsBeforePlaying errors.Actors = Unit {0}
IsBeforePlaying errors.NoMemory = Unit {0}
IsBeforePlaying error = ⊥

-- what a play may fail for
abbrev pub IsPlayError : PlayError → Type 0
IsPlayError errors.Actors = Unit {0}
IsPlayError errors.Full = Unit {0}
IsPlayError errors.Tickets = Unit {0}
IsPlayError errors.Write = Unit {0}
IsPlayError errors.NoMemory = Unit {0}
IsPlayError error = ⊥
