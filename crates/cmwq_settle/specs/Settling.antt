-- What settling comes to, from a scenario's text.
use Rattle.std.specs.Prelude.{◌≡◌, ◌⊎◌, ℕ, List, ◌++◌, Option, replicate}
use Rattle.std.specs.Io.KnownBytes.{Appends}
use Rattle.cmwq_types.specs.Contents.{ActorContents, ScenarioContents}
use Rattle.cmwq_types.specs.Listing.{listing}
use Rattle.cmwq_types.specs.Scenario.{expand}
use Rattle.cmwq_types.specs.declared.instr.Instr.{Instr}
use Rattle.cmwq_types.specs.declared.instr.Instr.TheVariants as instr
use Rattle.cmwq_table.specs.Events.{events}
use Rattle.cmwq_play.specs.PlayTexts.{ComesTo, IsFaultOf}
use Rattle.cmwq_streams.specs.declared.error.PlayError.{PlayError}
use Rattle.cmwq_settle.specs.Quiet.{nexts_left}
use Rattle.cmwq_settle.specs.Settled.{IsNeverQuiet, IsSettled, IsSettledBy, IsUnsettleable, IsNotSettled}

-- the actor's instructions, and behind them so many `next`
abbrev pub followed : ActorContents → ℕ → List Instr
followed actor n = expand actor ++ replicate n instr.Next

-- this is what the one actor's instructions print, and behind them the least number of `next` after which the machine is quiet
abbrev pub IsSettledOutput : ScenarioContents → List ℕ → Type 0
IsSettledOutput S output = (actor : ActorContents) × (n : ℕ) × IsSettledBy S actor n × (output ≡ events S (followed actor n))

-- the machine never is quiet, and this is what the one actor's instructions print, and behind them as many `next` as can be issued
abbrev pub IsEndlessOutput : ScenarioContents → List ℕ → Type 0
IsEndlessOutput S output =
    (actor : ActorContents) × IsNeverQuiet S actor × (output ≡ events S (followed actor (nexts_left S (expand actor))))

-- the one or the other
abbrev pub IsFollowedOutput : ScenarioContents → List ℕ → Type 0
IsFollowedOutput S output = IsSettledOutput S output ⊎ IsEndlessOutput S output

-- this is the listing of the settled scenario
abbrev pub IsSettledListing : ScenarioContents → List ℕ → Type 0
IsSettledListing S output = (T : ScenarioContents) × IsSettled S T × (output ≡ listing T)

-- From a scenario's text: what running it until the machine is quiet prints, and why that isn't.

abbrev pub IsSettledRun : Option (List ℕ) → List ℕ → Type 0
IsSettledRun input output = ComesTo IsSettledOutput input output

abbrev pub IsEndlessRun : Option (List ℕ) → List ℕ → Type 0
IsEndlessRun input output = ComesTo IsEndlessOutput input output

abbrev pub IsFollowedRun : Option (List ℕ) → List ℕ → Type 0
IsFollowedRun input output = ComesTo IsFollowedOutput input output

abbrev pub IsUnsettledRun : Option (List ℕ) → PlayError → Type 0
IsUnsettledRun input error = IsFaultOf IsNotSettled input error

-- And which text the settled scenario has, and why there is none.

abbrev pub IsSettledText : Option (List ℕ) → List ℕ → Type 0
IsSettledText input output = ComesTo IsSettledListing input output

abbrev pub IsUnsettledText : Option (List ℕ) → PlayError → Type 0
IsUnsettledText input error = IsFaultOf IsUnsettleable input error

-- such an output was written, and nothing else
abbrev pub Wrote : (List ℕ → Type 0) → (before after : Option (List ℕ)) → Type 0
Wrote Gives before after = (output : List ℕ) × Gives output × Appends before after output
