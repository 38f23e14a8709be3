-- What a debugging session has said to the commands that it heard.
use Rattle.std.specs.Prelude.{◌≡◌, ◌<◌, ◌≤◌, ◌↔◌, ℕ, List, ◌++◌, length, take, drop, Bool, false, true, Option, IfSome, Result, Err, IfErr, OnErr, OnOk, ◌==◌}
use Rattle.std.specs.Io.KnownBytes.{Appends, Consumes}
use Rattle.std.specs.List.{All}
use Rattle.cmwq_types.specs.Contents.{ActorContents, ScenarioContents}
use Rattle.cmwq_types.specs.Scenario.{expand}
use Rattle.cmwq_types.specs.declared.limits.TheConstants.{MAX_TEXT}
use Rattle.cmwq_grammar.specs.Cutting.{lines_of}
use Rattle.cmwq_debug.specs.Debugging.{Session, opened}
use Rattle.cmwq_debug_lines.specs.Prompt.{debugged, lines_said, opening}
use Rattle.cmwq_debug_lines.specs.declared.manner.Manner.{Manner}
use Rattle.cmwq_play.specs.Commands.{Reads}
use Rattle.cmwq_play.specs.Runs.{IsRunOf}
use Rattle.cmwq_streams.specs.Sending.{HasSentFront}
use Rattle.cmwq_streams.specs.declared.error.PlayError.{PlayError}
use Rattle.cmwq_streams.specs.declared.error.PlayError.TheVariants as errors

-- To these bytes, which are whole lines, was written what a debugger at d says; then it stands at e. So it goes on from
-- there, whatever lines come.
abbrev pub Told : Option (List ℕ) → Option (List ℕ) → Manner → ScenarioContents → Session → List ℕ → Session → Type 0
Told before after manner S d lines e =
    (said : List ℕ) × Appends before after said
    × ((more : List ℕ) → lines_said manner S d (lines_of (lines ++ more)) ≡ said ++ lines_said manner S e (lines_of more))

-- of what it says to these bytes, whatever comes behind them, a front was written
abbrev pub ToldFront : Option (List ℕ) → Option (List ℕ) → Manner → ScenarioContents → Session → List ℕ → Type 0
ToldFront before after manner S d bytes = (more : List ℕ) → HasSentFront before after (lines_said manner S d (lines_of (bytes ++ more)))

-- A line of these bytes ended the session: what is said to them was written, and no more is said, whatever comes behind them.
abbrev pub ToldToItsEnd : Option (List ℕ) → Option (List ℕ) → Manner → ScenarioContents → Session → List ℕ → Type 0
ToldToItsEnd before after manner S d bytes = (more : List ℕ) → Appends before after (lines_said manner S d (lines_of (bytes ++ more)))

abbrev pub HasNoLine : List ℕ → Type 0
HasNoLine bytes = All (λ byte. (byte == 10) ≡ false) bytes

-- Between two reads: this text was heard, and each whole line of it has been answered. No line is begun and ended behind
-- the place up to which that was done.
pub record IsAnswered (input left before after : Option (List ℕ)) (manner : Manner) (S : ScenarioContents) (d : Session) (text : List ℕ) (done : ℕ) (e : Session) : Type 0 where
  pub heard : Consumes input left text
  pub short : length text ≤ MAX_TEXT
  pub within : done ≤ length text
  pub told : Told before after manner S d (take done text) e
  pub begun : HasNoLine (drop done text)

-- what was read has been answered, line by line
abbrev pub HasAnswered : (input left before after : Option (List ℕ)) → Manner → ScenarioContents → Session → Type 0
HasAnswered input left before after manner S d = (text : List ℕ) × (done : ℕ) × (e : Session) × IsAnswered input left before after manner S d text done e

-- what a talk may end early for
abbrev pub IsTalkError : PlayError → Type 0
IsTalkError errors.Read = Unit {0}
IsTalkError errors.Write = Unit {0}
IsTalkError errors.TooLong = Unit {0}
IsTalkError errors.NoMemory = Unit {0}
IsTalkError error = ⊥

-- What a talk answers, and what it has said to its input. The writer is broken exactly where `Write` is told.
pub record Talks (input left before after : Option (List ℕ)) (unreadable broken : Bool) (manner : Manner) (S : ScenarioContents) (d : Session) (result : Result (Unit {0}) PlayError) : Type 0 where
  pub reads : Reads input left unreadable result
  pub told : OnOk result (IfSome input (λ bytes. Appends before after (lines_said manner S d (lines_of bytes))))
  pub front : OnErr result (IfSome input (λ bytes. HasSentFront before after (lines_said manner S d (lines_of bytes))))
  pub answered : result ≡ Err errors.Read → HasAnswered input left before after manner S d
  pub too_long : result ≡ Err errors.TooLong → IfSome input (λ bytes. MAX_TEXT < length bytes)
  pub write : (result ≡ Err errors.Write) ↔ (broken ≡ true)
  pub why : IfErr result (λ error. IsTalkError error)

-- the opening was said, and what was read then has been answered
abbrev pub HasBegun : (input left before after : Option (List ℕ)) → Manner → ScenarioContents → Session → Type 0
HasBegun input left before after manner S d =
    (begun : Option (List ℕ)) × Appends before begun (opening manner d) × HasAnswered input left begun after manner S d

-- The same of a whole session: what is said before anything is read, and then a talk.
pub record Holds (input left before after : Option (List ℕ)) (unreadable broken : Bool) (manner : Manner) (S : ScenarioContents) (d : Session) (result : Result (Unit {0}) PlayError) : Type 0 where
  pub reads : Reads input left unreadable result
  pub told : OnOk result (IfSome input (λ bytes. Appends before after (opening manner d ++ lines_said manner S d (lines_of bytes))))
  pub front : OnErr result (IfSome input (λ bytes. HasSentFront before after (opening manner d ++ lines_said manner S d (lines_of bytes))))
  pub answered : result ≡ Err errors.Read → HasBegun input left before after manner S d
  pub too_long : result ≡ Err errors.TooLong → IfSome input (λ bytes. MAX_TEXT < length bytes)
  pub write : (result ≡ Err errors.Write) ↔ (broken ≡ true)
  pub why : IfErr result (λ error. IsTalkError error)

-- The same on a debugger of the one actor's instructions.
abbrev pub HoldsOn : (input left before after : Option (List ℕ)) (unreadable broken : Bool) → Manner → ScenarioContents → Result (Unit {0}) PlayError → Type 0
HoldsOn input left before after unreadable broken manner S result =
    (actor : ActorContents) → IsRunOf S actor → Holds input left before after unreadable broken manner S (opened S (expand actor)) result

-- The scenario can be debugged, and to the input, where it is known, was said in this manner what is to be said.
abbrev pub IsDebugged : Manner → (input before after : Option (List ℕ)) → ScenarioContents → Type 0
IsDebugged manner input before after S =
    (actor : ActorContents) × IsRunOf S actor × IfSome input (λ bytes. Appends before after (debugged manner S (expand actor) bytes))

-- of what is to be said to the input, where it is known, a front was said
abbrev pub IsFrontTold : Manner → (input before after : Option (List ℕ)) → ScenarioContents → Type 0
IsFrontTold manner input before after S =
    (actor : ActorContents) → IsRunOf S actor → IfSome input (λ bytes. HasSentFront before after (debugged manner S (expand actor) bytes))

-- The opening was said, and what was read then has been answered, on a debugger of the one actor's instructions.
abbrev pub IsTalked : Manner → (input left before after : Option (List ℕ)) → ScenarioContents → Type 0
IsTalked manner input left before after S =
    (actor : ActorContents) → IsRunOf S actor → HasBegun input left before after manner S (opened S (expand actor))
