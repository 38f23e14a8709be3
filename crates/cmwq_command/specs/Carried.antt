-- What a request does to the writers that it is lent, by what its files have.
use Rattle.std.specs.Prelude.{◌≡◌, ◌<◌, ◌↔◌, ◌⊎◌, ℕ, zero, suc, Bool, true, List, [], length, map, max, Option, Some, None, IfSome, Result, Ok, Err, IfErr, OnErr, OnOk, slice_index_or}
use Rattle.std.specs.Io.KnownBytes.{Appends, Keeps}
use Rattle.cmwq_types.specs.Contents.{ScenarioContents}
use Rattle.cmwq_types.specs.declared.limits.TheConstants.{MAX_TEXT}
use Rattle.cmwq_grammar.specs.Grammar.{Spells}
use Rattle.cmwq_image.specs.Image.{image}
use Rattle.cmwq_image.specs.declared.version.TheConstants.{VERSION}
use Rattle.cmwq_actors.specs.Interleaving.{Interleaves, scripts_of}
use Rattle.cmwq_command.specs.ExploredFiles.{HasExploredFile}
use Rattle.cmwq_command.specs.StrictRuns.{HasRunStrictly}
use Rattle.cmwq_command.specs.SweptFiles.{HasSweptFile}
pub use Rattle.cmwq_command.specs.Tasks.{HasDone}
use Rattle.cmwq_command_line.specs.CommandLine.{version_line}
use Rattle.cmwq_kernel_trace.specs.DataTrace.{dat_of_run}
use Rattle.cmwq_debug_lines.specs.declared.manner.Manner.{Manner}
use Rattle.cmwq_debug_session.specs.Told.{IsDebugged, IsFrontTold, IsTalkError}
use Rattle.cmwq_language.specs.Page.{language_page}
use Rattle.cmwq_play.specs.Framing.{IsTextOfRun}
use Rattle.cmwq_interleaving.specs.Plays.{HasFronts, IsFull, Left, LeftFront}
use Rattle.cmwq_outcome.specs.Checking.{HasTold, status_of_judged}
use Rattle.cmwq_outcome.specs.FaultsTold.{Prints}
use Rattle.cmwq_outcome.specs.Starting.{HasWrittenFirst}
use Rattle.cmwq_outcome.specs.declared.file_verdict.Judged.{Judged}
use Rattle.cmwq_play.specs.Commands.{Answers}
use Rattle.cmwq_play.specs.PlayTexts.{IsFaultOf, IsOutput, IsRunFault, IsTextFault}
use Rattle.clap.specs.Words.{Text}
use Rattle.cmwq_request.specs.Request.{request_words}
use Rattle.cmwq_request.specs.declared.request.Request.{Request}
use Rattle.cmwq_request.specs.declared.request.Request.TheVariants.{New, Do, Strict, Sweep, TraceData, Asm, Debug, Play, Explore, Check, Language, Version}
use Rattle.cmwq_settle.specs.Settled.{IsSettledIf, IsUnsettledIf}
use Rattle.cmwq_streams.specs.Sending.{IsSendError}
use Rattle.cmwq_streams.specs.declared.error.PlayError.{PlayError}
use Rattle.cmwq_streams.specs.declared.error.PlayError.TheVariants.{Actors, Asm as TextFault, Full, NoMemory, Read, Tickets, TooLong, Write}
use Rattle.cmwq_verdict.specs.declared.looks.Look.{Look}

-- what a file of this path has, where that is known
abbrev pub Store : Type 0
Store = List ℕ → Option (List ℕ)

-- the file couldn't be opened, and nothing was written; else this holds
abbrev pub UnlessUnopened : (before after : Option (List ℕ)) → Result (Unit {0}) PlayError → Type 0 → Type 0
UnlessUnopened before after result fact = ((result ≡ Err Read) × Keeps before after) ⊎ fact

-- it is told exactly where the writer failed
abbrev pub TellsFailure : (failed : Bool) → Result (Unit {0}) PlayError → Type 0
TellsFailure failed result = (result ≡ Err Write) ↔ (failed ≡ true)

-- the first scenario was written, or the writer failed
abbrev pub HasStarted : (before after : Option (List ℕ)) → (failed : Bool) → Result (Unit {0}) PlayError → Type 0
HasStarted before after failed result = OnOk result (HasWrittenFirst before after) × IfErr result (λ error. error ≡ Write) × TellsFailure failed result

-- what a scenario's text may say was written, or the writer failed, or memory ran out before
abbrev pub HasToldLanguage : (before after : Option (List ℕ)) → (failed : Bool) → Result (Unit {0}) PlayError → Type 0
HasToldLanguage before after failed result =
    OnOk result (Appends before after language_page) × IfErr result (λ error. IsSendError error) × TellsFailure failed result

-- the bytes spell a scenario of which this holds
abbrev pub OfSpelled : List ℕ → (ScenarioContents → Type 0) → Type 0
OfSpelled bytes fact = (S : ScenarioContents) × Spells bytes S × fact S

-- the bytes spell a scenario that can be run, settled where that is asked, and of that one this holds
abbrev pub OfSettled : (settle : Bool) → List ℕ → (ScenarioContents → Type 0) → Type 0
OfSettled settle bytes fact = OfSpelled bytes (λ S. (T : ScenarioContents) × IsSettledIf settle S T × fact T)

-- What was said to the input in this manner, where a debugger of the scenario that the bytes spell was asked for.
pub record HasDebugged (manner : Manner) (settle : Bool) (bytes : List ℕ) (input before after : Option (List ℕ)) (failed : Bool) (result : Result (Unit {0}) PlayError) : Type 0 where
  -- to the whole input was said what such a debugger says to it
  pub told : OnOk result (OfSettled settle bytes (IsDebugged manner input before after))
  -- or a front of that, or nothing
  pub front : OnErr result (OfSettled settle bytes (IsFrontTold manner input before after) ⊎ Keeps before after)
  pub write : TellsFailure failed result
  pub too_long : result ≡ Err TooLong → IfSome input (λ commands. MAX_TEXT < length commands)
  -- there is no such debugger, and nothing was written; or a read or a write failed, memory ran out, or too much was to be read
  pub why : IfErr result (λ error. (IsFaultOf (IsUnsettledIf settle) (Some bytes) error × Keeps before after) ⊎ IsTalkError error)

-- why nothing is left: the bytes spell no scenario, or one without actors, or they couldn't be read, or memory ran out
abbrev pub IsUnplayed : List ℕ → PlayError → Type 0
IsUnplayed bytes Actors = OfSpelled bytes (λ S. S.actors ≡ [])
IsUnplayed bytes (TextFault fault) = IsTextFault (Some bytes) (TextFault fault)
IsUnplayed bytes Read = Unit {0}
IsUnplayed bytes NoMemory = Unit {0}
IsUnplayed bytes error = ⊥

-- why not all that the actors have to issue is left
abbrev pub IsCutShort : PlayError → Type 0
IsCutShort Full = Unit {0}
IsCutShort Tickets = Unit {0}
IsCutShort Write = Unit {0}
IsCutShort error = ⊥

-- What was left of a play of the scenario that the bytes spell.
pub record HasLeft (capacity : ℕ) (bytes : List ℕ) (before after : Option (List ℕ)) (failed : Bool) (result : Result (Unit {0}) PlayError) : Type 0 where
  -- a history that interleaves all that the actors have to issue
  pub all : OnOk result (OfSpelled bytes (λ S. Left S (λ history. Interleaves (scripts_of S) history) before after))
  -- or one that interleaves fronts of it, and has no room left
  pub full : result ≡ Err Full → OfSpelled bytes (λ S. Left S (λ history. IsFull S capacity history) before after)
  pub tickets : result ≡ Err Tickets → OfSpelled bytes (λ S. Left S (λ history. HasFronts S history) before after)
  pub write : TellsFailure failed result
  -- where the writer failed, a front of that
  pub front : result ≡ Err Write → OfSpelled bytes (λ S. LeftFront S (λ history. HasFronts S history) before after)
  -- else nothing was written
  pub why : IfErr result (λ error. (IsUnplayed bytes error × Keeps before after) ⊎ IsCutShort error)

-- the verdict of a file that has these bytes was told, be it that it couldn't be read
abbrev pub IsJudged : Look → (file bytes : List ℕ) → (output output_now errors errors_now : Option (List ℕ)) → Judged → Type 0
IsJudged look file bytes output output_now errors errors_now judged =
    (left : Option (List ℕ)) × (failed : Bool) × HasTold look file (Some bytes) left failed output output_now errors errors_now judged

-- the verdicts of the first n files were told, one after another, and this is the highest of their statuses
abbrev pub HasChecked : Store → Look → List (List ℕ) → ℕ → (output output_now errors errors_now : Option (List ℕ)) → ℕ → Type 0
HasChecked store look files zero output output_now errors errors_now status = (output_now ≡ output) × (errors_now ≡ errors) × (status ≡ 0)
HasChecked store look files (suc n) output output_now errors errors_now status =
    (output_then : Option (List ℕ)) × (errors_then : Option (List ℕ)) × (highest : ℕ) × (judged : Judged)
    × HasChecked store look files n output output_then errors errors_then highest
    × IfSome (store (slice_index_or files n [])) (λ bytes. IsJudged look (slice_index_or files n []) bytes output_then output_now errors_then errors_now judged)
    × (status ≡ max highest (status_of_judged judged))

-- the exit status of what went well or not
abbrev pub graded : Result (Unit {0}) PlayError → Result ℕ PlayError
graded (Ok done) = Ok 0
graded (Err error) = Err error

-- a result of which this holds, graded
abbrev pub Graded : Result ℕ PlayError → (Result (Unit {0}) PlayError → Type 0) → Type 0
Graded result fact = (outcome : Result (Unit {0}) PlayError) × (result ≡ graded outcome) × fact outcome

module _ (store : Store) (look : Look) (manner : Manner) (logic : List ℕ) (input output output_now errors errors_now : Option (List ℕ)) (failed : Bool) where
  -- What the request has done: to the output, unless all goes to a file, and to the writer for faults where files are checked.
  abbrev pub HasCarriedOut : Request → Result ℕ PlayError → Type 0
  HasCarriedOut (New None) result = (errors_now ≡ errors) × Graded result (λ outcome. HasStarted output output_now failed outcome)
  HasCarriedOut (New (Some file)) result = (errors_now ≡ errors) × (output_now ≡ output) × Graded result (λ outcome. IfErr outcome (λ error. error ≡ Write))
  HasCarriedOut (Do file task) result =
      (errors_now ≡ errors)
      × Graded result (λ outcome. IfSome (store file.now) (λ bytes. UnlessUnopened output output_now outcome (HasDone task bytes output output_now failed outcome)))
  HasCarriedOut (Strict file kind) result =
      IfSome (store file.now) (λ bytes. HasRunStrictly kind bytes output output_now failed errors errors_now result)
  HasCarriedOut (Sweep file sweep) result =
      IfSome (store file.now) (λ bytes. HasSweptFile sweep bytes output output_now failed errors errors_now result)
  HasCarriedOut (TraceData file out) result =
      (errors_now ≡ errors) × (output_now ≡ output)
      × Graded result (λ outcome. IfSome (store file.now) (λ bytes. Answers (IsTextOfRun dat_of_run) IsRunFault (Some bytes) outcome))
  HasCarriedOut (Asm file out) result =
      (errors_now ≡ errors) × (output_now ≡ output)
      × Graded result (λ outcome. IfSome (store file.now) (λ bytes. Answers (IsOutput (image VERSION)) IsTextFault (Some bytes) outcome))
  HasCarriedOut (Debug file settle) result =
      (errors_now ≡ errors) × Graded result (λ outcome. IfSome (store file.now) (λ bytes. HasDebugged manner settle bytes input output output_now failed outcome))
  HasCarriedOut (Play file capacity) result =
      (errors_now ≡ errors) × Graded result (λ outcome. IfSome (store file.now) (λ bytes. HasLeft capacity bytes output output_now failed outcome))
  HasCarriedOut (Explore file exploration) result =
      IfSome (store file.now) (λ bytes. HasExploredFile exploration bytes output output_now failed errors errors_now result)
  HasCarriedOut (Check files) (Ok status) =
      HasChecked store look (map (λ file. file.now) files.items) (length files.items) output output_now errors errors_now status
  HasCarriedOut (Check files) (Err error) = IsSendError error
  HasCarriedOut Language result = (errors_now ≡ errors) × Graded result (λ outcome. HasToldLanguage output output_now failed outcome)
  HasCarriedOut Version result =
      (errors_now ≡ errors) × Prints (version_line logic) output output_now result × Graded result (λ outcome. TellsFailure failed outcome)

  -- what the words ask for was done; or memory ran out
  abbrev pub HasCarriedOutWords : List Text → Result ℕ PlayError → Type 0
  HasCarriedOutWords asked result = ((request : Request) × (request_words request ≡ asked) × HasCarriedOut request result) ⊎ (result ≡ Err NoMemory)
