-- What requests do with a file that has the first scenario's text.
use denote.Ref.{Bor}
use Rattle.std.specs.Prelude.{◌≡◌, ℕ, List, Bool, Option, Some, Result, Ok, Err}
use Rattle.std.specs.Io.KnownBytes.{Appends}
use Rattle.cmwq_command.specs.Carried.{HasCarriedOut, Store}
use Rattle.cmwq_debug_lines.specs.declared.manner.Manner.{Manner}
use Rattle.cmwq_grammar.specs.Grammar.{Spells}
use Rattle.cmwq_play.specs.Commands.{IsOutside}
use Rattle.cmwq_request.specs.Request.{request_words}
use Rattle.cmwq_request.specs.declared.request.Request.{Request}
use Rattle.cmwq_request.specs.declared.request.Request.TheVariants.{Debug, Do}
use Rattle.cmwq_outcome.specs.Starter.{first_scenario}
use Rattle.cmwq_streams.specs.declared.error.PlayError.{PlayError}
use Rattle.cmwq_tasks.specs.declared.task.Task.{Task}
use Rattle.cmwq_verdict.specs.declared.looks.Look.{Look}

-- a file's path, as a request has it
abbrev pub Path : Type 0
Path = Bor (List ℕ)

-- the request of each path has these words
abbrev pub HasWords : (Path → Request) → (List ℕ → List (List ℕ)) → Type 0
HasWords of words = (file : Path) → request_words (of file) ≡ words file.now

-- the file has a text of the first scenario
abbrev pub HasFirst : Store → Path → Type 0
HasFirst store file = (bytes : List ℕ) × (store file.now ≡ Some bytes) × Spells bytes first_scenario

-- Where the request ends so, this holds of the input, of the output before and after, and of the writer for faults before and after.
abbrev pub LeadsIn : Manner → Store → Request → Result ℕ PlayError → ((input output output_now errors errors_now : Option (List ℕ)) → Type 0) → Type 0
LeadsIn manner store request result fact =
    (look : Look) (logic : List ℕ) (input output output_now errors errors_now : Option (List ℕ)) (failed : Bool)
    → HasCarriedOut store look manner logic input output output_now errors errors_now failed request result → fact input output output_now errors errors_now

-- The same, in whichever manner a debugging session is held.
abbrev pub Leads : Store → Request → Result ℕ PlayError → ((input output output_now errors errors_now : Option (List ℕ)) → Type 0) → Type 0
Leads store request result fact = (manner : Manner) → LeadsIn manner store request result fact

-- Where it ends well, such a text was put on the output, and nothing on the writer for faults.
abbrev pub Puts : Store → Request → (List ℕ → Type 0) → Type 0
Puts store request fact =
    Leads store request (Ok 0)
    (λ input output output_now errors errors_now. (errors_now ≡ errors) × ((text : List ℕ) × fact text × Appends output output_now text))

-- Where it ends well, nothing was put on either.
abbrev pub PutsNothing : Store → Request → Type 0
PutsNothing store request =
    Leads store request (Ok 0) (λ input output output_now errors errors_now. (output_now ≡ output) × (errors_now ≡ errors))

-- The task puts such a text on the output, where it ends well on a file that has the first scenario's text.
abbrev pub TaskPuts : Task → (List ℕ → Type 0) → Type 0
TaskPuts task fact = (store : Store) (file : Path) → HasFirst store file → Puts store (Do file task) fact

-- The task fails on such a file only where reading or writing fails, or memory runs out.
abbrev pub TaskFindsNoFault : Task → Type 0
TaskFindsNoFault task =
    (store : Store) (file : Path) (error : PlayError) → HasFirst store file
    → Leads store (Do file task) (Err error) (λ input output output_now errors errors_now. IsOutside error)

-- So does a request for a debugger that is held in this manner, on such a file.
abbrev pub DebugsOnFirst : Manner → (settle : Bool) → ((input output output_now : Option (List ℕ)) → Type 0) → Type 0
DebugsOnFirst manner settle fact =
    (store : Store) (file : Path) → HasFirst store file
    → LeadsIn manner store (Debug file settle) (Ok 0) (λ input output output_now errors errors_now. (errors_now ≡ errors) × fact input output output_now)

-- Where the request ends so on such a file, the writer for faults is as it was, and this holds of the input and of the output before and after.
abbrev pub LeadsOnFirst : (Path → Request) → Result ℕ PlayError → ((input output output_now : Option (List ℕ)) → Type 0) → Type 0
LeadsOnFirst of result fact =
    (store : Store) (file : Path) → HasFirst store file
    → Leads store (of file) result (λ input output output_now errors errors_now. (errors_now ≡ errors) × fact input output output_now)
