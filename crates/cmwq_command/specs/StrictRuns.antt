-- What a strict run does to the writers, and its exit status.
use Rattle.std.specs.Prelude.{◌≡◌, ◌⊎◌, ℕ, Bool, List, Option, None, Some, Result, Ok, Err}
use Rattle.cmwq_command.specs.ExploredFiles.{TellsLine}
use Rattle.cmwq_command.specs.Tasks.{HasDone}
use Rattle.cmwq_outcome.specs.Checking.{HasRead}
use Rattle.cmwq_outcome.specs.Refused.{IsRefusedLine}
use Rattle.cmwq_streams.specs.declared.error.PlayError.{PlayError}
use Rattle.cmwq_streams.specs.declared.error.PlayError.TheVariants.{NoMemory, Read}
use Rattle.cmwq_tasks.specs.declared.task.RunKind.{RunKind}
use Rattle.cmwq_tasks.specs.declared.task.Task.TheVariants.{Run}

-- The exit status, and what goes to the writer for faults: 1 and the line if an instruction was refused, and else 0 and nothing.
abbrev pub EndsWith : (line : Option (List ℕ)) → (errors errors_now : Option (List ℕ)) → Result ℕ PlayError → Type 0
EndsWith (Some line) errors errors_now result = (result ≡ Ok 1) × TellsLine line errors errors_now
EndsWith None errors errors_now result = (result ≡ Ok 0) × (errors_now ≡ errors)

-- what is told of a run of this text that came to this: its fault, or the refusals of one that ended well, unless memory runs out
abbrev pub IsToldStrictly : (text : List ℕ) → Result (Unit {0}) PlayError → (errors errors_now : Option (List ℕ)) → Result ℕ PlayError → Type 0
IsToldStrictly text (Err why) errors errors_now result = (result ≡ Err why) × (errors_now ≡ errors)
IsToldStrictly text (Ok done) errors errors_now result =
    ((line : Option (List ℕ)) × IsRefusedLine text line × EndsWith line errors errors_now result)
    ⊎ ((result ≡ Err NoMemory) × (errors_now ≡ errors))

-- why the text wasn't read: the file can't be opened or read, or memory ran out
abbrev pub IsUnread : Result ℕ PlayError → Type 0
IsUnread result = (result ≡ Err Read) ⊎ (result ≡ Err NoMemory)

-- The file, which has these bytes, wasn't read, and nothing was written; or its text was run as a plain run of this kind would be, and what was
-- refused was told.
abbrev pub HasRunStrictly : RunKind → List ℕ → (output output_now : Option (List ℕ)) → (failed : Bool) → (errors errors_now : Option (List ℕ)) → Result ℕ PlayError → Type 0
HasRunStrictly kind bytes output output_now failed errors errors_now result =
    (IsUnread result × (output_now ≡ output) × (errors_now ≡ errors))
    ⊎ ((left : Option (List ℕ)) × (text : List ℕ) × (outcome : Result (Unit {0}) PlayError) × HasRead (Some bytes) left text
    × HasDone (Run kind) text output output_now failed outcome × IsToldStrictly text outcome errors errors_now result)
