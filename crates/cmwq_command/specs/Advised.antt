-- What is told behind the line that tells a fault, and behind a run that ended well.
use Rattle.std.specs.Prelude.{◌≡◌, ℕ, Bool, true, false, List, [], Option, None, Some, IfSome, is_some, option_map}
use Rattle.clap.specs.Words.{Text}
use Rattle.cmwq_advice.specs.Advice.{IsAdvice, file_made, file_read, wants_text}
use Rattle.cmwq_advice.specs.declared.advising.Found.{Found}
use Rattle.cmwq_advice.specs.declared.trouble.Trouble.{Trouble}
use Rattle.cmwq_command.specs.Carried.{Store}
use Rattle.cmwq_remarks.specs.Remarks.{AreRemarks}
use Rattle.cmwq_request.specs.Request.{request_words}
use Rattle.cmwq_request.specs.declared.request.Request.{Request}
use Rattle.cmwq_request.specs.declared.request.Request.TheVariants.{Do, Strict}
use Rattle.cmwq_tasks.specs.declared.task.Task.{Task}
use Rattle.cmwq_tasks.specs.declared.task.Task.TheVariants.{Run}
use Rattle.cmwq_streams.specs.declared.error.PlayError.{PlayError}
use Rattle.cmwq_streams.specs.declared.error.PlayError.TheVariants as errors
use Rattle.cmwq_verdict.specs.declared.looks.Look.{Look}

-- Texts that are looked at again. Where it is known what a file has, that is found; of any other file some text is found, or none.

abbrev pub IsTextIn : Store → (file : List ℕ) → (found : Option (List ℕ)) → Type 0
IsTextIn store file found = IfSome (store file) (λ bytes. found ≡ Some bytes)

-- where there is such a file
abbrev pub IsTextInAny : Store → (file found : Option (List ℕ)) → Type 0
IsTextInAny store (Some file) found = IsTextIn store file found
IsTextInAny store None found = found ≡ None

-- of the file that the request read, which is looked at where the fault shows in it
abbrev pub IsTextShown : Store → Request → (wanted : Bool) → (found : Option (List ℕ)) → Type 0
IsTextShown store request true found = IsTextInAny store (file_read request) found
IsTextShown store request false found = found ≡ None

-- Files that can't be read or made.

abbrev pub file_in_question : Request → PlayError → Option (List ℕ)
file_in_question request errors.Read = file_read request
file_in_question request errors.Write = file_made request
file_in_question request fault = None

-- some trouble is told of the file in question, if there is one; which, only the system knows
abbrev pub IsTroubleWith : Request → PlayError → Option Trouble → Type 0
IsTroubleWith request fault found = is_some found ≡ is_some (file_in_question request fault)

-- Advice: the lines, by what was found out.

abbrev pub IsAdviceOn : Store → Look → PlayError → Request → (told : List ℕ) → Type 0
IsAdviceOn store look fault request told =
    (found : Found) × IsTextShown store request (wants_text fault) (option_map (λ text. text.now) found.text) × IsTroubleWith request fault found.trouble
    × IsAdvice look request found fault told

abbrev pub IsAdviceOnWords : Store → Look → PlayError → List Text → (told : List ℕ) → Type 0
IsAdviceOnWords store look fault asked told = (request : Request) × (request_words request ≡ asked) × IsAdviceOn store look fault request told

-- Remarks: the lines on the text that was found, and none where none was, or where nothing was done with a file.

abbrev pub AreRemarksOn : Task → (text : Option (List ℕ)) → (told : List ℕ) → Type 0
AreRemarksOn task (Some text) told = AreRemarks task text told
AreRemarksOn task None told = told ≡ []

abbrev pub AreRemarksOnFile : Store → Task → (file told : List ℕ) → Type 0
AreRemarksOnFile store task file told = (text : Option (List ℕ)) × IsTextIn store file text × AreRemarksOn task text told

abbrev pub AreRemarksOnRequest : Store → Request → (told : List ℕ) → Type 0
AreRemarksOnRequest store (Do file task) told = AreRemarksOnFile store task file.now told
AreRemarksOnRequest store (Strict file kind) told = AreRemarksOnFile store (Run kind) file.now told
AreRemarksOnRequest store request told = told ≡ []

abbrev pub AreRemarksOnWords : Store → List Text → (told : List ℕ) → Type 0
AreRemarksOnWords store asked told = (request : Request) × (request_words request ≡ asked) × AreRemarksOnRequest store request told
