-- What is told behind an exploration that couldn't be done though its text is good.
use Rattle.std.specs.Prelude.{◌≡◌, ℕ, List, [], Option, None, Some}
use Rattle.clap.specs.Words.{Text}
use Rattle.cmwq_advice.specs.Advice.{IsOnUnexplored}
use Rattle.cmwq_command.specs.Advised.{IsTextIn}
use Rattle.cmwq_command.specs.Carried.{Store}
use Rattle.cmwq_request.specs.Request.{request_words}
use Rattle.cmwq_request.specs.declared.request.Request.{Request}
use Rattle.cmwq_request.specs.declared.request.Request.TheVariants.{Explore}

-- the lines on the text that was found, and none where none was
abbrev pub IsOnText : Request → (text : Option (List ℕ)) → (told : List ℕ) → Type 0
IsOnText request (Some text) told = IsOnUnexplored request text told
IsOnText request None told = told ≡ []

abbrev pub IsOnFile : Store → Request → (file told : List ℕ) → Type 0
IsOnFile store request file told = (text : Option (List ℕ)) × IsTextIn store file text × IsOnText request text told

abbrev pub IsOnUndone : Store → Request → (told : List ℕ) → Type 0
IsOnUndone store (Explore file exploration) told = IsOnFile store (Explore file exploration) file.now told
IsOnUndone store request told = told ≡ []

abbrev pub IsOnUndoneWords : Store → List Text → (told : List ℕ) → Type 0
IsOnUndoneWords store asked told = (request : Request) × (request_words request ≡ asked) × IsOnUndone store request told
