-- What is told of a file's text.
use Rattle.std.specs.Prelude.{◌≡◌, ◌≤◌, ℕ, List, length, Bool, true, Option, None, Some, IfSome}
use Rattle.std.specs.Io.KnownBytes.{Appends, Consumes, Keeps}
use Rattle.cmwq_remarks.specs.Notes.{AreNotes}
use Rattle.cmwq_types.specs.declared.limits.TheConstants.{MAX_TEXT}
use Rattle.cmwq_verdict.specs.Verdicts.{IsVerdict, ok_line, unread_line}
use Rattle.cmwq_verdict.specs.declared.looks.Look.{Look}
use Rattle.cmwq_outcome.specs.declared.file_verdict.Judged.{Judged}
use Rattle.cmwq_outcome.specs.declared.file_verdict.Judged.TheVariants as judged

-- the exit status
abbrev pub status_of_judged : Judged → ℕ
status_of_judged judged.Good = 0
status_of_judged judged.Faulty = 1
status_of_judged judged.Unread = 3

-- Of a reader's input this was read: all, if it's no longer than a text may be.
pub record HasRead (input left : Option (List ℕ)) (text : List ℕ) : Type 0 where
  pub read : Consumes input left text
  pub whole : length text ≤ MAX_TEXT → IfSome input (λ all. all ≡ text)

-- what is noted of the file, which has this text, was written
abbrev pub HasNoted : (file text : List ℕ) (errors errors_now : Option (List ℕ)) → Type 0
HasNoted file text errors errors_now = (told : List ℕ) × AreNotes file text told × Appends errors errors_now told

-- The file was judged so, and its verdict told: `ok` on the output, all else, notes too, on the writer for faults.
abbrev pub HasTold : (look : Look) (file : List ℕ) (input left : Option (List ℕ)) (has_failed : Bool) (output output_now errors errors_now : Option (List ℕ)) → Judged → Type 0
HasTold look file input left has_failed output output_now errors errors_now judged.Good =
    ((text : List ℕ) × HasRead input left text × IsVerdict look file text None × HasNoted file text errors errors_now) × Appends output output_now (ok_line file)
HasTold look file input left has_failed output output_now errors errors_now judged.Faulty =
    (text : List ℕ) × (told : List ℕ) × HasRead input left text × IsVerdict look file text (Some told) × Keeps output output_now × Appends errors errors_now told
HasTold look file input left has_failed output output_now errors errors_now judged.Unread =
    (has_failed ≡ true) × Keeps output output_now × Appends errors errors_now (unread_line file)

-- the same of a file that has this text
abbrev pub HasToldOf : (look : Look) (file text : List ℕ) (output output_now errors errors_now : Option (List ℕ)) → Judged → Type 0
HasToldOf look file text output output_now errors errors_now judged.Good =
    IsVerdict look file text None × HasNoted file text errors errors_now × Appends output output_now (ok_line file)
HasToldOf look file text output output_now errors errors_now judged.Faulty =
    (told : List ℕ) × IsVerdict look file text (Some told) × Keeps output output_now × Appends errors errors_now told
HasToldOf look file text output output_now errors errors_now judged.Unread = ⊥

-- it was told that the file can't be read
abbrev pub IsToldOfUnread : (file : List ℕ) (errors errors_now : Option (List ℕ)) → Judged → Type 0
IsToldOfUnread file errors errors_now judged.Unread = Appends errors errors_now (unread_line file)
IsToldOfUnread file errors errors_now judged = ⊥
