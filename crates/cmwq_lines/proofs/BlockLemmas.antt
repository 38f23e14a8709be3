-- What is written to a block.
use Rattle.std.proofs.Common.{ℕ, ◌≡◌, List, ◌++◌, Option, Some, None}
use Rattle.std.proofs.lemmas.Fmt.{contents_after_writes}
use Rattle.std.specs.Fmt.{AppendsText, WritesText}

-- a text that is written in several calls goes behind what is there
pub text_written : (text : Option (List ℕ)) (old new : List ℕ) → WritesText (λ (before bytes after : List ℕ). after ≡ before ++ bytes) old text new → AppendsText old new text
text_written (Some bytes) old new written = contents_after_writes (λ (before more after : List ℕ). after ≡ before ++ more) (λ (block : List ℕ). block) (λ before more after is. is) old bytes new written
text_written None old new written = tt
