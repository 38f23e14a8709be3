-- What the assembler's answer says of a text's first fault.
use Rattle.std.proofs.Common.{◌≡◌, ℕ, List, None, Result, Ok, Err, ap, sym}
use Rattle.std.specs.Prelude.{IfOk}
use Rattle.cmwq_types.specs.Contents.{ScenarioContents}
use Rattle.cmwq_asm.specs.declared.fault.AsmError.{AsmError}
use Rattle.cmwq_grammar.specs.Grammar.{Spells}
use Rattle.cmwq_grammar.specs.Meaning.{reads}
use Rattle.cmwq_fitting.specs.Fitting.{fault_read, text_fault}

-- what is assembled has none
pub none_read : (text : List ℕ) (r : Result ScenarioContents AsmError) (S : ScenarioContents) → r ≡ Ok S → IfOk r (λ s. Spells text s)
    → ((t : List ℕ) (T : ScenarioContents) → Spells t T → reads t ≡ Ok T) → None ≡ text_fault text
none_read text (Ok T) S is spelled law = sym (ap fault_read (law text T spelled))
none_read text (Err e) S is spelled law = cc
