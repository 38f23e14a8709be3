-- What an answer means for a text, from what reading gives and the laws of texts.
use Rattle.std.proofs.Common.{◌≡◌, ℕ, ◌∙◌, ◌⊎◌, inl, inr, List, sym, ap, subst, refl}
use Rattle.std.specs.Prelude.{Result, Ok, Err, IfOk, MatchResult, ◌↔◌}
use Rattle.cmwq_types.specs.Contents.{ScenarioContents}
use Rattle.cmwq_grammar.specs.FaultLaw.{IsFault}
use Rattle.cmwq_grammar.specs.Grammar.{Spells}
use Rattle.cmwq_grammar.specs.Meaning.{FaultAt, fault_at, reads}
use Rattle.cmwq_grammar.specs.declared.why.Why.{Why}
use Rattle.cmwq_asm.specs.Texts.{Assembles}
use Rattle.cmwq_asm.specs.declared.fault.AsmError.{AsmError}
use Rattle.cmwq_asm.specs.declared.fault.AsmError.TheVariants as asm

module _ (text : List ℕ) where
  pub found_spelled : (answer : Result ScenarioContents AsmError) → Assembles answer (reads text) → ((t : List ℕ) (S : ScenarioContents) → reads t ≡ Ok S → Spells t S) → IfOk answer (λ scenario. Spells text scenario)
  found_spelled (Ok scenario) read law = law text scenario read
  found_spelled (Err e) read law = tt

  pub only_spelled : (answer : Result ScenarioContents AsmError) → Assembles answer (reads text) → ((t : List ℕ) (S : ScenarioContents) → Spells t S → reads t ≡ Ok S) → (S : ScenarioContents) → Spells text S → MatchResult answer (λ s. s ≡ S) (λ e. e ≡ asm.NoMemory)
  only_spelled (Ok scenario) read law S spelled = let both = sym read ∙ law text S spelled in cc
  only_spelled (Err (asm.At line why)) read law S spelled = let both = sym read ∙ law text S spelled in cc
  only_spelled (Err asm.NoMemory) read law S spelled = refl

  pub told_fault : (answer : Result ScenarioContents AsmError) → Assembles answer (reads text) → ((t : List ℕ) (fault : FaultAt) → reads t ≡ Err fault ↔ IsFault t fault) → (line : ℕ) (why : Why) → answer ≡ Err (asm.At line why) → IsFault text (fault_at line why)
  told_fault answer read law line why told = (law text (fault_at line why)).0 (subst (λ given. Assembles given (reads text)) told read)

  pub fault_told : (answer : Result ScenarioContents AsmError) → Assembles answer (reads text) → ((t : List ℕ) (fault : FaultAt) → reads t ≡ Err fault ↔ IsFault t fault) → (fault : FaultAt) → IsFault text fault → MatchResult answer (λ s. ⊥) (λ e. (e ≡ asm.At fault.line fault.why) ⊎ (e ≡ asm.NoMemory))
  fault_told (Ok scenario) read law fault faulty = let both = sym read ∙ (law text fault).1 faulty in cc
  fault_told (Err (asm.At line why)) read law fault faulty =
      let both = sym read ∙ (law text fault).1 faulty in
      let same : fault_at line why ≡ fault = cc in
      inl (ap (λ (f : FaultAt). asm.At f.line f.why) same)
  fault_told (Err asm.NoMemory) read law fault faulty = inr refl
