-- What is said of the place of a fault: which words a line may begin with there.
use Rattle.std.specs.Prelude.{◌-◌, ℕ, List, [], ◌∷◌, ◌++◌, codes, take}
use Rattle.std.specs.List.{flat_map}
use Rattle.cmwq_types.specs.Mnemonics.{spelling}
use Rattle.cmwq_grammar.specs.Cutting.{lines_of}
use Rattle.cmwq_grammar.specs.Offers.{IsNextAfter}
use Rattle.cmwq_grammar.specs.declared.next.Next.{Next}
use Rattle.cmwq_verdict.specs.declared.first_words.FirstWord.{FirstWord}
use Rattle.cmwq_verdict.specs.declared.first_words.FirstWord.TheVariants as first

-- how each is spelled
abbrev pub spelled : FirstWord → List ℕ
spelled first.Cpus = codes "cpus"
spelled first.Workers = codes "workers"
spelled first.Steps = codes "steps"
spelled first.Flushes = codes "flushes"
spelled first.Work = codes "work"
spelled first.Body = codes "body"
spelled first.Burn = codes "burn"
spelled first.Sleep = codes "sleep"
spelled first.Finish = codes "finish"
spelled first.Actor = codes "actor"
spelled (first.Instruction mnemonic) = spelling mnemonic

-- `  a line here may begin with: WORD, WORD`
abbrev pub offer_line : List (List ℕ) → List ℕ
offer_line [] = codes "  no line may follow" ++ 10 ∷ []
offer_line (word ∷ others) = codes "  a line here may begin with: " ++ word ++ flat_map (λ other. codes ", " ++ other) others ++ 10 ∷ []

-- this is what a further line may be after the lines before that of the fault
abbrev pub IsNextAt : List ℕ → ℕ → Next → Type 0
IsNextAt text line next = IsNextAfter (take (line - 1) (lines_of text)) next
