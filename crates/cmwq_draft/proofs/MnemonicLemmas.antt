-- Mnemonics by their spelling.
use Rattle.std.proofs.Common.{◌≡◌, ℕ, List, Some, ap, ◌∙◌, refl}
use Rattle.std.specs.Cmp.Lexicographic.{bytes_decides}
use Rattle.std.specs.Prelude.{IsTrue}
use Rattle.std.specs.Str.{bytes_eq}
use Rattle.cmwq_types.specs.Mnemonics.{mnemonic_of, spelling}
use Rattle.cmwq_types.specs.declared.mnemonic.Mnemonic.{Mnemonic}
use Rattle.cmwq_types.specs.declared.mnemonic.Mnemonic.TheVariants as mnemonic

spelled_again : (m : Mnemonic) → mnemonic_of (spelling m) ≡ Some m
spelled_again mnemonic.Queue = refl
spelled_again _ = refl

-- a word that is spelled as the mnemonic is that one
pub spelled_so : (word : List ℕ) (m : Mnemonic) → IsTrue (bytes_eq word (spelling m)) → mnemonic_of word ≡ Some m
spelled_so word m same = ap mnemonic_of ((bytes_decides word (spelling m)).0 same) ∙ spelled_again m
