-- The reason against a line whose first word can't stand where it is.
use Rattle.std.specs.Prelude.{ℕ, List, if◌then◌else◌}
use Rattle.std.specs.List.{list_any}
use Rattle.std.specs.Str.{bytes_eq}
use Rattle.cmwq_grammar.specs.Instructions.{first_words}
use Rattle.cmwq_grammar.specs.declared.why.Why.{Why}
use Rattle.cmwq_grammar.specs.declared.why.Why.TheVariants as why

-- the reason, if some line begins with the word; else that none does
unfoldable pub refusal_of : Why → List ℕ → Why
refusal_of reason word = if list_any (bytes_eq word) first_words then reason else why.BadWord
