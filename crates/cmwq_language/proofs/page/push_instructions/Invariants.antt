use Rattle.std.proofs.Common.{◌≡◌, ◌++◌, take}
use Rattle.std.specs.List.{flat_map}
use Rattle.std.specs.Prelude.{string_bytes}
use Rattle.cmwq_language.specs.Page.{instruction_line}
use Rattle.cmwq_language.proofs.page.push_instructions.Given as goal

abbrev pub invariant-loop-word : goal.invariant-loop-word
invariant-loop-word l = string_bytes l.page ≡ string_bytes l.fn.page ++ flat_map instruction_line (take l.word-index l.words)
