use Rattle.std.proofs.Common.{◌≡◌, ◌++◌, take}
use Rattle.std.specs.List.{flat_map}
use Rattle.std.specs.Prelude.{string_bytes}
use Rattle.cmwq_language.specs.Page.{flag_line}
use Rattle.cmwq_language.proofs.page.push_flags.Given as goal

abbrev pub invariant-loop-flag : goal.invariant-loop-flag
invariant-loop-flag l = string_bytes l.page ≡ string_bytes l.fn.page ++ flat_map flag_line (take l.flag-index l.flags)
