use Rattle.std.proofs.Common.{◌≡◌, ◌++◌, take}
use Rattle.std.specs.List.{flat_map}
use Rattle.std.specs.Prelude.{string_bytes}
use Rattle.cmwq_language.specs.Limits.{limited_text}
use Rattle.cmwq_language.proofs.limits.push_limits.Given as goal

abbrev pub invariant-loop-limited : goal.invariant-loop-limited
invariant-loop-limited l = string_bytes l.page ≡ string_bytes l.fn.page ++ flat_map limited_text (take l.limited-index l.limits)
