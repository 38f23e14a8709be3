use Rattle.std.proofs.Common.{◌≡◌, ◌++◌, string_bytes, take}
use Rattle.std.specs.List.{flat_map}
use Rattle.cmwq_why_text.specs.WhyText.{spaced_name}
use Rattle.cmwq_why_text.proofs.wording.Wording.push_names.Given as goal

abbrev pub invariant-loop-w : goal.invariant-loop-w
invariant-loop-w g l = string_bytes l.text ≡ string_bytes l.fn.text ++ flat_map (spaced_name (g.R.Reads.loaded l.self.machine.now)) (take l.w-index l.works)
