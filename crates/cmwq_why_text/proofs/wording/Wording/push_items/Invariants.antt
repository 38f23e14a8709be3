use Rattle.std.proofs.Common.{◌≡◌, ◌++◌, string_bytes, take}
use Rattle.std.specs.List.{flat_map}
use Rattle.cmwq_why_text.specs.WhyText.{later_item}
use Rattle.cmwq_why_text.proofs.wording.Wording.push_items.Given as goal

abbrev pub invariant-loop-instance : goal.invariant-loop-instance
invariant-loop-instance g l =
    string_bytes l.text ≡ string_bytes l.initial.text ++ flat_map (later_item (g.R.Reads.loaded l.self.machine.now) (g.R.Reads.state l.self.machine.now)) (take l.instance-index l.later)
