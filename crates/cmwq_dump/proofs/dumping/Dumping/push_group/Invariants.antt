use Rattle.std.proofs.Common.{◌≡◌, ◌++◌, string_bytes, take}
use Rattle.std.specs.List.{flat_map}
use Rattle.cmwq_dump.specs.Dump.{dumped_work}
use Rattle.cmwq_dump.proofs.dumping.Dumping.push_group.Given as goal

abbrev pub invariant-loop-w : goal.invariant-loop-w
invariant-loop-w g l = string_bytes l.text ≡ string_bytes l.fn.text ++ flat_map (dumped_work l.self.scenario l.self.state l.group) (take l.w-index l.w-items)
