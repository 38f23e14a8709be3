use Rattle.std.proofs.Common.{◌≡◌, ◌++◌, string_bytes, take}
use Rattle.std.specs.List.{flat_map}
use Rattle.cmwq_dump.specs.Dump.{spaced}
use Rattle.cmwq_dump.proofs.dumping.Dumping.push_workers.Given as goal

abbrev pub invariant-loop-worker : goal.invariant-loop-worker
invariant-loop-worker g l = string_bytes l.text ≡ string_bytes l.initial.text ++ flat_map spaced (take l.worker-index l.worker-items)
