use Rattle.std.proofs.Common.{◌≡◌, ◌++◌, string_bytes, take}
use Rattle.cmwq_flush_waits.specs.FlushText.{lines}
use Rattle.cmwq_flush_waits.proofs.telling_flushes.push_waiters.Given as goal

abbrev pub invariant-loop-instance : goal.invariant-loop-instance
invariant-loop-instance g l =
    string_bytes l.text ≡ string_bytes l.fn.text ++ lines (g.R.Reads.loaded l.wording.machine.now) (g.R.Reads.state l.wording.machine.now) l.indent (take l.instance-index l.instances)
