use Rattle.std.specs.Fmt.{HasWritten, IsPlainFormatter}
use Rattle.cmwq_kernel_trace.specs.KernelText.{spaces}
use Rattle.cmwq_kernel_trace.proofs.columns.SpacesDisplay.fmt.Given as goal

-- so many were written
abbrev pub invariant-loop-space : goal.invariant-loop-space
invariant-loop-space g l = IsPlainFormatter l.fn.f → HasWritten g.W.Write.write_str_gives l.fn.f (spaces l._space) l.f
