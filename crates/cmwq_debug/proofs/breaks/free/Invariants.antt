use Rattle.std.proofs.Common.{◌≡◌, None}
use Rattle.std.specs.Prelude.{is_none}
use Rattle.cmwq_debug.specs.Breaks.{break_at, lowest}
use Rattle.cmwq_debug.proofs.breaks.free.Given as goal

abbrev pub invariant-loop-i : goal.invariant-loop-i
invariant-loop-i l = lowest (λ i. is_none (break_at l.breaks i)) l.i ≡ None
