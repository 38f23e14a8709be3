use Rattle.std.proofs.Common.{◌≡◌, None}
use Rattle.cmwq_debug.specs.Breaks.{break_at, lowest, matches_seen, sight_at}
use Rattle.cmwq_debug.proofs.breaks.said_by.Given as goal

abbrev pub invariant-loop-i : goal.invariant-loop-i
invariant-loop-i g l = lowest (λ i. matches_seen (sight_at l.sights i) (g.M.Reads.state l.machine) l.reply (break_at l.breaks i)) l.i ≡ None
