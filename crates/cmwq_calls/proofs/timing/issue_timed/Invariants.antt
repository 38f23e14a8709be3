use Rattle.std.proofs.Common.{◌<◌, All}
use Rattle.cmwq_engine.specs.declared.history.Entry.{Entry}
use Rattle.cmwq_calls.proofs.timing.issue_timed.Given as goal

-- the next ticket is above all that were entered
abbrev pub invariant-loop-instr : goal.invariant-loop-instr
invariant-loop-instr g l = All (λ (e : Entry). e.ticket < l.ticket) l.engine.history
