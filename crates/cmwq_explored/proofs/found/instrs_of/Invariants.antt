use Rattle.std.proofs.Common.{◌≡◌, map, take}
use Rattle.cmwq_orders.specs.declared.choice.Choice.{Choice}
use Rattle.cmwq_types.specs.declared.instr.Instr.{Instr}
use Rattle.cmwq_explored.proofs.found.instrs_of.Given as goal

-- those of the steps so far
abbrev pub invariant-loop-step : goal.invariant-loop-step
invariant-loop-step l = l.instrs.items ≡ map (λ (step : Choice × Instr). step.1) (take l.step-index l.steps)
