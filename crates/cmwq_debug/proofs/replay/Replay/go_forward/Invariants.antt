use Rattle.cmwq_debug.specs.Replaying.{HasGoneTo}
use Rattle.cmwq_debug.proofs.replay.Replay.go_forward.Given as goal

-- the instructions up to here were carried out
abbrev pub invariant-loop-step : goal.invariant-loop-step
invariant-loop-step g l = record { gone : HasGoneTo l.initial.self l._step l.self }
