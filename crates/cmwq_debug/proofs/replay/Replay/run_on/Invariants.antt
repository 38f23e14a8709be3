use Rattle.std.proofs.Common.{◌≡◌, ◌&&◌, ◌≤◌, None}
use Rattle.std.specs.Prelude.{is_some, nat_le}
use Rattle.cmwq_debug.specs.Breaks.{lowest}
use Rattle.cmwq_debug.specs.Debugging.{break_of, session_of}
use Rattle.cmwq_debug.specs.Replaying.{HasGoneTo}
use Rattle.cmwq_debug.proofs.replay.Replay.run_on.Given as goal

-- the instructions up to here were carried out, and no break matched
abbrev pub invariant-loop-step : goal.invariant-loop-step
invariant-loop-step g l = record {
  gone : HasGoneTo l.initial.self l._step l.self;
  forward : l.initial.self.position ≤ l._step;
  none : lowest (λ k. nat_le l.initial.self.position k && is_some (break_of (session_of l.initial.self.scenario l.initial.self.instrs l.initial.self.position l.breaks) k)) l._step ≡ None;
}
