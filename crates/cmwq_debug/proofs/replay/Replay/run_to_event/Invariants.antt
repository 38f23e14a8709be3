use Rattle.std.proofs.Common.{◌≡◌, ◌≤◌, None}
use Rattle.cmwq_debug.specs.Breaks.{lowest}
use Rattle.cmwq_debug.specs.Debugging.{is_event}
use Rattle.cmwq_debug.specs.Replaying.{HasGoneTo}
use Rattle.cmwq_debug.proofs.replay.Replay.run_to_event.Given as goal

-- the instructions up to here were carried out, and none printed a line
abbrev pub invariant-loop-step : goal.invariant-loop-step
invariant-loop-step g l = record {
  gone : HasGoneTo l.initial.self l._step l.self;
  forward : l.initial.self.position ≤ l._step;
  none : lowest (is_event l.initial.self.scenario l.initial.self.instrs l.initial.self.position) l._step ≡ None;
}
