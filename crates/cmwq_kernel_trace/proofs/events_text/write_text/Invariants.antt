use Rattle.std.proofs.Common.{◌≡◌, ◌++◌, false, length, take}
use Rattle.std.specs.List.{flat_map}
use Rattle.cmwq_streams.specs.Blocks.{Sends, SharesSink, sink}
use Rattle.cmwq_kernel_trace.specs.KernelText.{event_line, text_head}
use Rattle.cmwq_kernel_trace.proofs.events_text.write_text.Given as goal

-- the head and the lines so far were sent
abbrev pub invariant-loop-event : goal.invariant-loop-event
invariant-loop-event g l = record {
  same : SharesSink l.fn.lines l.lines;
  sound : g.W.Sink.failed (sink l.lines) ≡ false;
  sent : Sends g.W.Write.contents l.fn.lines l.lines (text_head (length l.events) l.cpus ++ flat_map (event_line l.scenario) (take l.event-index l.events));
}
