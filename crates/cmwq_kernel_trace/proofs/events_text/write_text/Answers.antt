use Rattle.std.proofs.Common.{◌≡◌, length, rules, take}
use Rattle.std.proofs.lemmas.List.{take_all}
use Rattle.std.proofs.lemmas.Result.{err_from_is_err_and}
use Rattle.cmwq_kernel_trace.specs.KernelText.{event_line, text_head}
use Rattle.cmwq_kernel_trace.proofs.SendLemmas.{all-sent, one-more, stopped-at, stopped-before}
use Rattle.cmwq_kernel_trace.proofs.events_text.write_text.Goals as goal

pub returns-in_err-write-clause-err : goal.returns-in_err-write-clause-err
returns-in_err-write-clause-err g c =
    let p = err_from_is_err_and c.from_residual.result c.from_residual.ensures.1 in
    rw (p.1) (stopped-before g.W.Write.contents (text_head (length c.args.events.now) c.args.cpus) (event_line c.args.scenario.now) c.args.events.now c.args.lines.now c.write.new.self c.in_err-write.ensures.err)

pub returns-in_err-write-2-clause-err : goal.returns-in_err-write-2-clause-err
returns-in_err-write-2-clause-err g c =
    let p = err_from_is_err_and c.from_residual-in_err-write-2.result c.from_residual-in_err-write-2.ensures.1 in
    rw (p.1)
    (stopped-at g.W.Write.contents (text_head (length c.args.events.now) c.args.cpus) (event_line c.args.scenario.now) c.args.events.now c.args.lines.now c.loop-event.lines c.write-in-loop-event.new.self c.loop-event.event-index _
    c.loop-event-test.true c.loop-event.invariant.sent c.in_err-write-2.ensures.err)

pub loop-event-preserved : goal.loop-event-preserved
loop-event-preserved g c = record {
  same = search rules;
  sound = search rules;
  sent =
      one-more g.W.Write.contents (text_head (length c.args.events.now) c.args.cpus) (event_line c.args.scenario.now) c.args.events.now c.args.lines.now c.loop-event.lines c.write-in-loop-event.new.self c.loop-event.event-index _
      c.loop-event-test.true c.loop-event.invariant.sent c.in_ok-write-2.ensures.ok;
}

pub returns-clause-ok : goal.returns-clause-ok
returns-clause-ok g c =
    let events = c.args.events.now in
    let whole : take c.loop-event.event-index events ≡ events = take_all c.loop-event.event-index events (search rules) in
    all-sent g.W.Write.contents (text_head (length events) c.args.cpus) (event_line c.args.scenario.now) events c.args.lines.now c.loop-event.lines c.loop-event.event-index whole c.loop-event.invariant.sent
