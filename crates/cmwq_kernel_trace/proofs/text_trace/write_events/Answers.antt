use Rattle.std.proofs.Common.{[], ◌∙◌}
use Rattle.cmwq_types.specs.Scenario.{expand}
use Rattle.cmwq_table.specs.State.{start}
use Rattle.cmwq_table.specs.Table.{table}
use Rattle.cmwq_play.proofs.CommandLemmas.{writes_more}
use Rattle.cmwq_play.specs.Framing.{IsTextBy, framed_text}
use Rattle.cmwq_kernel_trace.specs.KernelText.{events_text, ftrace_text}
use Rattle.cmwq_kernel_trace.specs.TextParts.{keeps_text}
use Rattle.cmwq_kernel_trace.specs.declared.text_trace.TextTeller.{TextTeller}
use Rattle.cmwq_kernel_trace.proofs.TextLemmas.{begun-fits, framed-begun}
use Rattle.cmwq_kernel_trace.proofs.text_trace.write_events.Goals as goal

pub load_and_frame-requires-clause-fits : goal.load_and_frame-requires-clause-fits
load_and_frame-requires-clause-fits g c = begun-fits c.args.scenario c.in_ok-teller.teller c.in_ok-teller.ensures

pub returns-clause-writes : goal.returns-clause-writes
returns-clause-writes g c =
    let S = c.args.scenario in
    let teller : TextTeller = c.in_ok-teller.teller in
    writes_more
    (IsTextBy (λ S instrs. framed_text (λ (teller : TextTeller) S s instr. []) (λ teller S s instr. keeps_text teller S s instr (table S s instr)) (λ teller S. []) (λ teller S s. events_text S teller.events.events) teller S (start S) instrs) S)
    (IsTextBy ftrace_text S) (g.W.Write.contents c.args.writer.now) (g.W.Write.contents c.load_and_frame.new.writer) (g.W.Sink.failed c.load_and_frame.new.writer) c.load_and_frame.result
    (λ output is. (is.0, is.1, is.2 ∙ framed-begun teller S (expand is.0) c.in_ok-teller.ensures)) c.load_and_frame.ensures.writes
