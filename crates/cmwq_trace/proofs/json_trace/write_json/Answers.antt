use Rattle.std.proofs.Common.{None, ◌∙◌}
use Rattle.cmwq_types.specs.Scenario.{expand}
use Rattle.cmwq_table.specs.State.{start}
use Rattle.cmwq_table.specs.Table.{table}
use Rattle.cmwq_play.proofs.CommandLemmas.{writes_more}
use Rattle.cmwq_play.specs.Framing.{IsTextBy, framed_text}
use Rattle.cmwq_trace.specs.Json.{json_text}
use Rattle.cmwq_trace.specs.JsonParts.{json_closing, json_opening, json_told, keeps_json}
use Rattle.cmwq_trace.specs.declared.json_trace.JsonTeller.{JsonTeller}
use Rattle.cmwq_trace.proofs.JsonLemmas.{framed-json}
use Rattle.cmwq_trace.proofs.json_trace.write_json.Goals as goal

pub returns-clause-writes : goal.returns-clause-writes
returns-clause-writes g c =
    let S = c.args.scenario in
    let teller : JsonTeller = record { alloc = c.args.alloc; run = c.in_ok-begin.field-0; steady = None } in
    writes_more
    (IsTextBy (λ S instrs. framed_text (λ (teller : JsonTeller) S s instr. json_told S teller.run s (table S s instr)) (λ teller S s instr. keeps_json teller S s (table S s instr)) (λ teller S. json_opening S) (λ teller S s. json_closing S teller.run s.time) teller S (start S) instrs) S)
    (IsTextBy json_text S) (g.W.Write.contents c.args.writer.now) (g.W.Write.contents c.load_and_frame.new.writer) (g.W.Sink.failed c.load_and_frame.new.writer) c.load_and_frame.result
    (λ output is. (is.0, is.1, is.2 ∙ framed-json S teller c.in_ok-begin.ensures (expand is.0))) c.load_and_frame.ensures.writes
