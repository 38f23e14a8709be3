use Rattle.std.proofs.Common.{◌≡◌, List, Option, ap, length, rules, ◌∙◌}
use Rattle.cmwq_types.specs.Scenario.{expand}
use Rattle.cmwq_table.specs.State.{start}
use Rattle.cmwq_table.specs.Table.{table}
use Rattle.cmwq_slices.specs.Executions.{executions_after, no_executions}
use Rattle.cmwq_slices.specs.declared.executions.OpenExecution.{OpenExecution}
use Rattle.cmwq_play.specs.Telling.{IsToldOf}
use Rattle.cmwq_play.proofs.CommandLemmas.{writes_more}
use Rattle.cmwq_play.specs.Framing.{IsTextBy}
use Rattle.cmwq_trace.specs.Lines.{objects_from, objects_text, told_object}
use Rattle.cmwq_trace.specs.declared.line_trace.ObjectTeller.{ObjectTeller}
use Rattle.cmwq_trace.proofs.ObjectLemmas.{objects-told}
use Rattle.cmwq_trace.proofs.line_trace.write_objects.Goals as goal

pub returns-clause-writes : goal.returns-clause-writes
returns-clause-writes g c =
    let S = c.args.scenario in
    let teller : ObjectTeller = record { executions = c.in_ok-none.field-0 } in
    let begun : teller.executions ≡ no_executions (length S.works) = search rules in
    writes_more
    (IsToldOf (λ (teller : ObjectTeller) S s instr. told_object S teller.executions instr (table S s instr)) (λ teller S s instr. record teller { executions = executions_after (table S s instr).0 (table S s instr).1 teller.executions }) teller S)
    (IsTextBy objects_text S) (g.W.Write.contents c.args.writer.now) (g.W.Write.contents c.load_and_tell.new.writer) (g.W.Sink.failed c.load_and_tell.new.writer) c.load_and_tell.result
    (λ output is. (is.0, is.1, is.2 ∙ objects-told teller S (start S) (expand is.0) ∙ ap (λ (executions : List (Option OpenExecution)). objects_from S executions (start S) (expand is.0)) begun)) c.load_and_tell.ensures.writes
