use Rattle.std.proofs.Common.{◌∙◌, List, Ok, ap, sym}
use Rattle.cmwq_types.specs.declared.scenario.Op.{Op}
use Rattle.cmwq_grammar.specs.Stages as stage
use Rattle.cmwq_asm.specs.TextStages.{stage_in_body}
use Rattle.cmwq_asm.proofs.TextLemmas.{judged, leads_further}
use Rattle.cmwq_asm.proofs.operations.read_operations.Goals as goal

pub loop-next-preserved : goal.loop-next-preserved
loop-next-preserved c =
    let next = c.in-Some.next in
    let body = c.loop-next.body in
    let parts = c.in-Some.ensures.utf8 c.loop-next.invariant.text in
    let taken =
    judged (stage_in_body body) _ next.line.now next.worded.now parts.0 c.in-Some.ensures.worded c.in-Some-operation_of.ensures
    ∙ ap (λ (ops : List Op). Ok (stage.Body body.bodies.told body.bodies.done ops)) (sym c.in_ok-push-in-Some-operation_of.ensures.items) in
    record {
      lines =
          leads_further c.args.text.now (stage_in_body c.args.body.now) c.loop-next.rest.now c.loop-next.count (stage_in_body body) _ next.line.now next.behind.now
          c.loop-next.invariant.lines c.in-Some.ensures.lines c.in-Some.ensures.ends taken;
      text = parts.1;
    }
