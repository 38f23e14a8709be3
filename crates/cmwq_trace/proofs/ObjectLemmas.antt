-- What is told of a run makes its objects.
use Rattle.std.proofs.Common.{◌≡◌, ℕ, List, [], ◌∷◌, ◌++◌, codes, refl, sym, ap, ◌∙◌, append_assoc}
use Rattle.cmwq_types.specs.Contents.{ScenarioContents}
use Rattle.cmwq_types.specs.declared.instr.Instr.{Instr}
use Rattle.cmwq_table.specs.State.{State}
use Rattle.cmwq_table.specs.Table.{table}
use Rattle.cmwq_slices.specs.Executions.{executions_after}
use Rattle.cmwq_play.specs.Telling.{told_from}
use Rattle.cmwq_trace.specs.Lines.{event_field, objects_from, text_field, told_object, true_field}
use Rattle.cmwq_trace.specs.declared.line_trace.ObjectTeller.{ObjectTeller}

pub objects-told : (teller : ObjectTeller) (S : ScenarioContents) (s : State) (instrs : List Instr)
    → told_from (λ (teller : ObjectTeller) S s instr. told_object S teller.executions instr (table S s instr)) (λ teller S s instr. record teller { executions = executions_after (table S s instr).0 (table S s instr).1 teller.executions }) teller S s instrs
    ≡ objects_from S teller.executions s instrs
objects-told teller S s [] = refl
objects-told teller S s (i ∷ is) =
    ap (λ (more : List ℕ). told_object S teller.executions i (table S s i) ++ more)
    (objects-told (record teller { executions = executions_after (table S s i).0 (table S s i).1 teller.executions }) S (table S s i).0 is)

-- where a work is, as it is written
pub found-text : (work place run : List ℕ)
    → codes ",\"event\":\"state\",\"work\":\"" ++ (work ++ (codes "\",\"pending\":\"" ++ (place ++ (codes "\",\"running\":\"" ++ (run ++ codes "\"")))))
    ≡ event_field (codes "state") ++ (text_field (codes "work") work ++ (text_field (codes "pending") place ++ text_field (codes "running") run))
found-text work place run =
    sym (ap (λ (text : List ℕ). codes ",\"event\":\"state\",\"work\":\"" ++ text)
    (append_assoc work (codes "\"") (text_field (codes "pending") place ++ text_field (codes "running") run)
    ∙ ap (λ (text : List ℕ). work ++ (codes "\",\"pending\":\"" ++ text)) (append_assoc place (codes "\"") (text_field (codes "running") run))))
