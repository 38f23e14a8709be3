use Rattle.std.proofs.Common.{◌-◌, ◌∙◌, ℕ, List, ap, take}
use Rattle.cmwq_grammar.specs.Cutting.{lines_of}
use Rattle.cmwq_grammar.specs.Meaning.{fault_at, stage_after}
use Rattle.cmwq_grammar.specs.Offers.{next_offered}
use Rattle.cmwq_grammar.specs.Stages.{Start}
use Rattle.cmwq_verdict.proofs.FrontLemmas.{front_lines, next_is, not_told, reached}
use Rattle.cmwq_verdict.proofs.offers.next_at.Goals as goal

pub unreachable-requires : goal.unreachable-requires
unreachable-requires c =
    let text = c.args.text.now in
    let at = reached text (fault_at c.args.line c.requires.fault.0) c.requires.line c.requires.fault.1 in
    let front = ap lines_of (c.split_at.ensures.front ∙ ap (λ (n : ℕ). take n text) c.line_start-start.ensures.start) ∙ front_lines (c.args.line - 1) text in
    let read = ap (λ (ls : List (List ℕ)). stage_after 1 ls Start) front ∙ at.is in
    not_told c.next_after.result (next_offered at.stage) c.in-Err-At.field-0 c.in-Err-At.field-0-0 c.in-Err-At.field-0-1 (c.next_after.ensures at.stage read) c.in-Err-At.is c.in-Err-At.field-0-is

pub returns-in-Ok : goal.returns-in-Ok
returns-in-Ok c =
    let text = c.args.text.now in
    let at = reached text (fault_at c.args.line c.requires.fault.0) c.requires.line c.requires.fault.1 in
    let front = ap lines_of (c.split_at.ensures.front ∙ ap (λ (n : ℕ). take n text) c.line_start-start.ensures.start) ∙ front_lines (c.args.line - 1) text in
    let read = ap (λ (ls : List (List ℕ)). stage_after 1 ls Start) front ∙ at.is in
    let next = next_is c.next_after.result (next_offered at.stage) c.in-Ok.next (c.next_after.ensures at.stage read) c.in-Ok.is in
    (at.stage, at.is, next)
