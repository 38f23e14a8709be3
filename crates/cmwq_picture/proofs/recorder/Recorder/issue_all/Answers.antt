use Rattle.std.proofs.Common.{◌≡◌, ◌∷◌, List, ap, rules, sym, ◌∙◌}
use Rattle.std.proofs.lemmas.Result.{err_from_is_err_and}
use Rattle.cmwq_runs.specs.RunInstructions.{left}
use Rattle.cmwq_types.specs.declared.instr.Instr.{Instr}
use Rattle.cmwq_picture.specs.Recording.{issued_all, overflows}
use Rattle.cmwq_picture.proofs.RecordingLemmas.{overflows-stays}
use Rattle.cmwq_picture.proofs.recorder.Recorder.issue_all.Goals as goal

pub returns-in_err-issue-clause-wide : goal.returns-in_err-issue-clause-wide
returns-in_err-issue-clause-wide g c =
    let next : left c.loop-instr.instr-iterator ≡ c.in-Some.instr ∷ left c.next.new.self = search rules in
    let whole = ap (λ (is : List Instr). issued_all c.loop-instr.self is) (sym next) ∙ c.loop-instr.invariant in
    let p = err_from_is_err_and c.from_residual.result c.from_residual.ensures.1 in
    rw (p.1, p.2) (λ wide. ap overflows (sym whole) ∙ overflows-stays _ (left c.next.new.self) (c.in_err-issue.ensures.wide wide))
