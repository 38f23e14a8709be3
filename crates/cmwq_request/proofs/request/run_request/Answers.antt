use Rattle.std.proofs.Common.{rules, ap, ap₂, codes, ◌∷◌, ◌≡◌, ◌∙◌, Bool, Some}
use Rattle.clap.specs.Words.{Text}
use Rattle.cmwq_tasks.specs.declared.task.RunKind.{RunKind}
use Rattle.cmwq_request.specs.Request.{kind_of_run, strict_arguments}
use Rattle.cmwq_request.proofs.RequestLemmas.{kind_met, run_met}
use Rattle.cmwq_request.proofs.request.run_request.Goals as goal

pub returns-clause-words : goal.returns-clause-words
returns-clause-words c asked is =
    let (strict, kind, name, strict_is, kind_is, file_is, words_are) = run_met _ _ _ asked is in
    let (settle, tell, settle_is, tell_is, of_both) = kind_met _ _ kind kind_is in
    let met : c.run_kind-kind.result ≡ kind = c.run_kind-kind.ensures ∙ ap₂ kind_of_run (c.flag_of.ensures settle settle_is) (c.flag_of-2.ensures tell tell_is) ∙ of_both in
    let named : c.in_ok-file.file.now ≡ name = search rules in
    ap Some
    (c.run_of.ensures.words
    ∙ ap₂ (λ (s : Bool) (k : RunKind). codes "run" ∷ strict_arguments s k c.in_ok-file.file.now) (c.flag_of-3.ensures strict strict_is) met
    ∙ ap (λ (n : Text). codes "run" ∷ strict_arguments strict kind n) named
    ∙ words_are)
