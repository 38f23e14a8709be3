use Rattle.std.proofs.Common.{◌≡◌, ◌++◌, List, ℕ, ap, ◌∙◌}
use Rattle.std.specs.Prelude.{codes}
use Rattle.cmwq_verdict.proofs.CureLemmas.{on-ok}
use Rattle.cmwq_verdict.proofs.cures.bodiless_words.Goals as goal

pub returns : goal.returns
returns c =
    let work = c.args.work.now in
    let end : c.deref.result.now ≡ work ++ codes ", its operations and finish come before the actors" = c.deref.ensures.value ∙ c.in_ok-end.ensures in
    let named = c.deref-2.ensures.value ∙ c.in_ok-named.ensures ∙ ap (λ (x : List ℕ). codes " has no body: body " ++ x) end in
    let about = c.deref-3.ensures.value ∙ c.in_ok-about.ensures ∙ ap (λ (x : List ℕ). work ++ x) named in
    on-ok c.joined-4.result c.joined-4.ensures (λ words is. is ∙ ap (λ (x : List ℕ). codes "work " ++ x) about)
