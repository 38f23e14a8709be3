-- The sentence of the form and of the goal.
use Rattle.std.proofs.Common.{◌∙◌, ◌++◌, List, ap, ℕ}
use Rattle.std.specs.Prelude.{codes}
use Rattle.std.proofs.lemmas.Result.{IfOk-weaker}
use Rattle.cmwq_remarks.specs.Traps.{count_sentence}
use Rattle.cmwq_remarks.proofs.traps.until_sentence.Goals as goal

pub returns : goal.returns
returns c =
    let form = c.deref.ensures.value ∙ c.in_ok-form.ensures in
    let to = c.deref-2.ensures.value ∙ c.in_ok-goal.ensures in
    let same = ap (λ (x : List ℕ). count_sentence x c.deref-2.result.now) form ∙ ap (λ (x : List ℕ). count_sentence (codes "until " ++ c.args.time.now) x) to in
    IfOk-weaker c.count_sentence.result _ _ (λ said is. is ∙ same) c.count_sentence.ensures
