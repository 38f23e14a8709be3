-- The steps stand behind the count.
use Rattle.std.proofs.Common.{◌∙◌, ◌++◌, List, ap, append_assoc, string_bytes, ℕ}
use Rattle.std.specs.Prelude.{codes}
use Rattle.std.proofs.lemmas.Result.{IfOk-equal}
use Rattle.cmwq_remarks.specs.Remarks.{counted, steps_words}
use Rattle.cmwq_remarks.proofs.remarked.push_spent_words.Goals as goal

pub returns : goal.returns
returns c =
    let steps = steps_words c.args.steps in
    let count = counted c.args.count (codes " instruction was refused as Spent; steps is ") (codes " instructions were refused as Spent; steps is ") in
    IfOk-equal c.push_steps.result _ _ _ c.push_steps.ensures (ap (λ (x : List ℕ). x ++ steps) c.in_ok-push_count.ensures ∙ append_assoc (string_bytes c.args.told.now) count steps)
