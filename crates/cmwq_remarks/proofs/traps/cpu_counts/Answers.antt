-- The number of CPUs stands before the words, and the missing one behind them.
use Rattle.std.proofs.Common.{◌∙◌, ◌++◌, List, ap, ℕ}
use Rattle.std.specs.Fmt.{decimal}
use Rattle.std.specs.Prelude.{codes}
use Rattle.std.proofs.lemmas.Result.{IfOk-weaker}
use Rattle.cmwq_remarks.proofs.traps.cpu_counts.Goals as goal

pub returns : goal.returns
returns c =
    let there = codes " and CPUs count from 0, so there is no CPU " in
    let count = c.as_bytes.ensures.value ∙ c.format.ensures.text in
    let missing = c.deref.ensures.value ∙ c.in_ok-missing.ensures in
    let same = ap (λ (x : List ℕ). x ++ (there ++ c.deref.result.now)) count ∙ ap (λ (x : List ℕ). decimal c.args.cpus ++ (there ++ x)) missing in
    IfOk-weaker c.joined.result _ _ (λ said is. is ∙ same) c.joined.ensures
