use Rattle.std.proofs.Common.{rules, List, ℕ, ◌∙◌, ◌+◌, ◌*◌, ◌≡◌, ap, length, replicate, slice_index_or}
use Rattle.std.proofs.lemmas.List.{get_or-replicate, length-replicate}
use Rattle.cmwq_blame.proofs.CountingLemmas.{begun-is}
use Rattle.cmwq_blame.proofs.blame.Blame.open.Goals as goal

pub returns : goal.returns
returns c =
    let S = c.args.scenario.now in
    let n = c.len-works.result in
    let counts = c.in_ok-filled.field-0.items in
    let works : n ≡ length S.works = search rules in
    let zeros : counts ≡ replicate (n * (n + 1)) 0 = c.in_ok-filled.ensures in
    begun-is S n counts works (ap length zeros ∙ length-replicate (n * (n + 1)) 0)
    (λ k less. ap (λ (xs : List ℕ). slice_index_or xs k 0) zeros ∙ get_or-replicate (n * (n + 1)) k 0 0 less)
