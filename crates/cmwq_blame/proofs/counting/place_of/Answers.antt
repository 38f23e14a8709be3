use Rattle.std.proofs.Common.{ℕ, ◌+◌, ◌*◌, ◌<◌, subst, sym}
use Rattle.cmwq_blame.proofs.CountingLemmas.{place-within}
use Rattle.cmwq_blame.proofs.counting.place_of.Goals as goal

pub returns-clause-within : goal.returns-clause-within
returns-clause-within c =
    let n = c.args.works in
    subst (λ (k : ℕ). c.args.w * (n + 1) + k < n * (n + 1)) (sym c.column.ensures) (place-within n c.args.w c.args.other c.requires.below)
