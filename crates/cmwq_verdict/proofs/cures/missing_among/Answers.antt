use Rattle.std.proofs.Common.{◌∙◌}
use Rattle.cmwq_verdict.proofs.CureLemmas.{missing-first, on-ok}
use Rattle.cmwq_verdict.proofs.cures.missing_among.Goals as goal

pub returns-in-len1-up : goal.returns-in-len1-up
returns-in-len1-up c =
    let first = missing-first c.args.next c.args.words.now c.first-item.result c.bytes.result.now c.in-len1-up.len_at_least c.first-item.is c.bytes.ensures in
    on-ok c.missing_behind.result c.missing_behind.ensures (λ said is. is ∙ first)
