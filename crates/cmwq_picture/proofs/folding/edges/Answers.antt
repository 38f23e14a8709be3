use Rattle.std.proofs.Common.{◌≡◌, ◌+◌, ◌<◌, ◌^◌, ap, length, subst, sym, ◌∙◌}
use Rattle.cmwq_picture.specs.Column.{ColumnContents}
use Rattle.cmwq_picture.specs.Stretches.{spread}
use Rattle.cmwq_picture.proofs.StretchLemmas.{spread-stretches}
use Rattle.cmwq_picture.proofs.folding.edges.Goals as goal

pub push_stretches-requires : goal.push_stretches-requires
push_stretches-requires c =
    let same : spread c.stretches.result.now ≡ c.args.columns.now = ap spread c.stretches.ensures ∙ spread-stretches c.args.columns.now in
    subst (λ cs. 0 < length cs → c.args.from + length cs < 2 ^ 64) (sym same) c.requires
