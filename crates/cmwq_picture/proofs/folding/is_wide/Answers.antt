use Rattle.std.proofs.Common.{◌≡◌, ◌+◌, ap, length, rules, sym, ◌∙◌}
use Rattle.cmwq_picture.specs.Folding.{stretches_of, ticks_drawn}
use Rattle.cmwq_picture.proofs.StretchLemmas.{is_wide-edges}
use Rattle.cmwq_picture.proofs.folding.is_wide.Goals as goal

pub returns : goal.returns
returns c = is_wide-edges c.args.span c.args.columns.now c.in_ok-edges.edges.items c.len.result (search rules) c.in_ok-edges.ensures (search rules)
