use Rattle.std.proofs.Common.{◌≡◌, length, arith, rules}
use Rattle.cmwq_lines.proofs.PutLemmas.{puts_front}
use Rattle.cmwq_lines.proofs.short.Short.put.Goals as goal

pub returns-clause-text : goal.returns-clause-text
returns-clause-text c =
    let long : length c.self.inside.bytes ≡ 24 = search rules in
    rw (c.copy_from_slice.ensures.after, ← c.self.view_is)
    (puts_front c.args.block.now c.args.at _ c.self.inside.bytes c.self.inside.len (omega (arith, long, c.requires)) (omega (arith, long)) (omega (arith, long, c.self.invariant)))
