use Rattle.std.proofs.Common.{◌≡◌, ◌∙◌, ◌-◌, Some, arith, rules, sym, ap, suc, slice_index_or}
use Rattle.cmwq_debug.specs.declared.checkpoints.Checkpoint.{Checkpoint}
use Rattle.cmwq_debug.proofs.CheckpointLemmas.{last-below, last-near, none-near}
use Rattle.cmwq_debug.proofs.checkpoints.Checkpoints.nearest.Goals as goal

pub returns-in-0-clause-nearest : goal.returns-in-0-clause-nearest
returns-in-0-clause-nearest g c =
    sym (none-near c.args.position c.count_up_to.result c.args.self.now.checkpoints c.count_up_to.ensures.up_to c.count_up_to.ensures.above c.in-0.is)

pub returns-in_default-clause-nearest : goal.returns-in_default-clause-nearest
returns-in_default-clause-nearest g c =
    let more : c.count_up_to.result ≡ suc (c.count_up_to.result - 1) = omega arith in
    let held : c.self.inside.held.items ≡ c.args.self.now.checkpoints = search rules in
    let there : c.index.result.now ≡ slice_index_or c.args.self.now.checkpoints (c.count_up_to.result - 1) c.index.result.now = rw (← held) c.index.ensures in
    ap (λ (e : Checkpoint g.row.M.Denot). Some e.at) there
    ∙ sym (last-near c.args.position c.count_up_to.result (c.count_up_to.result - 1) c.args.self.now.checkpoints c.index.result.now
    c.count_up_to.ensures.up_to c.count_up_to.ensures.above more c.count_up_to.ensures.within)

pub returns-in_default-clause-below : goal.returns-in_default-clause-below
returns-in_default-clause-below g c =
    let more : c.count_up_to.result ≡ suc (c.count_up_to.result - 1) = omega arith in
    let held : c.self.inside.held.items ≡ c.args.self.now.checkpoints = search rules in
    let there : c.index.result.now ≡ slice_index_or c.args.self.now.checkpoints (c.count_up_to.result - 1) c.index.result.now = rw (← held) c.index.ensures in
    let below = last-below c.args.position c.count_up_to.result (c.count_up_to.result - 1) c.args.self.now.checkpoints c.index.result.now
    c.count_up_to.ensures.up_to more c.count_up_to.ensures.within in
    omega (arith, below, ap (λ (e : Checkpoint g.row.M.Denot). e.at) there)
