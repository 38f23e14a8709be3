use Rattle.std.proofs.Common.{◌≡◌, ◌∙◌, ◌-◌, ap, arith, false, nat_eq, nat_lt, rules, slice_index_or, suc, sym}
use Rattle.std.proofs.lemmas.Bool.Decides.{nat_tests}
use Rattle.cmwq_debug.specs.Checkpoints.{AreRising}
use Rattle.cmwq_debug.specs.declared.checkpoints.Checkpoint.{Checkpoint}
use Rattle.cmwq_debug.proofs.CheckpointLemmas.{held-nowhere, held-where-last}
use Rattle.cmwq_debug.proofs.checkpoints.Checkpoints.is_held.Goals as goal

pub returns-then-count-gt0 : goal.returns-then-count-gt0
returns-then-count-gt0 g c =
    let n = c.count_up_to-count.result in
    let k = c.args.position in
    let more : n ≡ suc (n - 1) = omega arith in
    let held : c.self.inside.held.items ≡ c.args.self.now.checkpoints = search rules in
    let rising : AreRising c.args.self.now.checkpoints = rw (← held) c.self.invariant.rising in
    let there : c.index.result.now ≡ slice_index_or c.args.self.now.checkpoints (n - 1) c.index.result.now = rw (← held) c.index.ensures in
    ap (λ (e : Checkpoint g.row.M.Denot). nat_eq e.at k) there
    ∙ held-where-last k n (n - 1) c.index.result.now c.args.self.now.checkpoints rising c.count_up_to-count.ensures.up_to c.count_up_to-count.ensures.above c.count_up_to-count.ensures.within more

pub returns-else-count-gt0 : goal.returns-else-count-gt0
returns-else-count-gt0 g c =
    let none : c.count_up_to-count.result ≡ 0 = omega arith in
    let no : nat_lt 0 c.count_up_to-count.result ≡ false = grind (arith, nat_tests, none) in
    no ∙ sym (held-nowhere c.args.position c.count_up_to-count.result c.args.self.now.checkpoints c.count_up_to-count.ensures.above none)
