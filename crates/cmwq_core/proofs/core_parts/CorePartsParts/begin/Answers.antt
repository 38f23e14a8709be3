use Rattle.std.proofs.Common.{ℕ, List, false, length, ap, ◌∙◌}
use Rattle.std.specs.Vec.{vec_capacity}
use Rattle.std.proofs.lemmas.List.{length-map, length-replicate}
use Rattle.cmwq_types.specs.declared.scenario.QueueDecl.{QueueDecl}
use Rattle.cmwq_core.proofs.CoverLemmas.{all_cover}
use Rattle.cmwq_core.proofs.KeptLemmas.{laid_begun}
use Rattle.cmwq_core.proofs.core_parts.CorePartsParts.begin.Goals as goal

pub invariant_of-result : goal.invariant_of-result
invariant_of-result c =
    let S = c.args.scenario.value in
    let stores = c.in_ok-works in
    let works = stores.field-0.works in
    let others = stores.field-0.others in
    let numbers = others.numbers in
    let max_long = ap (λ (ns : List ℕ). length ns) stores.ensures.max ∙ length-map S.queues (λ (queue : QueueDecl). queue.max) in
    let depth_long = ap (λ (ns : List ℕ). length ns) stores.ensures.depth ∙ length-replicate (length S.works) 0 in
    record {
      laid = laid_begun S works.queued works.running others.workers numbers.max.items numbers.depth.items (vec_capacity numbers.flushes) c.requires stores.ensures.scenario stores.ensures.idle stores.ensures.running stores.ensures.workers max_long depth_long stores.ensures.room;
      covered = all_cover works.queued works.running others.workers false c.all.result c.all.ensures;
    }
