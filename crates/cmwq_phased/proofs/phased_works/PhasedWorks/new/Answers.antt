use Rattle.std.proofs.Common.{rules, ◌≡◌, length}
use Rattle.cmwq_phased.proofs.ChangeLemmas.{indexed_made}
use Rattle.cmwq_phased.proofs.phased_works.PhasedWorks.new.Goals as goal

pub invariant_of-result : goal.invariant_of-result
invariant_of-result c =
    let S = c.args.scenario.value in
    let works : c.len-works.result ≡ length S.works = search rules in
    let queues : c.len-queues.result ≡ length S.queues = search rules in
    indexed_made S c.len-works.result c.len-queues.result c.from.result c.in_ok-filled.field-0.items c.in_ok-new.field-0 c.in_ok-new-2.field-0 c.in_ok-new-3.field-0
    c.requires.setting works queues c.from.ensures c.in_ok-filled.ensures c.in_ok-new.ensures.empty c.in_ok-new-2.ensures.empty c.in_ok-new-3.ensures
