use Rattle.std.proofs.Common.{refl}
use Rattle.cmwq_explore.proofs.SearchLemmas.{begins_by}
use Rattle.cmwq_explore.proofs.exploring.begin.Goals as goal

pub returns : goal.returns
returns g c =
    begins_by c.args.plan.now.value c.in_ok-start.start.plan c.args.plan.now.value c.args.question c.args.seen.now c.add.new.self c.in_ok-start.start.explored
    c.in_ok-stored.stored c.in_ok-mark.mark c.requires.none c.in_ok-add.ensures.added c.in_ok-stored.ensures c.in_ok-start.ensures.start c.in_ok-start.ensures.plan refl
    c.in_ok-mark.ensures.noted c.in_ok-mark.ensures.depth
