use Rattle.std.proofs.Common.{◌≡◌, get_or, length, ◌<◌, ◌^◌, arith, rules, subst}
use Rattle.std.proofs.lemmas.Grind.{common_steps}
use Rattle.std.proofs.lemmas.List.Elements.{All-more}
use Rattle.std.specs.Prelude.{IsTrue}
use Rattle.cmwq_types.specs.Contents.{WorkContents}
use Rattle.cmwq_types.specs.Name.{is_name}
use Rattle.cmwq_list.proofs.listing.push_works.Goals as goal

pub loop-work-preserved : goal.loop-work-preserved
loop-work-preserved c =
    let named = λ (work : WorkContents). IsTrue (is_name work.name) in
    let queued = λ (work : WorkContents). work.queue.0 < 2 ^ 8 in
    let works = c.args.scenario.now.works in
    let less : c.loop-work.work-index < length works = search rules in
    let is : c.work-item.result ≡ get_or works c.loop-work.work-index c.work-item.result = search rules in
    let i = c.loop-work.work-index in
    let x = c.work-item.result in
    record {
      text = grind (arith, common_steps);
      names = All-more named works i x less c.loop-work.invariant.names (subst named is (search rules));
      queues = All-more queued works i x less c.loop-work.invariant.queues (subst queued is (search rules));
    }
