use Rattle.std.proofs.Common.{◌≡◌, rules, subst}
use Rattle.std.proofs.lemmas.List.Elements.{recursion_from_All}
use Rattle.std.specs.List.{All}
use Rattle.cmwq_types.specs.Values.{IsActor, IsQueueDecl}
use Rattle.cmwq_list.proofs.ListingLemmas.{works_are}
use Rattle.cmwq_list.proofs.listing.listing_of.Goals as goal

pub returns-clause-scenario : goal.returns-clause-scenario
returns-clause-scenario c =
    let S = c.args.scenario.now in
    let queues : c.deref.result.now ≡ S.queues = search rules in
    record {
      cpus = search rules;
      workers = search rules;
      steps = search rules;
      flushes = search rules;
      queues = recursion_from_All IsQueueDecl S.queues (subst (All IsQueueDecl) queues c.in_ok-push_queues.ensures.queues);
      works = works_are S.works c.in_ok-push_works.ensures.names c.in_ok-push_works.ensures.queues c.in_ok-push_bodies.ensures.bodies;
      actors = recursion_from_All IsActor S.actors c.in_ok-push_actors.ensures.actors;
    }
