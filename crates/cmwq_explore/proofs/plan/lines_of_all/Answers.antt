use Rattle.std.proofs.Common.{◌≡◌, ◌+◌, arith, ap, sym, ◌∙◌, ◌++◌, ◌∷◌, [], length, map, take, Err}
use Rattle.std.proofs.lemmas.List.{map_more}
use Rattle.cmwq_types.specs.Contents.{ActorContents}
use Rattle.cmwq_orders.specs.Orders.{lines_of}
use Rattle.cmwq_explore.proofs.PlanLemmas.{count_more, count_within}
use Rattle.cmwq_explore.specs.declared.plan.PlanError.TheVariants.{Full}
use Rattle.cmwq_explore.proofs.plan.lines_of_all.Goals as goal

pub returns-in-Err-clause-full : goal.returns-in-Err-clause-full
returns-in-Err-clause-full c full =
    let same_why : c.in-Err.why ≡ Full = cc in
    let less = c.in-Err.ensures.full (ap Err same_why) in
    let one = count_more c.args.actors.now c.loop-actor.actor-index c.actor-item.result c.loop-actor-test.true in
    let within = count_within c.args.actors.now (c.loop-actor.actor-index + 1) in
    let same = ap (λ (a : ActorContents). length (lines_of a)) c.actor-item.is in
    let room = c.loop-actor.invariant.room in
    omega (arith, less, one, within, same, room)

pub loop-actor-preserved : goal.loop-actor-preserved
loop-actor-preserved c =
    let one = count_more c.args.actors.now c.loop-actor.actor-index c.actor-item.result c.loop-actor-test.true in
    let same = ap (λ (a : ActorContents). length (lines_of a)) c.actor-item.is in
    let room = c.loop-actor.invariant.room in
    let fits = c.in-Ok.ensures.few in
    let long : c.len-room.result ≡ length (lines_of c.actor-item.result) = c.len-room.ensures ∙ ap length c.in-Ok.ensures.lines in
    record {
      lines = c.in_ok-put-in-Ok.ensures
          ∙ (λ i. c.loop-actor.invariant.lines i ++ (c.in-Ok.ensures.lines i ∷ []))
          ∙ sym (map_more lines_of c.args.actors.now c.loop-actor.actor-index c.actor-item.result c.loop-actor-test.true ∙ ap (λ (a : ActorContents). map lines_of (take c.loop-actor.actor-index c.args.actors.now) ++ lines_of a ∷ []) (sym c.actor-item.is));
      room = omega (arith, one, same, room, fits, long);
    }
