use Rattle.std.proofs.Common.{◌≡◌, ℕ, ◌<◌, List, get_or, length, arith, rules, subst}
use Rattle.std.proofs.lemmas.Grind.{common_steps}
use Rattle.std.proofs.lemmas.List.Elements.{All-more, recursion_from_All}
use Rattle.std.specs.List.{All}
use Rattle.std.specs.Prelude.{IsTrue}
use Rattle.cmwq_types.specs.Name.{is_name}
use Rattle.cmwq_types.specs.Values.{IsActor, IsLine}
use Rattle.cmwq_list.proofs.listing.push_actors.Goals as goal

pub loop-actor-preserved : goal.loop-actor-preserved
loop-actor-preserved c =
    let actors = c.args.scenario.now.actors in
    let i = c.loop-actor.actor-index in
    let x = c.actor-item.result in
    let less : i < length actors = search rules in
    let is : x ≡ get_or actors i x = search rules in
    let named : c.as_bytes.result.now ≡ x.name = search rules in
    let same : c.deref.result.now ≡ x.lines = search rules in
    let here : IsActor x = record {
      name = subst (λ (name : List ℕ). IsTrue (is_name name)) named c.as_bytes.ensures.name;
      lines = recursion_from_All IsLine x.lines (subst (All IsLine) same c.in_ok-push_lines.ensures.lines);
    } in
    record {
      text = grind (arith, common_steps);
      actors = All-more IsActor actors i x less c.loop-actor.invariant.actors (subst IsActor is here);
    }
