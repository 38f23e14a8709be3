use Rattle.std.proofs.Common.{◌≡◌, ◌<◌, get_or, length, arith, rules, subst}
use Rattle.std.proofs.lemmas.Grind.{common_steps}
use Rattle.std.proofs.lemmas.List.Elements.{All-more, recursion_from_All}
use Rattle.std.specs.List.{All, AllByRecursion}
use Rattle.cmwq_types.specs.Contents.{WorkContents}
use Rattle.cmwq_types.specs.Values.{IsOp}
use Rattle.cmwq_list.proofs.listing.push_bodies.Goals as goal

pub loop-work-preserved : goal.loop-work-preserved
loop-work-preserved c =
    let told = λ (work : WorkContents). AllByRecursion IsOp work.body in
    let works = c.args.scenario.now.works in
    let i = c.loop-work.work-index in
    let x = c.work-item.result in
    let less : i < length works = search rules in
    let is : x ≡ get_or works i x = search rules in
    let same : c.deref.result.now ≡ x.body = search rules in
    record {
      text = grind (arith, common_steps);
      bodies = All-more told works i x less c.loop-work.invariant.bodies (subst told is (recursion_from_All IsOp x.body (subst (All IsOp) same c.in_ok-push_ops.ensures.ops)));
    }
