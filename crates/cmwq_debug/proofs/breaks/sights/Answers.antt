use Rattle.std.proofs.Common.{◌≡◌, ◌<◌, ◌∙◌, ◌∷◌, ◌++◌, List, None, [], ap, arith, length, map, sym, take}
use Rattle.std.proofs.lemmas.List.{length-set, map_more, take_all, take_more_set}
use Rattle.cmwq_debug.specs.Breaks.{seen}
use Rattle.cmwq_debug.specs.declared.breaks.Sight.{Sight}
use Rattle.cmwq_debug.proofs.breaks.sights.Goals as goal

pub loop-place-preserved : goal.loop-place-preserved
loop-place-preserved g c =
    let sees = seen (g.M.Reads.state c.args.machine.now) in
    let sights = c.loop-place.sights in
    let breaks = c.args.breaks.now in
    let k = c.loop-place.place in
    let within : k < length sights = omega (arith, c.loop-place.invariant.long, c.loop-place-test.true) in
    let there : k < length breaks = omega (arith, c.told-breaks, c.loop-place-test.true) in
    record {
      long = length-set sights k c.seen.result ∙ c.loop-place.invariant.long;
      done = take_more_set sights k c.seen.result within ∙ ap (λ (before : List Sight). before ++ c.seen.result ∷ []) c.loop-place.invariant.done
          ∙ ap (λ (one : Sight). map sees (take k breaks) ++ one ∷ []) c.seen.ensures ∙ sym (map_more sees breaks k None there);
    }

pub returns : goal.returns
returns g c =
    let sees = seen (g.M.Reads.state c.args.machine.now) in
    let sights = c.loop-place.sights in
    let breaks = c.args.breaks.now in
    let k = c.loop-place.place in
    let all : take k sights ≡ sights = take_all k sights (omega (arith, c.loop-place.invariant.long, c.loop-place-test.false)) in
    let each : take k breaks ≡ breaks = take_all k breaks (omega (arith, c.told-breaks, c.loop-place-test.false)) in
    sym all ∙ c.loop-place.invariant.done ∙ ap (map sees) each
