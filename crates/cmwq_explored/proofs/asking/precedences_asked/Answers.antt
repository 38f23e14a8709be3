use Rattle.std.proofs.Common.{◌∙◌, ◌+◌, List, Result, ap, arith, drop, inl, sym}
use Rattle.cmwq_exploration.specs.declared.exploration.Precedence.{Precedence}
use Rattle.cmwq_orders.specs.declared.choice.Before.{Before}
use Rattle.cmwq_explored.specs.Asking.{precedence_asked, precedences_asked, put_before}
use Rattle.cmwq_explored.specs.declared.error.ExploreError.{ExploreError}
use Rattle.cmwq_explored.proofs.AskingLemmas.{all_put, all_refused, asked_from, drop_all, put_all, put_more}
use Rattle.cmwq_explored.proofs.asking.precedences_asked.Goals as goal

pub loop-pair-preserved : goal.loop-pair-preserved
loop-pair-preserved c =
    let S = c.args.scenario.now in
    let rest = precedences_asked S (drop (c.loop-pair.pair-index + 1) c.args.pairs.now) in
    c.loop-pair.invariant
    ∙ ap (λ (r : Result (List Before) ExploreError). put_all c.loop-pair.before.items r)
    (asked_from S c.args.pairs.now c.loop-pair.pair-index _ c.loop-pair-test.true
    ∙ ap (λ (r : Result Before ExploreError). put_before r rest) (sym c.precedence_asked.ensures ∙ c.in-Ok.is))
    ∙ sym (put_more c.loop-pair.before.items c.in-Ok.one rest)
    ∙ ap (λ (bs : List Before). put_all bs rest) (sym c.in_ok-push-in-Ok.ensures.items)

pub returns-in-Err-clause-why : goal.returns-in-Err-clause-why
returns-in-Err-clause-why c =
    let S = c.args.scenario.now in
    let rest = precedences_asked S (drop (c.loop-pair.pair-index + 1) c.args.pairs.now) in
    inl (c.loop-pair.invariant
    ∙ ap (λ (r : Result (List Before) ExploreError). put_all c.loop-pair.before.items r)
    (asked_from S c.args.pairs.now c.loop-pair.pair-index _ c.loop-pair-test.true
    ∙ ap (λ (r : Result Before ExploreError). put_before r rest) (sym c.precedence_asked.ensures ∙ c.in-Err.is))
    ∙ all_refused c.loop-pair.before.items c.in-Err.why)

pub returns-clause-before : goal.returns-clause-before
returns-clause-before c =
    let S = c.args.scenario.now in
    c.loop-pair.invariant
    ∙ ap (λ (ps : List Precedence). put_all c.loop-pair.before.items (precedences_asked S ps)) (drop_all c.args.pairs.now c.loop-pair.pair-index (omega arith))
    ∙ all_put c.loop-pair.before.items
