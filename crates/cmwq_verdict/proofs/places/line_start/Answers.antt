use Rattle.std.proofs.Common.{arith, ap, ◌+◌, drop, ℕ}
use Rattle.cmwq_verdict.specs.FaultPlaces.{line_start}
use Rattle.cmwq_verdict.proofs.PlaceLemmas.{at_end, next_start, positive}
use Rattle.cmwq_verdict.proofs.places.line_start.Goals as goal

pub loop-index-preserved : goal.loop-index-preserved
loop-index-preserved c =
    let rest = drop (c.loop-index.index + 1) c.args.text.now in
    let step = next_start c.loop-index.left c.loop-index.index c.args.text.now 0 (positive c.loop-index.left c.if-left-eq0.false) c.loop-index-test.true in
    let same = ap (λ (n : ℕ). line_start n rest) c.left_behind-left.ensures in
    omega (arith, c.loop-index.invariant, step, same)

pub returns-clause-start : goal.returns-clause-start
returns-clause-start c =
    let none = at_end c.loop-index.left c.loop-index.index c.args.text.now (omega arith) in
    omega (arith, c.loop-index.invariant, none)
