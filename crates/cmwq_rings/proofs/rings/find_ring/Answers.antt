use Rattle.std.proofs.Common.{rules, sym}
use Rattle.cmwq_rings.specs.Rings.{names_of, pairs_of}
use Rattle.cmwq_rings.proofs.RingLemmas.{none_goes}
use Rattle.cmwq_rings.proofs.SearchLemmas.{none_at_all, none_here, none_through, told_so}
use Rattle.cmwq_rings.proofs.rings.find_ring.Goals as goal

pub returns-clause-told : goal.returns-clause-told
returns-clause-told c = sym (none_goes (pairs_of c.args.before.now) (none_at_all c.args.before.now c.loop-pair.pair-index (search rules) c.loop-pair.invariant))

pub returns-then-is_some-clause-told : goal.returns-then-is_some-clause-told
returns-then-is_some-clause-told c = told_so (pairs_of c.args.before.now) (λ ring. names_of ring.items) _ c.in_ok-ring.ring c.in_ok-ring.ensures (search rules)

pub loop-pair-preserved : goal.loop-pair-preserved
loop-pair-preserved c =
    none_through c.args.before.now c.loop-pair.pair-index _ c.loop-pair-test.true c.loop-pair.invariant (none_here _ _ c.in_ok-ring.ring c.in_ok-ring.ensures (search rules))
