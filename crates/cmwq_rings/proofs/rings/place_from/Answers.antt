use Rattle.std.proofs.Common.{sym, ◌∙◌}
use Rattle.cmwq_rings.proofs.SearchLemmas.{first_here, none_more, none_yet, other_here}
use Rattle.cmwq_rings.proofs.rings.place_from.Goals as goal

pub loop-place-init : goal.loop-place-init
loop-place-init c = none_yet c.args.left.now c.args.actor.now

pub loop-place-preserved : goal.loop-place-preserved
loop-place-preserved c =
    none_more c.args.left.now c.args.actor.now c.loop-place.place c.loop-place.invariant
    (other_here c.args.left.now c.loop-place.place _ c.args.actor.now c.loop-place-test.true (sym c.eq.ensures ∙ c.if-eq.false))

pub returns-then-eq : goal.returns-then-eq
returns-then-eq c = (
  c.loop-place-test.true,
  first_here c.args.left.now c.loop-place.place _ c.args.actor.now c.loop-place-test.true (sym c.eq.ensures ∙ c.if-eq.true),
)
