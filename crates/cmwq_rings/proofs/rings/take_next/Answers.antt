use Rattle.std.proofs.Common.{rules}
use Rattle.cmwq_rings.proofs.SearchLemmas.{none_begins, taken_so}
use Rattle.cmwq_rings.proofs.rings.take_next.Goals as goal

pub returns-clause-taken : goal.returns-clause-taken
returns-clause-taken c =
    taken_so c.args.left.now.items c.remove.new.self.items c.in_ok-place.place c.remove.result c.args.actor.now (search rules) c.remove.ensures.value (search rules) c.remove.ensures.items

pub returns-in_err-place-clause-none : goal.returns-in_err-place-clause-none
returns-in_err-place-clause-none c is = none_begins c.args.left.now.items c.args.actor.now (search rules)
