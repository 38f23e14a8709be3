use Rattle.std.proofs.Common.{rules, ap}
use Rattle.cmwq_rings.specs.Rings.{names_of, pairs_of}
use Rattle.cmwq_rings.proofs.SearchLemmas.{back_so, found_so, names_more, none_so, on_so}
use Rattle.cmwq_rings.proofs.rings.ring_through.Goals as goal

pub returns-then-eq : goal.returns-then-eq
returns-then-eq c =
    found_so (pairs_of c.args.before.now) c.args.actor.now (pairs_of c.search.left.items) (pairs_of c.take_next.new.left.items) _ _ _ c.in-Some.name.now c.in-Some-take_next.next.now
    (names_more c.pop.new.self.items c.search.path.items c.in-Some.name (search rules))
    (names_more c.pop.new.self.items c.push-in-Some-take_next.new.self.items c.in-Some.name c.in_ok-push-2.ensures.items)
    c.in-Some-take_next.ensures.taken (search rules) c.search.invariant

pub search-preserved-in-Continue-branch-4 : goal.search-preserved-in-Continue-branch-4
search-preserved-in-Continue-branch-4 c =
    on_so (pairs_of c.args.before.now) c.args.actor.now (pairs_of c.search.left.items) (pairs_of c.take_next.new.left.items) _ _ _ _ c.in-Some.name.now c.in-Some-take_next.next.now
    (names_more c.pop.new.self.items c.search.path.items c.in-Some.name (search rules))
    (names_more c.pop.new.self.items c.push-in-Some-take_next.new.self.items c.in-Some.name c.in_ok-push-2.ensures.items)
    (names_more c.push-in-Some-take_next.new.self.items c.push-in-Some-take_next-2.new.self.items c.in-Some-take_next.next c.in_ok-push-3.ensures.items)
    c.in-Some-take_next.ensures.taken (search rules) c.search.invariant

pub search-preserved : goal.search-preserved
search-preserved c =
    back_so (pairs_of c.args.before.now) c.args.actor.now (pairs_of c.search.left.items) (pairs_of c.take_next.new.left.items) _ (names_of c.pop.new.self.items) c.in-Some.name.now
    (names_more c.pop.new.self.items c.search.path.items c.in-Some.name (search rules))
    (ap (λ v. pairs_of v.items) (c.take_next.ensures.same (search rules))) (c.take_next.ensures.none (search rules)) c.search.invariant

pub returns : goal.returns
returns c = none_so (pairs_of c.args.before.now) c.args.actor.now (pairs_of c.search.left.items) (names_of c.search.path.items) (search rules) c.search.invariant
