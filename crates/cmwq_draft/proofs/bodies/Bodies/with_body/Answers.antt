use Rattle.std.proofs.Common.{ap, length, arith, rules}
use Rattle.cmwq_draft.proofs.BodyLemmas.{names_more}
use Rattle.cmwq_draft.proofs.bodies.Bodies.with_body.Goals as goal

pub invariant_of-self : goal.invariant_of-self
invariant_of-self c =
    names_more (λ work. work.name) c.self.inside.done.items c.self.inside.draft.works c.push.new.self.items _ c.index-works-len.result
    (omega (arith, ap (λ b. length b.told.works) c.self.view_is, ap (λ b. length b.done) c.self.view_is)) c.self.invariant.1 (search rules) (ap (λ work. work.name) c.work.view_is) c.in_ok-push.ensures.items
