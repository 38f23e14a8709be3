use Rattle.std.proofs.Common.{◌≡◌, Some, sym, ap, ◌∙◌, subst, arith}
use mathlib.Core.Option.{some-injective}
use Rattle.cmwq_lock.specs.Views.{records_of}
use Rattle.cmwq_lock.specs.Promises.{IsLastLog}
use Rattle.cmwq_lock.specs.declared.views.Held.{Held}
use Rattle.cmwq_lock.proofs.Opening.{closes_lock}
use Rattle.cmwq_lock.proofs.lock.TicketLock.close.Goals as goal

pub unreachable-requires : goal.unreachable-requires
unreachable-requires g c = let opener = c.args.opener in let last = closes_lock g.T.Kept _ _ _ _ _ opener.opens (omega arith) c.close_with-closed.ensures.values.2 in
    c.in_default.not-Some last.0 (some-injective _ _ (sym c.take-slot.ensures.value ∙ last.1))

pub returns-clause-sound : goal.returns-clause-sound
returns-clause-sound g c = let opener = c.args.opener in let last = closes_lock g.T.Kept _ _ _ _ _ opener.opens (omega arith) c.close_with-closed.ensures.values.2 in
    let same : Some last.0 ≡ Some c.in-Some.field-0 = sym (some-injective _ _ (sym c.take-slot.ensures.value ∙ last.1)) ∙ c.in-Some.is in
    let held : last.0 ≡ c.in-Some.field-0 = cc in subst (λ (h : Held g.row.T.Denot). g.T.Kept.sound h.value) held last.2

pub returns-clause-origin : goal.returns-clause-origin
returns-clause-origin g c = let opener = c.args.opener in let last = closes_lock g.T.Kept _ _ _ _ _ opener.opens (omega arith) c.close_with-closed.ensures.values.2 in
    let same : Some last.0 ≡ Some c.in-Some.field-0 = sym (some-injective _ _ (sym c.take-slot.ensures.value ∙ last.1)) ∙ c.in-Some.is in
    let held : last.0 ≡ c.in-Some.field-0 = cc in ap (λ (h : Held g.row.T.Denot). g.T.Kept.origin h.value) (sym held) ∙ last.3

pub returns-clause-last : goal.returns-clause-last
returns-clause-last g c = let opener = c.args.opener in let last = closes_lock g.T.Kept _ _ _ _ _ opener.opens (omega arith) c.close_with-closed.ensures.values.2 in
    let same : Some last.0 ≡ Some c.in-Some.field-0 = sym (some-injective _ _ (sym c.take-slot.ensures.value ∙ last.1)) ∙ c.in-Some.is in
    let held : last.0 ≡ c.in-Some.field-0 = cc in subst (λ (h : Held g.row.T.Denot). IsLastLog g.T.Kept (records_of opener.seat.me.0) (g.T.Kept.log h.value)) held last.4
