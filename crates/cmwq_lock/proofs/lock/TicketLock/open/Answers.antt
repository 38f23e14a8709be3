use Rattle.std.proofs.Common.{rules, ◌≡◌, [], ◌∷◌, Some, refl, sym, ap, subst}
use Rattle.atomic_table.specs.Table.{opening}
use Rattle.cmwq_lock.specs.Rule.{IsRuled, opening_view}
use Rattle.cmwq_lock.proofs.Opening.{opens_lock}
use Rattle.cmwq_lock.proofs.lock.TicketLock.open.Goals as goal

pub new-requires : goal.new-requires
new-requires g c = let K = g.T.Kept in let slots : c.push_reserved.new.self.items ≡ Some (record { value = c.args.value; turns = 0 }) ∷ [] = search rules in
    subst (λ xs. IsRuled K (K.origin c.of-about.result.value) (opening (0 ∷ 0 ∷ []) xs (opening_view (K.origin c.of-about.result.value)))) (sym slots)
    (opens_lock K _ (record { value = c.args.value; turns = 0 }) refl c.requires.sound (ap K.origin (sym c.of-about.ensures)) c.requires.empty)
