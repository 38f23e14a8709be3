-- What was entered stands in the last history.
use Rattle.std.proofs.Common.{◌≡◌, ◌∙◌, ℕ, List, [], ◌∷◌, ◌++◌, Some, ap, length, refl, subst, sym}
use Rattle.std.specs.Prelude.{slice_get, take}
use Rattle.cmwq_lock.specs.declared.views.Knowledge.{Knowledge}
use Rattle.cmwq_lock.specs.Log.{BeginsWith}
use Rattle.cmwq_lock.specs.Views.{seen_of}
use Rattle.cmwq_engine.specs.History.{IsLegal}
use Rattle.cmwq_engine.specs.Issuing.{reply_after}
use Rattle.cmwq_engine.specs.Laws.{ReceiptsStand, StandsAt}
use Rattle.cmwq_engine.specs.Shared.{EngineView, HasEntered}
use Rattle.cmwq_engine.specs.declared.history.Entry.{Entry}
use Rattle.cmwq_engine.specs.declared.history.Setting.{Setting}

assoc : (xs ys zs : List Entry) → (xs ++ ys) ++ zs ≡ xs ++ (ys ++ zs)
assoc [] ys zs = refl
assoc (x ∷ xs) ys zs = ap (λ (l : List Entry). x ∷ l) (assoc xs ys zs)

behind : (xs : List Entry) (x : Entry) (more : List Entry) → slice_get (xs ++ x ∷ more) (length xs) ≡ Some x
behind [] x more = refl
behind (y ∷ xs) x more = behind xs x more

front : (xs more : List Entry) → take (length xs) (xs ++ more) ≡ xs
front [] more = refl
front (x ∷ xs) more = ap (λ (l : List Entry). x ∷ l) (front xs more)

-- both begin with what the turn found, and then have the entry
begins-behind : (history seen told found : List Entry) (new : Entry) → BeginsWith history seen → BeginsWith seen told → told ≡ found ++ new ∷ []
    → (more : List Entry) × (history ≡ found ++ new ∷ more)
begins-behind history seen told found new (rest, is) (later, was) last = (
  later ++ rest,
  is ∙ ap (λ (l : List Entry). l ++ rest) was ∙ assoc told later rest ∙ ap (λ (l : List Entry). l ++ (later ++ rest)) last
      ∙ assoc found (new ∷ []) (later ++ rest),
)

stands : (from : Setting) (before after : EngineView) (new : Entry) (place : ℕ) (history : List Entry) → IsLegal from history
    → (entered : HasEntered from before after new place) → (more : List Entry) × (history ≡ entered.found ++ new ∷ more) → StandsAt from history new place
stands from before after new place history legal entered (more, is) = record {
  there = subst (λ (h : List Entry). slice_get h place ≡ Some new) (sym is)
      (subst (λ (p : ℕ). slice_get (entered.found ++ new ∷ more) p ≡ Some new) (sym entered.place_is) (behind entered.found new more));
  legal = legal;
  reply = entered.reply ∙ ap (λ (h : List Entry). reply_after from.scenario h new.instr) (sym taken);
}
  where
    taken : take place history ≡ entered.found
    taken = ap (λ (p : ℕ). take p history) entered.place_is ∙ ap (take (length entered.found)) is ∙ front entered.found (new ∷ more)

pub receipts_stand : ReceiptsStand
unfolding ReceiptsStand
receipts_stand from before after new place records history entered (i, k, inside, at, seen) last legal =
    stands from before after new place history legal entered
    (begins-behind history k.seen (seen_of after) entered.found new
    (subst (λ (known : Knowledge Entry). BeginsWith history known.seen) at (last.each_seen i k inside)) seen entered.last)
