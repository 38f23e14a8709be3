-- What waits stands where it was seen, whatever is added behind.
use Rattle.std.proofs.Common.{◌≡◌, ℕ, suc, ◌<◌, true, false, arith, inl, inr, List, [], ◌∷◌, ◌++◌, length, Some, refl, sym, ap, ◌∙◌, subst}
use Rattle.std.proofs.lemmas.Bool.{eqb-true}
use Rattle.std.specs.List.{slice_get}
use Rattle.std.specs.Prelude.{◌==◌, slice_index_or}
use Rattle.cmwq_explore.proofs.ListLemmas.{get_cases, get_last, none_some}
use Rattle.cmwq_explore.proofs.SearchLemmas.{there_still}
use Rattle.cmwq_explore.specs.Plans.{PlanContents, Stood}
use Rattle.cmwq_explore.specs.Searching.{Entry, Extends}
use Rattle.cmwq_stored.specs.Stored.{StoredContents, stored_of}
use Rattle.cmwq_explore.specs.declared.seen.Mark.{Mark}
use Rattle.cmwq_orders.proofs.LengthLemmas.{taken-whole}
use Rattle.cmwq_orders.specs.Orders.{Explored, taken}
use Rattle.cmwq_orders.specs.Sizes.{IsWhole}
use Rattle.cmwq_orders.specs.declared.choice.Choice.{Choice}
use Rattle.cmwq_explore.specs.Waiting.{AreWaiting, begins_at, IsKept, IsReadyAt, ReadyContents}

module _ (plan : PlanContents) where
  pub none_waits : (seen : List Entry) → AreWaiting plan seen []
  none_waits seen i x at = absurd (none_some x at)

  ready_still : (old new : List Entry) (x : ReadyContents) → Extends old new → IsReadyAt plan old x → IsReadyAt plan new x
  ready_still old new x more ready = record {
    of_plan = ready.of_plan;
    there = (ready.there.0, there_still old new x.place (stored_of x.stood.explored, ready.there.0) more ready.there.1);
    whole = ready.whole;
  }

  pub waiting_still : (old new : List Entry) (waiting : List ReadyContents) → Extends old new → AreWaiting plan old waiting → AreWaiting plan new waiting
  waiting_still old new waiting more are i x at = ready_still old new x more (are i x at)

  -- the first was taken out
  pub first_taken : (seen : List Entry) (old new : List ReadyContents) (x : ReadyContents) → AreWaiting plan seen old → old ≡ x ∷ new
      → IsReadyAt plan seen x × AreWaiting plan seen new
  first_taken seen old new x are is =
      let all : AreWaiting plan seen (x ∷ new) = subst (AreWaiting plan seen) is are in
      (all 0 x refl, λ i y at. all (suc i) y at)

  -- one more waits, or there was no room for it
  pub waiting_more : (seen : List Entry) (old new : List ReadyContents) (x : ReadyContents) → AreWaiting plan seen old → IsReadyAt plan seen x → IsKept old new x
      → AreWaiting plan seen new
  waiting_more seen old new x are ready (inl same) = subst (AreWaiting plan seen) (sym same) are
  waiting_more seen old new x are ready (inr longer) =
      subst (AreWaiting plan seen) (sym longer) (λ i y at. elim (get_cases old x i y at) [
        | inl before ↦ are i y before
        | inr last ↦ subst (IsReadyAt plan seen) last.1 ready
      ])

  -- what was just added, with its machine
  pub added_waiting : (old new : List Entry) (k : StoredContents) (m : Mark) (e : Explored) (c : Choice) (s : Stood) (place : ℕ) (before after : List ReadyContents)
      → AreWaiting plan old before → new ≡ old ++ (k, m) ∷ [] → k ≡ stored_of s.explored → place ≡ length old → s.plan ≡ plan → IsWhole plan.scenario e
      → taken plan.scenario plan.before e c ≡ Some s.explored → IsKept before after (record { place = place; stood = s }) → AreWaiting plan new after
  added_waiting old new k m e c s place before after are added is_stored is_place of_plan whole leads kept =
      let there : slice_get new place ≡ Some (stored_of s.explored, m) =
      ap (λ (l : List Entry). slice_get l place) added
      ∙ ap (λ (n : ℕ). slice_get (old ++ (k, m) ∷ []) n) is_place
      ∙ get_last old (k, m)
      ∙ ap (λ (j : StoredContents). Some (j, m)) is_stored in
      waiting_more new before after (record { place = place; stood = s }) (waiting_still old new before ((k, m) ∷ [], added) are)
      (record { of_plan = of_plan; there = (m, there); whole = taken-whole plan.scenario plan.before e s.explored c whole leads }) kept

-- The first that waits.

pub first_begins : (xs : List ReadyContents) (x : ReadyContents) (place : ℕ) → 0 < length xs → x ≡ slice_index_or xs 0 x → (x.place == place) ≡ begins_at xs place
first_begins [] x place some is = absurd (omega (arith, some))
first_begins (y ∷ ys) x place some is = ap (λ (z : ReadyContents). z.place == place) is

pub none_begins : (xs : List ReadyContents) (place : ℕ) → length xs ≡ 0 → false ≡ begins_at xs place
none_begins [] place none = refl
none_begins (y ∷ ys) place none = absurd (omega (arith, none))

pub taken_out : (old new : List ReadyContents) (x : ReadyContents) (place : ℕ) → begins_at old place ≡ true → old ≡ x ∷ new → old ≡ record { place = place; stood = x.stood } ∷ new
taken_out old new x place first is =
    let same : x.place ≡ place = eqb-true x.place place (sym (ap (λ (l : List ReadyContents). begins_at l place) is) ∙ first) in
    is ∙ (λ i. record { place = same i; stood = x.stood } ∷ new)
