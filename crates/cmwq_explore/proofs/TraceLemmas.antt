-- The way back from a state that was seen, and forward to it again.
use Rattle.std.proofs.Common.{◌≡◌, ℕ, zero, suc, ◌+◌, ◌<◌, ◌≤◌, List, [], ◌∷◌, ◌++◌, length, Option, Some, None, arith, refl, sym, ap, ◌∙◌}
use Rattle.std.proofs.lemmas.List.{reverse-append}
use Rattle.std.specs.List.{slice_get}
use Rattle.std.specs.Prelude.{reverse}
use Rattle.cmwq_types.specs.Contents.{ScenarioContents}
use Rattle.cmwq_types.specs.declared.instr.Instr.{Instr}
use Rattle.cmwq_orders.proofs.LengthLemmas.{start-whole, taken-whole}
use Rattle.cmwq_orders.specs.Orders.{Explored, and_then, reached, reached_from, start, taken}
use Rattle.cmwq_orders.specs.declared.choice.Before.{Before}
use Rattle.cmwq_orders.specs.declared.choice.Choice.{Choice}
use Rattle.cmwq_orders.specs.declared.question.Question.{Question}
use Rattle.cmwq_explore.proofs.ListLemmas.{none_some, same_some}
use Rattle.cmwq_explore.specs.Plans.{TakenAs}
use Rattle.cmwq_explore.specs.Searching.{Entry, IsGrown}
use Rattle.cmwq_stored.specs.Stored.{StoredContents, stored_of}
use Rattle.cmwq_explore.specs.Tracing.{IsOrderTo, IsSeenAt, IsWay}
use Rattle.cmwq_explore.specs.declared.seen.Mark.{Mark}

module _ (S : ScenarioContents) (before : List Before) (question : Question) (seen : List Entry) where
  pub way_none : (place : ℕ) → IsWay S before seen place place []
  way_none place x e at whole same = (e, x, refl, at, sym same, omega arith)

  -- what the choice leads to, and the others from there
  pub led : (cs : List Choice) (c : Choice) (e g f : Explored) → taken S before e c ≡ Some g → reached_from S before cs g ≡ Some f → reached_from S before (c ∷ cs) e ≡ Some f
  led cs c e g f t r = ap (and_then (reached_from S before cs)) t ∙ r

  pub way_back : (place at : ℕ) (k : StoredContents) (m : Mark) (cs : List Choice) → IsGrown S before question seen → 0 < at → slice_get seen at ≡ Some (k, m)
      → IsWay S before seen at place cs → (m.from < at) × IsWay S before seen m.from place (m.choice ∷ cs)
  way_back place zero k m cs grown positive there way = absurd (omega (arith, positive))
  way_back place (suc i) k m cs grown positive there way =
      let came = grown.came i (k, m) there in (
        (let earlier : m.from ≤ i = came.earlier in omega (arith, earlier)),
        λ x e at whole same.
            let is : came.origin ≡ x = same_some came.origin x (sym came.there ∙ at) in
            let next = came.leads e whole (same ∙ sym (ap (λ (z : Entry). z.0) is)) in
            let g : Explored = next.0 in
            let on = way (k, m) g there (taken-whole S before e g m.choice whole next.1) next.2 in
            let deep : m.depth ≡ x.1.depth + 1 = came.deeper ∙ ap (λ (z : Entry). z.1.depth + 1) is in
            let far : length cs + m.depth ≡ on.1.1.depth = on.5 in
            (on.0, on.1, led cs m.choice e g on.0 next.1 on.2, on.3, on.4, omega (arith, deep, far)),
      )

  -- from the start
  pub way_whole : (place : ℕ) (cs : List Choice) → IsGrown S before question seen → IsWay S before seen 0 place cs → IsOrderTo S before seen place cs
  way_whole place cs grown way =
      let on = way grown.first (start S) grown.begins (start-whole S) (sym grown.start) in
      let far : length cs + grown.first.1.depth ≡ on.1.1.depth = on.5 in
      let level : grown.first.1.depth ≡ 0 = grown.level in
      record {
        state = on.0;
        mark = on.1.1;
        there = on.3 ∙ ap (λ (k : StoredContents). Some (k, on.1.1)) on.4;
        comes = on.2;
        deep = omega (arith, far, level);
      }

pub reverse_push : (xs : List Choice) (c : Choice) → reverse (xs ++ c ∷ []) ≡ c ∷ reverse xs
reverse_push xs c = reverse-append xs (c ∷ [])

-- Forward.

module _ (S : ScenarioContents) (before : List Before) (e : Explored) where
  -- where the choices come to e, those behind the first come to it from where the first was taken to
  pub replay_on : (cs : List Choice) (c : Choice) (s new : Explored) (i r : Option Instr) → reached_from S before (c ∷ cs) s ≡ Some e
      → TakenAs (taken S before s c) i new r → reached_from S before cs new ≡ Some e
  replay_on cs c s new i (Some j) r is = sym (ap (and_then (reached_from S before cs)) is.0) ∙ r
  replay_on cs c s new i None r is = absurd (none_some e (sym (ap (and_then (reached_from S before cs)) is) ∙ r))

-- the standing to which an order to a place comes stands there
pub seen_at : (S : ScenarioContents) (before : List Before) (seen : List Entry) (place : ℕ) (order : List Choice) (s : Explored)
    → IsOrderTo S before seen place order → ((e : Explored) → reached S before order ≡ Some e → s ≡ e) → IsSeenAt seen place s
seen_at S before seen place order s to comes =
    (to.mark, to.there ∙ ap (λ (e : Explored). Some (stored_of e, to.mark)) (sym (comes to.state to.comes)))
