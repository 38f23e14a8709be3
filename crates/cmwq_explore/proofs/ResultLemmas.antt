-- What a search that has come to its end says of all orders.
use Rattle.std.proofs.Common.{◌⊎◌, inl, inr, ◌≡◌, ℕ, zero, suc, ◌+◌, ◌-◌, ◌<◌, ◌≤◌, Bool, true, false, List, [], ◌∷◌, ◌++◌, length, Option, Some, None, arith, refl, sym, ap, ◌∙◌, subst, length-append, count_by, cond}
use Rattle.std.proofs.lemmas.List.Sums.{sum_by-cons}
use Rattle.std.proofs.lemmas.Option.{slice_get_within}
use Rattle.std.specs.List.{slice_get}
use Rattle.cmwq_types.specs.Contents.{ScenarioContents}
use Rattle.cmwq_types.specs.declared.limits.TheConstants.{MAX_LINES}
use Rattle.cmwq_orders.proofs.LengthLemmas.{reached-whole, start-whole, taken-whole}
use Rattle.cmwq_orders.proofs.OrderLemmas.{kept_along}
use Rattle.cmwq_orders.specs.Orders.{Explored, and_then, reached, reached_from, start, taken}
use Rattle.cmwq_orders.specs.Questions.{counts_first, counts_second, fails, is_spent}
use Rattle.cmwq_orders.specs.Sizes.{IsWhole}
use Rattle.cmwq_orders.specs.declared.choice.Before.{Before}
use Rattle.cmwq_orders.specs.declared.choice.Choice.{Choice}
use Rattle.cmwq_orders.specs.declared.question.Question.{Question}
use Rattle.cmwq_explore.proofs.ListLemmas.{get_last, get_more, get_some, none_some, same_some}
use Rattle.cmwq_stored.proofs.StoredLemmas.{stored_same}
use Rattle.cmwq_explore.specs.Outcomes.{Holds, HoldsTo, IsAnswer, IsCounted, IsFound, IsFoundWithin, IsShort, IsTally}
use Rattle.cmwq_explore.specs.Plans.{PlanContents}
use Rattle.cmwq_explore.specs.Searching.{AreClean, Begins, Comes, Entry, IsClosedTo, IsFailing, IsGrown, IsLevel, IsFull}
use Rattle.cmwq_stored.specs.Stored.{stored_of}
use Rattle.cmwq_explore.specs.Tracing.{IsOrderTo}
use Rattle.cmwq_explore.specs.declared.exploring.Answer.{Answer}
use Rattle.cmwq_explore.specs.declared.exploring.Answer.TheVariants.{Found, Whole, GaveUp}
use Rattle.cmwq_explore.specs.declared.exploring.Ending.{Ending}
use Rattle.cmwq_explore.specs.declared.exploring.Ending.TheVariants.{Closed, Failed, Deep}
use Rattle.cmwq_explore.specs.declared.exploring.Tally.{Tally}

module _ (S : ScenarioContents) (before : List Before) (seen : List Entry) where
  -- the state is one of those that were seen
  abbrev Stands : Explored → Type 0
  Stands e = (i : ℕ) × (x : Entry) × (slice_get seen i ≡ Some x) × (x.0 ≡ stored_of e)

  -- and something is known of each actor
  abbrev StandsWhole : Explored → Type 0
  StandsWhole e = IsWhole S e × Stands e

  stands-on : IsClosedTo S before seen (length seen) → (e g : Explored) (c : Choice) → StandsWhole e → taken S before e c ≡ Some g → StandsWhole g
  stands-on closed e g c (whole, (i, x, at, same)) t =
      let next = closed i x e (slice_get_within seen i x at) at whole (sym same) c g t in
      (taken-whole S before e g c whole t, (next.0, next.1, next.2, next.3))

  starts : (question : Question) → IsGrown S before question seen → StandsWhole (start S)
  starts question grown = (start-whole S, (0, grown.first, grown.begins, grown.start))

  -- where no choice leads out of what was seen, it has all to which orders come
  pub all-seen : (question : Question) → IsGrown S before question seen → IsClosedTo S before seen (length seen)
      → (cs : List Choice) (e : Explored) → reached S before cs ≡ Some e → StandsWhole e
  all-seen question grown closed cs e r =
      kept_along S before StandsWhole (λ d g c stands t. stands-on closed d g c stands t) cs (start S) e (starts question grown) r

  clean-fails : (question : Question) → IsGrown S before question seen → (e : Explored) → IsWhole S e → (i : ℕ) (x : Entry) → slice_get seen i ≡ Some x → x.0 ≡ stored_of e
      → x.1.fails ≡ false → fails S before question e ≡ false
  clean-fails question grown e whole i x at same clean = sym (grown.marked i x e at whole (sym same)).fails ∙ clean

  pub closed_holds : (question : Question) → IsGrown S before question seen → AreClean seen → IsClosedTo S before seen (length seen) → Holds S before question
  closed_holds question grown clean closed cs e r =
      let stands = all-seen question grown closed cs e r in
      clean-fails question grown e stands.0 stands.1.0 stands.1.1 stands.1.2 stands.1.3 (clean stands.1.0 stands.1.1 stands.1.2)

  -- Levels.

  -- a state that was seen, and lies at most so deep
  abbrev StandsBy : ℕ → Explored → Type 0
  StandsBy depth e = IsWhole S e × ((i : ℕ) × (x : Entry) × (slice_get seen i ≡ Some x) × (x.0 ≡ stored_of e) × (x.1.depth ≤ depth))

  by-one : (most depth : ℕ) → IsLevel S before seen most → (e g : Explored) (c : Choice) → StandsBy depth e → depth < most → taken S before e c ≡ Some g → StandsBy (depth + 1) g
  by-one most depth (handled, closed, early) e g c (whole, (i, x, at, same, deep)) below t =
      let first : i < handled = early i x at (omega (arith, deep, below)) in
      let next = closed i x e first at whole (sym same) c g t in
      let further : next.1.1.depth ≤ x.1.depth + 1 = next.4 in
      (taken-whole S before e g c whole t, (next.0, next.1, next.2, next.3, omega (arith, further, deep)))

  deep-step : (depth : ℕ) (cs : List Choice) (f : Explored) (far : ℕ) → ((g : Explored) → StandsBy (depth + 1) g → reached_from S before cs g ≡ Some f → StandsBy far f)
      → (o : Option Explored) → ((g : Explored) → o ≡ Some g → StandsBy (depth + 1) g) → and_then (reached_from S before cs) o ≡ Some f → StandsBy far f
  deep-step depth cs f far go (Some g) leads r = go g (leads g refl) r
  deep-step depth cs f far go None leads r = absurd (none_some f r)

  pub level-along : (most : ℕ) → IsLevel S before seen most → (cs : List Choice) (e f : Explored) (depth : ℕ) → depth + length cs ≤ most → StandsBy depth e
      → reached_from S before cs e ≡ Some f → StandsBy (depth + length cs) f
  level-along most level [] e f depth fits stands r = subst (StandsBy (depth + 0)) (same_some e f r) (by-more stands)
    where
      by-more : StandsBy depth e → StandsBy (depth + 0) e
      by-more (whole, (i, x, at, same, deep)) = (whole, (i, x, at, same, omega (arith, deep)))
  level-along most level (c ∷ cs) e f depth fits stands r =
      let far : (depth + 1) + length cs ≡ depth + length (c ∷ cs) = omega arith in
      subst (λ (n : ℕ). StandsBy n f) far
      (deep-step depth cs f ((depth + 1) + length cs) (λ g stands_g s. level-along most level cs g f (depth + 1) (omega (arith, fits)) stands_g s)
      (taken S before e c) (λ g t. by-one most depth level e g c stands (omega (arith, fits)) t) r)

  -- what orders of so many choices come to was seen
  pub level-seen : (question : Question) → IsGrown S before question seen → (most : ℕ) → IsLevel S before seen most
      → (cs : List Choice) (e : Explored) → length cs ≤ most → reached S before cs ≡ Some e → StandsBy (length cs) e
  level-seen question grown most level cs e few r =
      let begin : StandsBy 0 (start S) = (start-whole S, (0, grown.first, grown.begins, grown.start, omega (arith, grown.level))) in
      let end : StandsBy (0 + length cs) e = level-along most level cs (start S) e 0 (omega (arith, few)) begin r in
      let zero_more : 0 + length cs ≡ length cs = omega arith in
      subst (λ (n : ℕ). StandsBy n e) zero_more end

  pub level_holds : (question : Question) → IsGrown S before question seen → AreClean seen → (most : ℕ) → IsLevel S before seen most → HoldsTo S before question most
  level_holds question grown clean most level cs e few r =
      let stands = level-seen question grown most level cs e few r in
      clean-fails question grown e stands.0 stands.1.0 stands.1.1 stands.1.2 stands.1.3 (clean stands.1.0 stands.1.1 stands.1.2)

-- An order to the last state that was seen, which is of the kind.
module _ (S : ScenarioContents) (before : List Before) (question : Question) (old new : List Entry) (depth : ℕ)
    (failing : IsFailing S before question old new depth) (old_grown : IsGrown S before question old) (level : IsLevel S before old depth)
    (cs : List Choice) (to : IsOrderTo S before new (length new - 1) cs) where
  last-place : length new - 1 ≡ length failing.earlier
  last-place =
      let long : length new ≡ length failing.earlier + 1 = ap length failing.whole ∙ length-append failing.earlier (failing.last ∷ []) in
      omega (arith, long)

  last-is : failing.last ≡ (stored_of to.state, to.mark)
  last-is =
      same_some failing.last (stored_of to.state, to.mark)
      (sym (get_last failing.earlier failing.last) ∙ sym (ap (λ (l : List Entry). slice_get l (length failing.earlier)) failing.whole)
      ∙ sym (ap (slice_get new) last-place) ∙ to.there)

  last-fails : fails S before question to.state ≡ true
  last-fails =
      let marked = failing.grown.marked (length new - 1) (stored_of to.state, to.mark) to.state to.there (reached-whole S before cs to.state to.comes) refl in
      sym marked.fails ∙ sym (ap (λ (x : Entry). x.1.fails) last-is) ∙ failing.fails

  clean-there : (i : ℕ) (x : Entry) → slice_get old i ≡ Some x → x.1.fails ≡ false
  clean-there i x at =
      failing.clean i x (ap (λ (l : List Entry). slice_get l i) failing.extends.1 ∙ get_more old failing.extends.0 i x at)

  pub found_shortest : IsFound S before question cs
  found_shortest = record {
    state = to.state;
    comes = to.comes;
    is_of_kind = last-fails;
    shortest = λ ds e shorter r.
        let long : length cs ≡ to.mark.depth = to.deep in
        let deep : failing.last.1.depth ≡ to.mark.depth = ap (λ (x : Entry). x.1.depth) last-is in
        let below : failing.last.1.depth ≡ depth + 1 = failing.deep in
        let stands = level-seen S before old question old_grown depth level ds e (omega (arith, long, deep, below, shorter)) r in
        clean-fails S before old question old_grown e stands.0 stands.1.0 stands.1.1 stands.1.2 stands.1.3 (clean-there stands.1.0 stands.1.1 stands.1.2);
  }

-- What is counted.

module _ (S : ScenarioContents) (before : List Before) where
  push-step : (cs : List Choice) (c : Choice) (e f : Explored) → ((d : Explored) → reached_from S before cs d ≡ Some e → reached_from S before (cs ++ c ∷ []) d ≡ Some f)
      → (o : Option Explored) → and_then (reached_from S before cs) o ≡ Some e → and_then (reached_from S before (cs ++ c ∷ [])) o ≡ Some f
  push-step cs c e f go (Some g) r = go g r
  push-step cs c e f go None r = absurd (none_some e r)

  -- one choice more
  reached-push : (cs : List Choice) (c : Choice) (d e f : Explored) → taken S before e c ≡ Some f → reached_from S before cs d ≡ Some e
      → reached_from S before (cs ++ c ∷ []) d ≡ Some f
  reached-push [] c d e f t r =
      ap (and_then (reached_from S before [])) (subst (λ (g : Explored). taken S before g c ≡ Some f) (sym (same_some d e r)) t)
  reached-push (b ∷ bs) c d e f t r = push-step bs c e f (λ g s. reached-push bs c g e f t s) (taken S before d b) r

  abbrev IsReachable : Explored → Type 0
  IsReachable e = (cs : List Choice) × (reached S before cs ≡ Some e)

  module _ (question : Question) (seen : List Entry) (grown : IsGrown S before question seen) where
    -- each state that was seen is one to which an order comes
    entry-reached : (n i : ℕ) (x : Entry) → i ≤ n → slice_get seen i ≡ Some x → (e : Explored) × (stored_of e ≡ x.0) × IsReachable e
    entry-reached n zero x le at =
        (start S, sym grown.start ∙ ap (λ (y : Entry). y.0) (same_some grown.first x (sym grown.begins ∙ at)), ([], refl))
    entry-reached zero (suc i) x le at = absurd (omega (arith, le))
    entry-reached (suc n) (suc i) x le at =
        let came = grown.came i x at in
        let earlier : x.1.from ≤ i = came.earlier in
        let from = entry-reached n x.1.from came.origin (omega (arith, le, earlier)) came.there in
        let next = came.leads from.0 (reached-whole S before from.2.0 from.0 from.2.1) from.1 in
        (next.0, next.2, (from.2.0 ++ x.1.choice ∷ [], reached-push from.2.0 x.1.choice (start S) from.0 next.0 next.1 from.2.1))

-- states beside what was kept of them
abbrev AreBeside : (Explored → Type 0) → List Entry → List Explored → Type 0
AreBeside P seen es =
    (length es ≡ length seen) × ((i : ℕ) (e : Explored) → slice_get es i ≡ Some e → (x : Entry) × (slice_get seen i ≡ Some x) × (stored_of e ≡ x.0) × P e)

collect : (P : Explored → Type 0) (seen : List Entry) → ((i : ℕ) (x : Entry) → slice_get seen i ≡ Some x → (e : Explored) × (stored_of e ≡ x.0) × P e)
    → (es : List Explored) × AreBeside P seen es
collect P [] each = ([], (refl, λ i e at. absurd (none_some e at)))
collect P (x ∷ xs) each =
    let one = each 0 x refl in
    let others = collect P xs (λ i y at. each (suc i) y at) in
    (one.0 ∷ others.0, (ap suc others.1.0, beside one others.0 others.1.1))
  where
    beside : (one : (e : Explored) × (stored_of e ≡ x.0) × P e) (es : List Explored)
        → ((i : ℕ) (e : Explored) → slice_get es i ≡ Some e → (y : Entry) × (slice_get xs i ≡ Some y) × (stored_of e ≡ y.0) × P e)
        → (i : ℕ) (e : Explored) → slice_get (one.0 ∷ es) i ≡ Some e → (y : Entry) × (slice_get (x ∷ xs) i ≡ Some y) × (stored_of e ≡ y.0) × P e
    beside one es others zero e at =
        let is : one.0 ≡ e = same_some one.0 e at in
        (x, refl, sym (ap stored_of is) ∙ one.1, subst P is one.2)
    beside one es others (suc i) e at = others i e at

counts-same : (p : Entry → Bool) (q : Explored → Bool) (seen : List Entry) (es : List Explored) → length es ≡ length seen
    → ((i : ℕ) (x : Entry) (e : Explored) → slice_get seen i ≡ Some x → slice_get es i ≡ Some e → p x ≡ q e) → count_by p seen ≡ count_by q es
counts-same p q [] [] long same = refl
counts-same p q [] (e ∷ es) long same = absurd (omega (arith, long))
counts-same p q (x ∷ xs) [] long same = absurd (omega (arith, long))
counts-same p q (x ∷ xs) (e ∷ es) long same =
    let one : p x ≡ q e = same 0 x e refl refl in
    let others : count_by p xs ≡ count_by q es = counts-same p q xs es (omega (arith, long)) (λ i y d at other. same (suc i) y d at other) in
    sum_by-cons (λ y. cond (p y) 1 0) x xs ∙ (λ i. cond (one i) 1 0 + others i) ∙ sym (sum_by-cons (λ d. cond (q d) 1 0) e es)

module _ (S : ScenarioContents) (before : List Before) (question : Question) (seen : List Entry) (tally : Tally) (grown : IsGrown S before question seen)
    (closed : IsClosedTo S before seen (length seen)) (counted : IsCounted seen tally) where
  beside-all : (es : List Explored) × AreBeside (IsReachable S before) seen es
  beside-all = collect (IsReachable S before) seen (λ i x at. entry-reached S before question seen grown i i x (omega arith) at)

  es-same : (test : Explored → Bool) (note : Entry → Bool)
      → ((i : ℕ) (x : Entry) (e : Explored) → slice_get seen i ≡ Some x → IsWhole S e → stored_of e ≡ x.0 → note x ≡ test e)
      → count_by note seen ≡ count_by test beside-all.0
  es-same test note marked =
      counts-same note test seen beside-all.0 beside-all.1.0
      (λ i x e at other.
      let beside = beside-all.1.1 i e other in
      let is : beside.0 ≡ x = same_some beside.0 x (sym beside.1 ∙ at) in
      marked i x e at (reached-whole S before beside.3.0 e beside.3.1) (beside.2 ∙ ap (λ (y : Entry). y.0) is))

  pub tallied : IsTally S before question tally
  tallied = record {
    states = beside-all.0;
    are_all = record {
      by_orders = λ i e at. (beside-all.1.1 i e at).3;
      all = λ cs e r.
          let stands = all-seen S before seen question grown closed cs e r in
          let there = get_some beside-all.0 stands.1.0 (let below = slice_get_within seen stands.1.0 stands.1.1 stands.1.2 in let long : length beside-all.0 ≡ length seen = beside-all.1.0 in omega (arith, below, long)) in
          let beside = beside-all.1.1 stands.1.0 there.0 there.1 in
          let is : beside.0 ≡ stands.1.1 = same_some beside.0 stands.1.1 (sym beside.1 ∙ stands.1.2) in
          let one : there.0 ≡ e = stored_same S there.0 e (reached-whole S before beside.3.0 there.0 beside.3.1) stands.0 (beside.2 ∙ ap (λ (y : Entry). y.0) is ∙ stands.1.3) in
          (stands.1.0, there.1 ∙ ap Some one);
      once = λ i j e at other.
          let a = beside-all.1.1 i e at in
          let b = beside-all.1.1 j e other in
          grown.apart i j a.0 b.0 a.1 b.1 (sym a.2 ∙ b.2);
    };
    count = counted.states ∙ sym beside-all.1.0;
    first = counted.first ∙ es-same (counts_first S question) (λ x. x.1.first) (λ i x e at whole same. (grown.marked i x e at whole same).first);
    second = counted.second ∙ es-same (counts_second question) (λ x. x.1.second) (λ i x e at whole same. (grown.marked i x e at whole same).second);
    spent = counted.spent ∙ es-same (is_spent S) (λ x. x.1.spent) (λ i x e at whole same. (grown.marked i x e at whole same).spent);
  }

-- What a search comes to, in whatever plan is this one.

pub comes_closed : (plan p : PlanContents) (question : Question) (seen : List Entry) (ending : Ending) (tally : Tally) → p ≡ plan → ending ≡ Closed → Comes p question seen ending
    → IsCounted seen tally → Holds plan.scenario plan.before question × IsTally plan.scenario plan.before question tally
comes_closed plan p question seen ending tally is_plan is_closed comes counted =
    let it = subst (λ (q : PlanContents). Comes q question seen Closed) is_plan (subst (Comes p question seen) is_closed comes) in (
      closed_holds plan.scenario plan.before seen question it.0 it.1 it.2,
      tallied plan.scenario plan.before question seen tally it.0 it.2 counted,
    )

pub comes_failed : (plan p d : PlanContents) (question : Question) (seen : List Entry) (ending : Ending) (place : ℕ) (cs : List Choice) → p ≡ plan → d ≡ p → ending ≡ Failed → Comes p question seen ending
    → place ≡ length seen - 1 → IsOrderTo d.scenario d.before seen place cs → IsFound plan.scenario plan.before question cs
comes_failed plan p d question seen ending place cs is_plan is_same is_failed comes is_place to =
    let it = subst (λ (q : PlanContents). Comes q question seen Failed) is_plan (subst (Comes p question seen) is_failed comes) in
    found_shortest plan.scenario plan.before question it.0 seen it.1 it.2 it.3 it.4 cs
    (subst (λ (n : ℕ). IsOrderTo plan.scenario plan.before seen n cs) is_place (subst (λ (q : PlanContents). IsOrderTo q.scenario q.before seen place cs) (is_same ∙ is_plan) to))

pub comes_deep : (plan p : PlanContents) (question : Question) (seen : List Entry) (ending : Ending) (depth : ℕ) → p ≡ plan → ending ≡ Deep depth → Comes p question seen ending
    → HoldsTo plan.scenario plan.before question depth
comes_deep plan p question seen ending depth is_plan is_deep comes =
    let it = subst (λ (q : PlanContents). Comes q question seen (Deep depth)) is_plan (subst (Comes p question seen) is_deep comes) in
    level_holds plan.scenario plan.before seen question it.0 it.1 depth it.2

-- the start is of the kind
pub found_start : (plan p : PlanContents) (question : Question) (seen : List Entry) (is_of_kind : Bool) → p ≡ plan → is_of_kind ≡ true → Begins p question seen is_of_kind
    → IsFound plan.scenario plan.before question []
found_start plan p question seen is_of_kind is_plan is begins =
    subst (λ (q : PlanContents). IsFound q.scenario q.before question []) is_plan
    (record {
      state = start p.scenario;
      comes = refl;
      is_of_kind = sym begins.marked.fails ∙ begins.fails ∙ is;
      shortest = λ ds e shorter r. absurd (omega (arith, shorter));
    })

-- so many states there are
pub full_states : (limit states : ℕ) (seen : List Entry) (depth : ℕ) → states ≡ length seen → IsFull limit seen depth → (limit ≤ states) ⊎ (MAX_LINES ≤ depth)
full_states limit states seen depth is (inl many) = inl (omega (arith, is, many))
full_states limit states seen depth is (inr deep) = inr deep

-- What is answered of the shortest order.
module _ (S : ScenarioContents) (before : List Before) (question : Question) (limit : ℕ) (cs : List Choice) (found : IsFound S before question cs) where
  pub found_answers : (answer : Answer) → IsFoundWithin cs answer → IsAnswer S before question limit answer
  found_answers (Found ds) is = subst (IsFound S before question) (sym is.0) found
  found_answers (Whole tally) is = absurd is
  found_answers (GaveUp states depth) is = (
    λ ds e few r. found.shortest ds e (let most = is.0 in let more = is.1 in omega (arith, most, more, few)) r,
    inr (let most = is.0 in omega (arith, most)),
  )

  pub found_short : (answer : Answer) → IsFoundWithin cs answer → IsShort answer
  found_short (Found ds) is = (let same = ap length is.0 in let few = is.1 in omega (arith, same, few))
  found_short (Whole tally) is = tt
  found_short (GaveUp states depth) is = tt
