-- What stays, and what comes to be known, where a search adds what a choice leads to.
use Rattle.std.proofs.Common.{length-append, Result, Ok, Err, IfOk, ◌≡◌, ℕ, zero, suc, ◌+◌, ◌<◌, ◌≤◌, Bool, true, false, true≢false, inl, inr, List, [], ◌∷◌, ◌++◌, length, Option, Some, None, is_some, arith, refl, sym, ap, ◌∙◌, subst, append-nil, append_assoc}
use Rattle.std.proofs.lemmas.Map.Entries.{lookup_head, lookup_tail, place_from_lookup}
use Rattle.std.proofs.lemmas.Option.{slice_get_within}
use Rattle.std.specs.List.{slice_get}
use Rattle.std.specs.Map.{lookup}
use Rattle.cmwq_types.specs.Contents.{ScenarioContents}
use Rattle.cmwq_orders.proofs.LengthLemmas.{start-whole, taken-whole}
use Rattle.cmwq_orders.specs.Orders.{Explored, start, taken}
use Rattle.cmwq_orders.specs.Sizes.{IsWhole}
use Rattle.cmwq_orders.specs.declared.choice.Before.{Before}
use Rattle.cmwq_orders.specs.declared.choice.Choice.{Choice}
use Rattle.cmwq_orders.specs.declared.choice.Choice.TheVariants.{Line, Own}
use Rattle.cmwq_orders.proofs.OrderLemmas.{each_choice}
use Rattle.cmwq_types.specs.Scenario.{pool_count}
use Rattle.cmwq_types.specs.declared.instr.Instr.TheVariants as instr
use Rattle.cmwq_explore.specs.Tracing.{IsSeenAt}
use Rattle.cmwq_orders.specs.declared.question.Question.{Question}
use Rattle.cmwq_explore.proofs.ListLemmas.{get_cases, get_last, get_more, get_within, below_or_past, none_some, same_some, split_le}
use Rattle.cmwq_stored.proofs.StoredLemmas.{stored_same}
use Rattle.cmwq_stored.specs.ExactStored.{stored_eq_is_exact}
use Rattle.cmwq_explore.specs.Plans.{PlanContents}
use Rattle.cmwq_explore.specs.Searching.{AreClean, Begins, Came, Entry, Extends, Handles, HasNext, IsAhead, IsClosedTo, IsFailing, IsGrown, IsLevel, IsMarked, IsReady, IsTop, Leads, LeadsInto, Progress, knows}
use Rattle.cmwq_stored.specs.Stored.{StoredContents, stored_eq, stored_of}
use Rattle.cmwq_explore.specs.declared.expanding.Tried.{Tried}
use Rattle.cmwq_explore.specs.declared.expanding.Tried.TheVariants.{Going, Failing, Full}
use Rattle.cmwq_explore.specs.declared.seen.Mark.{Mark}

-- Longer lists.

pub extends_same : (seen : List Entry) → Extends seen seen
extends_same seen = ([], sym (append-nil seen))

pub extends_further : (a b c : List Entry) → Extends a b → Extends b c → Extends a c
extends_further a b c (m, e) (n, f) = (m ++ n, f ∙ ap (λ (l : List Entry). l ++ n) e ∙ append_assoc a m n)

pub extends_by : (seen : List Entry) (x : Entry) → Extends seen (seen ++ x ∷ [])
extends_by seen x = (x ∷ [], refl)

pub there_still : (a b : List Entry) (i : ℕ) (x : Entry) → Extends a b → slice_get a i ≡ Some x → slice_get b i ≡ Some x
there_still a b i x (m, e) h = ap (λ (l : List Entry). slice_get l i) e ∙ get_more a m i x h

there_before : (a b : List Entry) (i : ℕ) (x : Entry) → Extends a b → i < length a → slice_get b i ≡ Some x → slice_get a i ≡ Some x
there_before a b i x (m, e) below h = get_within a m i x below (sym (ap (λ (l : List Entry). slice_get l i) e) ∙ h)

into_further : (a b : List Entry) (depth : ℕ) (f : Explored) → Extends a b → LeadsInto a depth f → LeadsInto b depth f
into_further a b depth f more (i, x, at, same, deep) = (i, x, there_still a b i x more at, same, deep)

pub next_further : (S : ScenarioContents) (before : List Before) (a b : List Entry) (e : Explored) (depth : ℕ) (c : Choice)
    → Extends a b → HasNext S before a e depth c → HasNext S before b e depth c
next_further S before a b e depth c more h f t = into_further a b depth f more (h f t)

-- What is known.

-- a state that is known stands somewhere
known-there : (seen : List Entry) (k : StoredContents) → knows seen k ≡ true → (i : ℕ) × (x : Entry) × (slice_get seen i ≡ Some x) × (x.0 ≡ k)
known-there seen k h = by (lookup (stored_eq k) seen) refl h
  where
    by : (o : Option Mark) → lookup (stored_eq k) seen ≡ o → is_some o ≡ true → (i : ℕ) × (x : Entry) × (slice_get seen i ≡ Some x) × (x.0 ≡ k)
    by (Some m) found some =
        let place = place_from_lookup (stored_eq k) seen m found in
        (place.0, (place.1, m), place.2, sym ((stored_eq_is_exact k place.1).0 place.3))
    by None found some = absurd (true≢false (sym some))

head-known : (y : Entry) (ys : List Entry) (k : StoredContents) → stored_eq k y.0 ≡ true → knows (y ∷ ys) k ≡ true
head-known y ys k h = ap is_some (lookup_head (stored_eq k) y ys h)

tail-known : (y : Entry) (ys : List Entry) (k : StoredContents) → stored_eq k y.0 ≡ false → knows (y ∷ ys) k ≡ knows ys k
tail-known y ys k h = ap is_some (lookup_tail (stored_eq k) y ys h)

-- a state that stands somewhere is known
there-known : (seen : List Entry) (k : StoredContents) (i : ℕ) (x : Entry) → slice_get seen i ≡ Some x → x.0 ≡ k → knows seen k ≡ true
there-known [] k i x at same = absurd (none_some x at)
there-known (y ∷ ys) k zero x at same =
    head-known y ys k ((stored_eq_is_exact k y.0).1 (sym (ap (λ (z : Entry). z.0) (same_some y x at) ∙ same)))
there-known (y ∷ ys) k (suc i) x at same = by (stored_eq k y.0) refl (there-known ys k i x at same)
  where
    by : (b : Bool) → stored_eq k y.0 ≡ b → knows ys k ≡ true → knows (y ∷ ys) k ≡ true
    by true e known = head-known y ys k e
    by false e known = tail-known y ys k e ∙ known

-- so one that isn't known stands nowhere
known-not : (seen : List Entry) (k : StoredContents) → knows seen k ≡ false → (i : ℕ) (x : Entry) → slice_get seen i ≡ Some x → x.0 ≡ k → ⊥
known-not seen k h i x at same = true≢false (sym (there-known seen k i x at same) ∙ h)

-- One state more.

module _ (S : ScenarioContents) (before : List Before) (question : Question) (seen : List Entry) (e f : Explored) (from depth : ℕ) (c : Choice) (m : Mark)
    (ready : IsReady S before question seen e from depth) (leads : taken S before e c ≡ Some f) (new : knows seen (stored_of f) ≡ false)
    (noted : IsMarked S before question f m) (is_from : m.from ≡ from) (is_choice : m.choice ≡ c) (is_depth : m.depth ≡ depth + 1) where
  y : Entry
  y = (stored_of f, m)

  longer : List Entry
  longer = seen ++ (stored_of f, m) ∷ []

  f-whole : IsWhole S f
  f-whole = taken-whole S before e f c ready.whole leads

  leads-to : Leads S before (stored_of e) m.choice (stored_of f)
  leads-to d d_whole same =
      let is : d ≡ e = stored_same S d e d_whole ready.whole same in
      (f, subst (λ (x : Explored). taken S before x m.choice ≡ Some f) (sym is) (subst (λ (x : Choice). taken S before e x ≡ Some f) (sym is_choice) leads), refl)

  came-last : (i : ℕ) → suc i ≡ length seen → Came S before (seen ++ (stored_of f, m) ∷ []) i (stored_of f, m)
  came-last i is =
      let below : from < length seen = slice_get_within seen from (stored_of e, ready.mark) ready.there in
      record {
        origin = (stored_of e, ready.mark);
        there = subst (λ (n : ℕ). slice_get (seen ++ (stored_of f, m) ∷ []) n ≡ Some (stored_of e, ready.mark)) (sym is_from)
            (get_more seen ((stored_of f, m) ∷ []) from (stored_of e, ready.mark) ready.there);
        earlier = omega (arith, is_from, below, is);
        deeper = omega (arith, is_depth, ready.deep);
        leads = leads-to;
      }

  came-before : (i : ℕ) (x : Entry) → slice_get seen (suc i) ≡ Some x → Came S before (seen ++ (stored_of f, m) ∷ []) i x
  came-before i x at =
      let old = ready.grown.came i x at in
      record {
        origin = old.origin;
        there = get_more seen ((stored_of f, m) ∷ []) x.1.from old.origin old.there;
        earlier = old.earlier;
        deeper = old.deeper;
        leads = old.leads;
      }

  marked-last : (x : Entry) (d : Explored) → (stored_of f, m) ≡ x → IsWhole S d → stored_of d ≡ x.0 → IsMarked S before question d x.1
  marked-last x d is d_whole same =
      let k : stored_of f ≡ x.0 = ap (λ (z : Entry). z.0) is in
      let mark : m ≡ x.1 = ap (λ (z : Entry). z.1) is in
      let one : f ≡ d = stored_same S f d f-whole d_whole (k ∙ sym same) in
      subst (λ (n : Mark). IsMarked S before question d n) mark (subst (λ (g : Explored). IsMarked S before question g m) one noted)

  deeper-last : (i : ℕ) (x : Entry) → slice_get seen i ≡ Some x → x.1.depth ≤ m.depth
  deeper-last i x at = let top = ready.top i x at in omega (arith, top, is_depth)

  pub grown_by : IsGrown S before question (seen ++ (stored_of f, m) ∷ [])
  grown_by = record {
    first = ready.grown.first;
    begins = get_more seen ((stored_of f, m) ∷ []) 0 ready.grown.first ready.grown.begins;
    start = ready.grown.start;
    level = ready.grown.level;
    came = λ i x at. elim (get_cases seen (stored_of f, m) (suc i) x at) [
      | inl old ↦ came-before i x old
      | inr last ↦ subst (Came S before (seen ++ (stored_of f, m) ∷ []) i) last.1 (came-last i last.0)
    ];
    marked = λ i x d at d_whole same. elim (get_cases seen (stored_of f, m) i x at) [
      | inl old ↦ ready.grown.marked i x d old d_whole same
      | inr last ↦ marked-last x d last.1 d_whole same
    ];
    rises = λ i j x z le at other. elim (get_cases seen (stored_of f, m) i x at) [
      | inl old ↦ elim (get_cases seen (stored_of f, m) j z other) [
        | inl older ↦ ready.grown.rises i j x z le old older
        | inr last ↦ subst (λ (n : Entry). x.1.depth ≤ n.1.depth) last.1 (deeper-last i x old)
      ]
      | inr last ↦ elim (get_cases seen (stored_of f, m) j z other) [
        | inl older ↦ let below = slice_get_within seen j z older in absurd (omega (arith, below, le, last.0))
        | inr both ↦ let same : x.1.depth ≡ z.1.depth = ap (λ (n : Entry). n.1.depth) (sym last.1 ∙ both.1) in omega (arith, same)
      ]
    ];
    apart = λ i j x z at other same. elim (get_cases seen (stored_of f, m) i x at) [
      | inl old ↦ elim (get_cases seen (stored_of f, m) j z other) [
        | inl older ↦ ready.grown.apart i j x z old older same
        | inr last ↦ absurd (known-not seen (stored_of f) new i x old (same ∙ sym (ap (λ (n : Entry). n.0) last.1)))
      ]
      | inr last ↦ elim (get_cases seen (stored_of f, m) j z other) [
        | inl older ↦ absurd (known-not seen (stored_of f) new j z older (sym (ap (λ (n : Entry). n.0) last.1 ∙ same)))
        | inr both ↦ last.0 ∙ sym both.0
      ]
    ];
  }

  -- what the choice leads to is there now
  pub next_by : HasNext S before (seen ++ (stored_of f, m) ∷ []) e depth c
  next_by g t =
      let same : f ≡ g = same_some f g (sym leads ∙ t) in
      (length seen, (stored_of f, m), get_last seen (stored_of f, m), ap stored_of same, omega (arith, is_depth))

  -- where it is none of the kind, the search goes on
  pub ready_by : m.fails ≡ false → IsReady S before question (seen ++ (stored_of f, m) ∷ []) e from depth
  ready_by clean = record {
    grown = grown_by;
    top = λ i x at. elim (get_cases seen (stored_of f, m) i x at) [
      | inl old ↦ ready.top i x old
      | inr last ↦ let same : m.depth ≡ x.1.depth = ap (λ (n : Entry). n.1.depth) last.1 in omega (arith, same, is_depth)
    ];
    clean = λ i x at. elim (get_cases seen (stored_of f, m) i x at) [
      | inl old ↦ ready.clean i x old
      | inr last ↦ subst (λ (n : Entry). n.1.fails ≡ false) last.1 clean
    ];
    whole = ready.whole;
    mark = ready.mark;
    there = get_more seen ((stored_of f, m) ∷ []) from (stored_of e, ready.mark) ready.there;
    deep = ready.deep;
  }

  -- where it is of the kind, the search has come to its end
  pub failing_by : m.fails ≡ true → IsFailing S before question seen (seen ++ (stored_of f, m) ∷ []) depth
  failing_by fails = record {
    earlier = seen;
    last = (stored_of f, m);
    extends = extends_same seen;
    whole = refl;
    fails = fails;
    deep = is_depth;
    grown = grown_by;
    clean = ready.clean;
  }

-- a state was added behind the others
module _ (S T : ScenarioContents) (before others : List Before) (question : Question) (seen new_seen : List Entry) (e f : Explored) (k : StoredContents) (from depth : ℕ) (c : Choice) (m : Mark)
    (same_scenario : T ≡ S) (same_before : others ≡ before)
    (ready : IsReady S before question seen e from depth) (leads : taken S before e c ≡ Some f) (is_stored : k ≡ stored_of f) (new : knows seen k ≡ false)
    (noted : IsMarked T others question f m) (is_from : m.from ≡ from) (is_choice : m.choice ≡ c) (is_depth : m.depth ≡ depth + 1)
    (added : new_seen ≡ seen ++ (k, m) ∷ []) where
  its-new : knows seen (stored_of f) ≡ false
  its-new = ap (knows seen) (sym is_stored) ∙ new

  its-noted : IsMarked S before question f m
  its-noted = subst (λ (b : List Before). IsMarked S b question f m) same_before (subst (λ (s : ScenarioContents). IsMarked s others question f m) same_scenario noted)

  its-added : new_seen ≡ seen ++ (stored_of f, m) ∷ []
  its-added = added ∙ ap (λ (j : StoredContents). seen ++ (j, m) ∷ []) is_stored

  pub added_failing : m.fails ≡ true → IsFailing S before question seen new_seen depth
  added_failing fails =
      subst (λ (l : List Entry). IsFailing S before question seen l depth) (sym its-added)
      (failing_by S before question seen e f from depth c m ready leads its-new its-noted is_from is_choice is_depth fails)

  pub added_going : m.fails ≡ false → Extends seen new_seen × IsReady S before question new_seen e from depth × HasNext S before new_seen e depth c
  added_going clean =
      subst (λ (l : List Entry). Extends seen l × IsReady S before question l e from depth × HasNext S before l e depth c) (sym its-added) (
        extends_by seen (stored_of f, m),
        ready_by S before question seen e f from depth c m ready leads its-new its-noted is_from is_choice is_depth clean,
        next_by S before question seen e f from depth c m ready leads its-new its-noted is_from is_choice is_depth,
      )

-- the start alone
pub begins_by : (plan p other : PlanContents) (question : Question) (old seen : List Entry) (e : Explored) (k : StoredContents) (m : Mark) → old ≡ [] → seen ≡ old ++ (k, m) ∷ []
    → k ≡ stored_of e → e ≡ start other.scenario → p ≡ other → other ≡ plan → IsMarked p.scenario p.before question e m → m.depth ≡ 0 → Begins plan question seen m.fails
begins_by plan p other question old seen e k m none added is_stored is_start is_other is_plan noted level =
    let e_is : e ≡ start plan.scenario = is_start ∙ ap (λ (q : PlanContents). start q.scenario) is_plan in
    record {
      mark = m;
      whole = added ∙ ap (λ (l : List Entry). l ++ (k, m) ∷ []) none ∙ ap (λ (j : StoredContents). (j, m) ∷ []) (is_stored ∙ ap stored_of e_is);
      marked = subst (λ (d : Explored). IsMarked plan.scenario plan.before question d m) e_is
          (subst (λ (q : PlanContents). IsMarked q.scenario q.before question e m) (is_other ∙ is_plan) noted);
      level = level;
      fails = refl;
    }

-- what a choice leads to is known already
pub next_known : (S : ScenarioContents) (before : List Before) (question : Question) (seen : List Entry) (e f : Explored) (from depth : ℕ) (c : Choice)
    → IsReady S before question seen e from depth → taken S before e c ≡ Some f → knows seen (stored_of f) ≡ true → HasNext S before seen e depth c
next_known S before question seen e f from depth c ready leads known g t =
    let same : f ≡ g = same_some f g (sym leads ∙ t) in
    let place = known-there seen (stored_of f) known in
    (place.0, place.1, place.2, place.3 ∙ ap stored_of same, ready.top place.0 place.1 place.2)

-- a choice that can't be taken leads nowhere
pub next_none : (S : ScenarioContents) (before : List Before) (seen : List Entry) (e : Explored) (depth : ℕ) (c : Choice)
    → taken S before e c ≡ None → HasNext S before seen e depth c
next_none S before seen e depth c none f t = absurd (none_some f (sym none ∙ t))

-- what comes behind what went before
pub progress_later : (plan : PlanContents) (question : Question) (old mid new : List Entry) (e : Explored) (from depth : ℕ) (A B : Type 0) (tried : Tried)
    → Extends old mid → Progress plan question mid new e from depth A tried → (tried ≡ Going → ⊥) → Progress plan question old new e from depth B tried
progress_later plan question old mid new e from depth A B Going more progress other = absurd (other refl)
progress_later plan question old mid new e from depth A B Failing more progress other = record {
  earlier = progress.earlier;
  last = progress.last;
  extends = extends_further old mid progress.earlier more progress.extends;
  whole = progress.whole;
  fails = progress.fails;
  deep = progress.deep;
  grown = progress.grown;
  clean = progress.clean;
}
progress_later plan question old mid new e from depth A B Full more progress other = (extends_further old mid new more progress.0, progress.1)

-- The beginning.

module _ (S : ScenarioContents) (before : List Before) (question : Question) (m : Mark) (noted : IsMarked S before question (start S) m) (level : m.depth ≡ 0) where
  only : (i : ℕ) (x : Entry) → slice_get ((stored_of (start S), m) ∷ []) i ≡ Some x → (i ≡ 0) × ((stored_of (start S), m) ≡ x)
  only zero x at = (refl, same_some (stored_of (start S), m) x at)
  only (suc i) x at = absurd (none_some x at)

  pub grown_start : IsGrown S before question ((stored_of (start S), m) ∷ [])
  grown_start = record {
    first = (stored_of (start S), m);
    begins = refl;
    start = refl;
    level = level;
    came = λ i x at. absurd (none_some x at);
    marked = λ i x d at d_whole same.
        let is = (only i x at).1 in
        let one : start S ≡ d = stored_same S (start S) d (start-whole S) d_whole (ap (λ (z : Entry). z.0) is ∙ sym same) in
        subst (λ (n : Mark). IsMarked S before question d n) (ap (λ (z : Entry). z.1) is) (subst (λ (g : Explored). IsMarked S before question g m) one noted);
    rises = λ i j x z le at other.
        let same : x.1.depth ≡ z.1.depth = ap (λ (n : Entry). n.1.depth) (sym (only i x at).1 ∙ (only j z other).1) in omega (arith, same);
    apart = λ i j x z at other same. (only i x at).0 ∙ sym (only j z other).0;
  }

  pub clean_start : m.fails ≡ false → AreClean ((stored_of (start S), m) ∷ [])
  clean_start clean i x at = subst (λ (n : Entry). n.1.fails ≡ false) (only i x at).1 clean

-- The first states, out of which no choice leads.

pub closed_none : (S : ScenarioContents) (before : List Before) (seen : List Entry) → IsClosedTo S before seen 0
closed_none S before seen i x e below at whole same c f t = absurd (omega (arith, below))

pub closed_further : (S : ScenarioContents) (before : List Before) (a b : List Entry) (handled : ℕ) → handled ≤ length a → IsClosedTo S before a handled → Extends a b → IsClosedTo S before b handled
closed_further S before a b handled fits closed more i x e below at whole same c f t =
    into_further a b x.1.depth f more (closed i x e below (there_before a b i x more (omega (arith, below, fits)) at) whole same c f t)

pub closed_one_more : (S : ScenarioContents) (before : List Before) (a b : List Entry) (handled : ℕ) (e : Explored) (m : Mark)
    → IsClosedTo S before a handled → Extends a b → slice_get a handled ≡ Some (stored_of e, m) → IsWhole S e
    → ((c : Choice) → HasNext S before b e m.depth c) → IsClosedTo S before b (handled + 1)
closed_one_more S before a b handled e m closed more here whole nexts i x d below at d_whole same c f t =
    let inside : handled < length a = slice_get_within a handled (stored_of e, m) here in
    elim (split_le i handled (omega (arith, below))) [
      | inl less ↦ closed_further S before a b handled (omega (arith, inside)) closed more i x d less at d_whole same c f t
      | inr last ↦
          let is : (stored_of e, m) ≡ x =
          same_some (stored_of e, m) x (sym (there_still a b handled (stored_of e, m) more here) ∙ ap (slice_get b) (sym last) ∙ at) in
          let one : e ≡ d = stored_same S e d whole d_whole (ap (λ (z : Entry). z.0) is ∙ sym same) in
          let deep : m.depth ≡ x.1.depth = ap (λ (z : Entry). z.1.depth) is in
          subst (λ (n : ℕ). LeadsInto b n f) deep (nexts c f (subst (λ (g : Explored). taken S before g c ≡ Some f) (sym one) t))
    ]

-- A state that is handled.

module _ (plan : PlanContents) (question : Question) (old new : List Entry) (e : Explored) (place depth : ℕ) (m : Mark)
    (ahead : IsAhead plan question old place depth) (whole : IsWhole plan.scenario e) (there : slice_get old place ≡ Some (stored_of e, m)) where
  entry-is : ahead.entry ≡ (stored_of e, m)
  entry-is = same_some ahead.entry (stored_of e, m) (sym ahead.there ∙ there)

  m-deep : m.depth ≡ depth
  m-deep = sym (ap (λ (x : Entry). x.1.depth) entry-is) ∙ ahead.deep

  -- it stands before the search
  pub ready_there : IsReady plan.scenario plan.before question old e place depth
  ready_there = record { grown = ahead.grown; top = ahead.top; clean = ahead.clean; whole = whole; mark = m; there = there; deep = m-deep }

  -- what lies less deep stands before it
  early : (seen : List Entry) → IsGrown plan.scenario plan.before question seen → slice_get seen place ≡ Some (stored_of e, m)
      → (i : ℕ) (x : Entry) → slice_get seen i ≡ Some x → x.1.depth < depth → i < place
  early seen grown here i x at less = elim (below_or_past i place) [
    | inl before ↦ before
    | inr behind ↦ let deeper = grown.rises place i (stored_of e, m) x behind here at in absurd (omega (arith, deeper, less, m-deep))
  ]

  level-old : IsLevel plan.scenario plan.before old depth
  level-old = (place, ahead.closed, early old ahead.grown there)

  level-new : Extends old new → IsGrown plan.scenario plan.before question new → IsLevel plan.scenario plan.before new depth
  level-new more grown =
      let inside : place < length old = slice_get_within old place (stored_of e, m) there in
      (place, closed_further plan.scenario plan.before old new place (omega (arith, inside)) ahead.closed more, early new grown (there_still old new place (stored_of e, m) more there))

  top-next : Extends old new → IsReady plan.scenario plan.before question new e place depth → (x : Entry) → slice_get new (place + 1) ≡ Some x → IsTop new x.1.depth
  top-next more ready x at i y other =
      let deeper = ready.grown.rises place (place + 1) (stored_of e, m) x (omega arith) (there_still old new place (stored_of e, m) more there) at in
      let top = ready.top i y other in
      omega (arith, deeper, top, m-deep)

  pub handled_by : (tried : Tried) → Progress plan question old new e place depth ((c : Choice) → HasNext plan.scenario plan.before new e depth c) tried
      → Handles plan question old new place depth tried
  handled_by Going (more, ready, nexts) = (
    ready.grown,
    ready.clean,
    closed_one_more plan.scenario plan.before old new place e m ahead.closed more there whole (subst (λ (n : ℕ). (c : Choice) → HasNext plan.scenario plan.before new e n c) (sym m-deep) nexts),
    top-next more ready,
    (let long : length new ≡ length (old ++ more.0) = ap length more.1 in let both = length-append old more.0 in omega (arith, long, both)),
  )
  handled_by Failing failing = (failing, ahead.grown, level-old)
  handled_by Full (more, ready) = (ready.grown, ready.clean, level-new more ready.grown)

-- the search begins before the start
pub ahead_first : (plan : PlanContents) (question : Question) (seen : List Entry) → Begins plan question seen false
    → IsGrown plan.scenario plan.before question seen × AreClean seen × IsClosedTo plan.scenario plan.before seen 0
    × ((x : Entry) → slice_get seen 0 ≡ Some x → IsTop seen x.1.depth)
ahead_first plan question seen begins =
    let one : List Entry = (stored_of (start plan.scenario), begins.mark) ∷ [] in
    let grown = grown_start plan.scenario plan.before question begins.mark begins.marked begins.level in
    let clean = clean_start plan.scenario plan.before question begins.mark begins.marked begins.level begins.fails in
    subst
    (λ (l : List Entry). IsGrown plan.scenario plan.before question l × AreClean l × IsClosedTo plan.scenario plan.before l 0
    × ((x : Entry) → slice_get l 0 ≡ Some x → IsTop l x.1.depth))
    (sym begins.whole) (
      grown,
      clean,
      closed_none plan.scenario plan.before one,
      λ x at i y other. let less = grown.rises 0 i x y (omega arith) at other in
          let level : y.1.depth ≡ 0 = ap (λ (z : Entry). z.1.depth) (sym (only plan.scenario plan.before question begins.mark begins.marked begins.level i y other).1) ∙ begins.level in
          omega (arith, level),
    )

-- Choice by choice.

module _ (plan : PlanContents) (question : Question) (e : Explored) (from depth : ℕ) where
  -- what the choice leads to is known as what those before it lead to
  pub one_more : (old mid new : List Entry) (next : ℕ → Choice) (i : ℕ) (tried : Tried) → tried ≡ Going → Extends old mid
      → ((n : ℕ) → n < i → HasNext plan.scenario plan.before mid e depth (next n))
      → Progress plan question mid new e from depth (HasNext plan.scenario plan.before new e depth (next i)) tried
      → Extends old new × IsReady plan.scenario plan.before question new e from depth × ((n : ℕ) → n < i + 1 → HasNext plan.scenario plan.before new e depth (next n))
  one_more old mid new next i tried is more before progress =
      let goes = subst (Progress plan question mid new e from depth (HasNext plan.scenario plan.before new e depth (next i))) is progress in (
        extends_further old mid new more goes.0,
        goes.1,
        λ n below. elim (split_le n i (omega (arith, below))) [
          | inl less ↦ next_further plan.scenario plan.before mid new e depth (next n) goes.0 (before n less)
          | inr last ↦ subst (λ (k : ℕ). HasNext plan.scenario plan.before new e depth (next k)) (sym last) goes.2
        ],
      )

  -- a tried choice that isn't the last
  abbrev Goes : List Entry → List Entry → Type 0 → Tried → Type 0
  Goes old new Known tried = (tried ≡ Going) × Progress plan question old new e from depth Known tried

  all-of : (a b c d new : List Entry)
      → Goes a b ((actor : ℕ) → actor < length plan.scenario.actors → HasNext plan.scenario plan.before b e depth (Line actor)) Going
      → Goes b c (HasNext plan.scenario plan.before c e depth (Own instr.Fire)) Going
      → Goes c d ((pool : ℕ) → pool < pool_count plan.scenario → HasNext plan.scenario plan.before d e depth (Own (instr.Step pool))) Going
      → (tried : Tried) → Progress plan question d new e from depth (HasNext plan.scenario plan.before new e depth (Own instr.Tick)) tried
      → Progress plan question a new e from depth ((ch : Choice) → HasNext plan.scenario plan.before new e depth ch) tried
  all-of a b c d new (is_one, lines) (is_two, fire) (is_three, steps) Going tick =
      let S = plan.scenario in
      let cd : Extends c new = extends_further c d new steps.0 tick.0 in
      let bd : Extends b new = extends_further b c new fire.0 cd in (
        extends_further a b new lines.0 bd,
        tick.1,
        each_choice plan.scenario plan.before e (λ (ch : Choice). HasNext plan.scenario plan.before new e depth ch)
            (λ actor below. next_further plan.scenario plan.before b new e depth (Line actor) bd (lines.2 actor below))
            (next_further plan.scenario plan.before c new e depth (Own instr.Fire) cd fire.2)
            (λ pool below. next_further plan.scenario plan.before d new e depth (Own (instr.Step pool)) tick.0 (steps.2 pool below))
            tick.2
            (λ ch none. next_none plan.scenario plan.before new e depth ch none),
      )
  all-of a b c d new (is_one, lines) (is_two, fire) (is_three, steps) Failing tick =
      progress_later plan question a d new e from depth (HasNext plan.scenario plan.before new e depth (Own instr.Tick)) ((ch : Choice) → HasNext plan.scenario plan.before new e depth ch)
      Failing (extends_further a b d lines.0 (extends_further b c d fire.0 steps.0)) tick (λ same. cc)
  all-of a b c d new (is_one, lines) (is_two, fire) (is_three, steps) Full tick =
      progress_later plan question a d new e from depth (HasNext plan.scenario plan.before new e depth (Own instr.Tick)) ((ch : Choice) → HasNext plan.scenario plan.before new e depth ch)
      Full (extends_further a b d lines.0 (extends_further b c d fire.0 steps.0)) tick (λ same. cc)

  going : (old new : List Entry) (Known : Type 0) (tried : Tried) → tried ≡ Going → Progress plan question old new e from depth Known tried → Goes old new Known Going
  going old new Known tried is progress = (refl, subst (Progress plan question old new e from depth Known) is progress)

  -- all choices were tried, the last one last
  pub expanded : {E : Type 0} (a b c d new : List Entry) (one two three : Tried) (r : Result Tried E) → one ≡ Going → two ≡ Going → three ≡ Going
      → Progress plan question a b e from depth ((actor : ℕ) → actor < length plan.scenario.actors → HasNext plan.scenario plan.before b e depth (Line actor)) one
      → Progress plan question b c e from depth (HasNext plan.scenario plan.before c e depth (Own instr.Fire)) two
      → Progress plan question c d e from depth ((pool : ℕ) → pool < pool_count plan.scenario → HasNext plan.scenario plan.before d e depth (Own (instr.Step pool))) three
      → IfOk r (Progress plan question d new e from depth (HasNext plan.scenario plan.before new e depth (Own instr.Tick)))
      → IfOk r (Progress plan question a new e from depth ((ch : Choice) → HasNext plan.scenario plan.before new e depth ch))
  expanded a b c d new one two three (Ok tried) is_one is_two is_three lines fire steps tick =
      all-of a b c d new (going a b _ one is_one lines) (going b c _ two is_two fire) (going c d _ three is_three steps) tried tick
  expanded a b c d new one two three (Err why) is_one is_two is_three lines fire steps tick = tt

-- a state that was handled
pub handled_result : {E : Type 0} (plan p : PlanContents) (question : Question) (old new : List Entry) (e : Explored) (place depth : ℕ) (r : Result Tried E) → p ≡ plan
    → IsAhead plan question old place depth → IsWhole plan.scenario e → IsSeenAt old place e
    → IfOk r (Progress p question old new e place depth ((c : Choice) → HasNext p.scenario p.before new e depth c)) → IfOk r (Handles plan question old new place depth)
handled_result plan p question old new e place depth (Ok tried) is ahead whole there progress =
    handled_by plan question old new e place depth there.0 ahead whole there.1 tried
    (subst (λ (q : PlanContents). Progress q question old new e place depth ((c : Choice) → HasNext q.scenario q.before new e depth c) tried) is progress)
handled_result plan p question old new e place depth (Err why) is ahead whole there progress = tt

-- it stands before the search, in whatever plan is this one
pub ready_in : (plan p : PlanContents) (question : Question) (old : List Entry) (e : Explored) (place depth : ℕ) → p ≡ plan
    → IsAhead plan question old place depth → IsWhole plan.scenario e → IsSeenAt old place e → IsReady p.scenario p.before question old e place depth
ready_in plan p question old e place depth is ahead whole there =
    subst (λ (q : PlanContents). IsReady q.scenario q.before question old e place depth) (sym is)
    (ready_there plan question old old e place depth there.0 ahead whole there.1)
