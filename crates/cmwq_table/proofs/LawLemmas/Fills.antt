-- A fill is a chain of activations, and leaves no room for an inactive work.
use Rattle.std.proofs.Common.{◌≡◌, ℕ, zero, suc, ◌+◌, ◌<◌, ◌≤◌, Bool, true, false, cond, ◌&&◌, length, Option, Some, None, arith, refl, sym, ap, ◌∙◌, subst, inl, inr}
use Rattle.std.proofs.lemmas.Bool.{cases_lt, eqb-true, eq-eqb, ltb-false, and_parts, and_from}
use Rattle.std.proofs.lemmas.List.{get_or_past}
use Rattle.std.specs.Prelude.{◌==◌}
use Rattle.cmwq_types.specs.Contents.{ScenarioContents}
use Rattle.cmwq_types.specs.First.{count_below, MatchFirst}
use Rattle.cmwq_types.specs.Scenario.{queue_of}
use Rattle.cmwq_types.specs.declared.reply.Place.{Place}
use Rattle.cmwq_types.specs.declared.reply.Place.TheVariants.{Timer, Inactive, Listed, Deferred}
use Rattle.cmwq_types.proofs.FirstLemmas.{by_least-order, first_below-is_first}
use Rattle.cmwq_table.specs.declared.state.Pending.{Pending}
use Rattle.cmwq_table.specs.declared.state.Running.{Running}
use Rattle.cmwq_table.specs.State.{State, pending_at, running_at}
use Rattle.cmwq_table.specs.Counts.{active, limit, has_room, first_inactive, is_inactive, pends, pending_before, pending_stamp}
use Rattle.cmwq_table.specs.Moves.{enlist, fill, fill_one, fill_times, listed_at}
use Rattle.cmwq_table.proofs.LawLemmas.Changes.{IsLong, Alters, Kind, Change, Follows}
use Rattle.cmwq_table.proofs.LawLemmas.Counting.{bit, count_below-changed, count_below-none, count_below-most}
use Rattle.cmwq_table.proofs.LawLemmas.Makers.{alters-pending}

-- the work is inactive in the pool
abbrev pub waits : State → ℕ → ℕ → Bool
waits s w pool = pends (λ place. is_inactive place pool) (pending_at s w)

-- the queue has no room in the pool, or no inactive work there
abbrev pub IsFull : ScenarioContents → State → ℕ → ℕ → Type 0
IsFull S s queue pool = (w : ℕ) → queue_of S w ≡ queue → waits s w pool ≡ true → limit S s queue ≤ active S s queue pool

-- how many works of the queue are inactive in the pool
abbrev pub inactive : ScenarioContents → State → ℕ → ℕ → ℕ
inactive S s queue pool = count_below (λ w. (queue_of S w == queue) && waits s w pool) (length S.works)

pub waits-in_range : (S : ScenarioContents) (s : State) (w : ℕ) (test : Place → Bool) → IsLong S s → pends test (pending_at s w) ≡ true → w < length S.works
waits-in_range S s w test long e =
    elim (cases_lt w (length S.works)) [
      | inl lt ↦ lt
      | inr past ↦ (let none : pending_at s w ≡ None = get_or_past s.pending w None (omega (arith, long.pending)) in
          let fails : pends test (pending_at s w) ≡ false = ap (pends test) none in
          absurd (cc (fails, e)))
    ]

pub first-is_first : (S : ScenarioContents) (s : State) (queue pool : ℕ)
    → MatchFirst (pending_before s) (λ w. (queue_of S w == queue) && waits s w pool) (length S.works) (first_inactive S s queue pool)
first-is_first S s queue pool = first_below-is_first (pending_before s) (λ w. (queue_of S w == queue) && waits s w pool) (length S.works) (by_least-order (λ w. pending_stamp (pending_at s w)))

-- a state that a fill of one work leaves: unchanged since nothing is left to fill, or one inactive work fewer
data FillsOne (S : ScenarioContents) (places wakes : Bool) (queue pool : ℕ) (s : State) : State → Type 0 where
  full : IsFull S s queue pool → FillsOne S places wakes queue pool s s
  one : (t : State) (w : ℕ) → Change S places wakes None s t w → inactive S t queue pool < inactive S s queue pool → FillsOne S places wakes queue pool s t

full-none : (S : ScenarioContents) (s : State) (queue pool : ℕ) → IsLong S s
    → ((k : ℕ) → k < length S.works → ((queue_of S k == queue) && waits s k pool) ≡ false) → IsFull S s queue pool
full-none S s queue pool long none w of_queue is_waiting =
    let there : w < length S.works = waits-in_range S s w (λ place. is_inactive place pool) long is_waiting in
    let fails : ((queue_of S w == queue) && waits s w pool) ≡ false = none w there in
    let passes : ((queue_of S w == queue) && waits s w pool) ≡ true = and_from (queue_of S w == queue) (waits s w pool) (eq-eqb (queue_of S w) queue of_queue) is_waiting in
    absurd (cc (fails, passes))

full-no_room : (S : ScenarioContents) (s : State) (queue pool : ℕ) → has_room S s queue pool ≡ false → IsFull S s queue pool
full-no_room S s queue pool e w of_queue is_waiting = ltb-false (active S s queue pool) (limit S s queue) e

activate-kind : (S : ScenarioContents) (places wakes : Bool) (s : State) (w pool : ℕ) (r : Option Running) (p : Pending) (place : Place)
    → p.place ≡ place → is_inactive place pool ≡ true → has_room S s (queue_of S w) pool ≡ true → first_inactive S s (queue_of S w) pool ≡ Some w
    → Kind S places wakes s w None (Some p) r (listed_at pool s.next (Some p)) r (s.next + 1)
activate-kind S places wakes s w pool r p (Inactive at) e is room first =
    let same : at ≡ pool = eqb-true at pool is in
    let was : Some (record { born = p.born; stamp = p.stamp; place = Inactive pool }) ≡ Some p = ap (λ (x : Place). Some (record { born = p.born; stamp = p.stamp; place = x })) (ap Inactive (sym same) ∙ sym e) in
    subst (λ (o : Option Pending). Kind S places wakes s w None o r (listed_at pool s.next (Some p)) r (s.next + 1)) was
    (Kind.activated p.born p.stamp r pool room first)
activate-kind S places wakes s w pool r p (Timer due cpu) e is room first = cc
activate-kind S places wakes s w pool r p (Listed at) e is room first = cc
activate-kind S places wakes s w pool r p (Deferred at) e is room first = cc

activate-change : (S : ScenarioContents) (places wakes : Bool) (s : State) (w pool : ℕ) → IsLong S s → w < length S.works
    → has_room S s (queue_of S w) pool ≡ true → first_inactive S s (queue_of S w) pool ≡ Some w → (o : Option Pending) → pending_at s w ≡ o
    → pends (λ place. is_inactive place pool) o ≡ true → Change S places wakes None s (enlist s pool (Some w)) w
activate-change S places wakes s w pool long h room first (Some p) e is = record {
  p = listed_at pool s.next (pending_at s w);
  r = running_at s w;
  alters = alters-pending S s w (listed_at pool s.next (pending_at s w)) (s.next + 1) long h;
  kind = subst (λ (o : Option Pending). Kind S places wakes s w None o (running_at s w) (listed_at pool s.next o) (running_at s w) (s.next + 1)) (sym e)
      (activate-kind S places wakes s w pool (running_at s w) p p.place refl is room first);
}
activate-change S places wakes s w pool long h room first None e is = cc

listed-waits : (pool stamp : ℕ) (o : Option Pending) → pends (λ place. is_inactive place pool) (listed_at pool stamp o) ≡ false
listed-waits pool stamp (Some p) = refl
listed-waits pool stamp None = refl

fewer-inactive : (S : ScenarioContents) (s t : State) (w queue pool : ℕ) (p : Option Pending) (r : Option Running) → Alters S s t w p r
    → ((queue_of S w == queue) && waits s w pool) ≡ true → pends (λ place. is_inactive place pool) p ≡ false
    → inactive S t queue pool < inactive S s queue pool
fewer-inactive S s t w queue pool p r alters passes still =
    let test = λ (v : ℕ) (o : Option Pending). (queue_of S v == queue) && pends (λ place. is_inactive place pool) o in
    let changed : inactive S t queue pool + bit (test w (pending_at s w)) ≡ inactive S s queue pool + bit (test w (pending_at t w)) =
    count_below-changed (λ v. test v (pending_at t v)) (λ v. test v (pending_at s v)) (length S.works) w alters.in_range (λ v ne. ap (test v) (alters.pending_else v ne)) in
    let of_queue : (queue_of S w == queue) ≡ true = (and_parts (queue_of S w == queue) (waits s w pool) passes).0 in
    let before : bit (test w (pending_at s w)) ≡ 1 = ap bit passes in
    let after : bit (test w (pending_at t w)) ≡ 0 = ap (λ (o : Option Pending). bit (test w o)) alters.pending_here ∙ (ap (λ (b : Bool). bit ((queue_of S w == queue) && b)) still ∙ ap (λ (b : Bool). bit (b && false)) of_queue) in
    omega arith

fills-found : (S : ScenarioContents) (places wakes : Bool) (queue pool : ℕ) (s : State) → IsLong S s → has_room S s queue pool ≡ true → (o : Option ℕ)
    → first_inactive S s queue pool ≡ o → MatchFirst (pending_before s) (λ w. (queue_of S w == queue) && waits s w pool) (length S.works) o
    → FillsOne S places wakes queue pool s (enlist s pool o)
fills-found S places wakes queue pool s long room None e none = FillsOne.full (full-none S s queue pool long none)
fills-found S places wakes queue pool s long room (Some w) e first =
    let parts = and_parts (queue_of S w == queue) (waits s w pool) first.passes in
    let of_queue : queue_of S w ≡ queue = eqb-true (queue_of S w) queue parts.0 in
    let room_there : has_room S s (queue_of S w) pool ≡ true = ap (λ (q : ℕ). has_room S s q pool) of_queue ∙ room in
    let first_there : first_inactive S s (queue_of S w) pool ≡ Some w = ap (λ (q : ℕ). first_inactive S s q pool) of_queue ∙ e in
    let change : Change S places wakes None s (enlist s pool (Some w)) w = activate-change S places wakes s w pool long first.in_range room_there first_there (pending_at s w) refl parts.1 in
    let alters : Alters S s (enlist s pool (Some w)) w (listed_at pool s.next (pending_at s w)) (running_at s w) = alters-pending S s w (listed_at pool s.next (pending_at s w)) (s.next + 1) long first.in_range in
    FillsOne.one (enlist s pool (Some w)) w change
    (fewer-inactive S s (enlist s pool (Some w)) w queue pool (listed_at pool s.next (pending_at s w)) (running_at s w) alters first.passes (listed-waits pool s.next (pending_at s w)))

fills-one-if : (S : ScenarioContents) (places wakes : Bool) (queue pool : ℕ) (s : State) → IsLong S s → (b : Bool) → has_room S s queue pool ≡ b
    → FillsOne S places wakes queue pool s (enlist s pool (cond b (first_inactive S s queue pool) None))
fills-one-if S places wakes queue pool s long true room = fills-found S places wakes queue pool s long room (first_inactive S s queue pool) refl (first-is_first S s queue pool)
fills-one-if S places wakes queue pool s long false room = FillsOne.full (full-no_room S s queue pool room)

fills-one : (S : ScenarioContents) (places wakes : Bool) (queue pool : ℕ) (s : State) → IsLong S s → FillsOne S places wakes queue pool s (fill_one S queue pool s)
fills-one S places wakes queue pool s long = fills-one-if S places wakes queue pool s long (has_room S s queue pool) refl

-- a state that a fill leaves
pub record Fills (S : ScenarioContents) (places wakes : Bool) (queue pool : ℕ) (s t : State) : Type 0 where
  pub follows : Follows S places wakes s t
  pub long : IsLong S t
  pub full : IsFull S t queue pool

full-unless : (S : ScenarioContents) (s : State) (queue pool : ℕ) → IsLong S s → inactive S s queue pool ≤ 0 → IsFull S s queue pool
full-unless S s queue pool long few = full-none S s queue pool long (λ k h. count_below-none (λ w. (queue_of S w == queue) && waits s w pool) (length S.works) k (omega arith) h)

-- where nothing is left to fill, filling changes nothing
fill_times-stays : (S : ScenarioContents) (queue pool n : ℕ) (s : State) → fill_one S queue pool s ≡ s → fill_times S queue pool n s ≡ s
fill_times-stays S queue pool zero s still = refl
fill_times-stays S queue pool (suc n) s still = ap (fill_times S queue pool n) still ∙ fill_times-stays S queue pool n s still

fills-rest : (S : ScenarioContents) (places wakes : Bool) (queue pool n : ℕ) (s t : State) → IsLong S s → inactive S s queue pool ≤ suc n
    → ((u : State) → IsLong S u → inactive S u queue pool ≤ n → Fills S places wakes queue pool u (fill_times S queue pool n u))
    → fill_one S queue pool s ≡ t → FillsOne S places wakes queue pool s t → Fills S places wakes queue pool s (fill_times S queue pool n t)
fills-rest S places wakes queue pool n s t long few again e (FillsOne.full is_full) =
    subst (λ (u : State). Fills S places wakes queue pool s u) (sym (fill_times-stays S queue pool n s e))
    (record { follows = Follows.stays places wakes s; long = long; full = is_full })
fills-rest S places wakes queue pool n s t long few again e (FillsOne.one u w change fewer) =
    let rest : Fills S places wakes queue pool t (fill_times S queue pool n t) = again t change.alters.long (omega arith) in
    record { follows = Follows.changes places wakes s t (fill_times S queue pool n t) w change rest.follows; long = rest.long; full = rest.full }

fills-times : (S : ScenarioContents) (places wakes : Bool) (queue pool n : ℕ) (s : State) → IsLong S s → inactive S s queue pool ≤ n
    → Fills S places wakes queue pool s (fill_times S queue pool n s)
fills-times S places wakes queue pool zero s long few = record { follows = Follows.stays places wakes s; long = long; full = full-unless S s queue pool long few }
fills-times S places wakes queue pool (suc n) s long few =
    fills-rest S places wakes queue pool n s (fill_one S queue pool s) long few (fills-times S places wakes queue pool n) refl (fills-one S places wakes queue pool s long)

pub fill-fills : (S : ScenarioContents) (places wakes : Bool) (queue pool : ℕ) (s : State) → IsLong S s → Fills S places wakes queue pool s (fill S queue pool s)
fill-fills S places wakes queue pool s long =
    fills-times S places wakes queue pool (length S.works) s long (count_below-most (λ w. (queue_of S w == queue) && waits s w pool) (length S.works))
