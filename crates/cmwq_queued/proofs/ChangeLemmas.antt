-- What a change of one work makes of the indexes.
use Rattle.std.proofs.Common.{◌≡◌, ◌≢◌, ℕ, ◌+◌, ◌*◌, ◌<◌, ◌≤◌, Bool, true, List, length, get_or, replicate, set, Option, Some, None, IfSome, arith, refl, sym, ap, ◌∙◌, inl, inr, subst}
use Rattle.std.proofs.lemmas.Bool.{cases_eq, cases_lt}
use Rattle.std.proofs.lemmas.List.{get_or-replicate, get_or-set_same, get_or-set_other, get_or_past, length-replicate, length-set, set-get_or, set-set}
use Rattle.cmwq_types.specs.Contents.{ScenarioContents}
use Rattle.cmwq_types.specs.Scenario.{flags_at, queue_of}
use Rattle.cmwq_types.specs.Setting.{IsSetting}
use Rattle.cmwq_types.specs.declared.reply.Place.{Place}
use Rattle.cmwq_types.specs.declared.reply.Place.TheVariants as place
use Rattle.cmwq_lists.specs.ListContents.{ListContents, Rank, no_ranks, rank_at, with_node, with_rank}
use Rattle.cmwq_queued.specs.Indexes.{IsIndexed, active_class, active_classes, active_at, busy_at, busy_class, busy_classes, list_of, rank_of, ranked, timer_of}
use Rattle.cmwq_queued.specs.QueuedContents.{QueuedContents, is_timer, pending_at, with_pending}
use Rattle.cmwq_queued.specs.declared.pools.TheConstants.{MAX_POOLS}
use Rattle.cmwq_table.specs.Counts.{pending_stamp, pends}
use Rattle.cmwq_table.specs.declared.state.Pending.{Pending}
use Rattle.cmwq_tally.specs.TallyContents.{IsTallied, changed, count_of, with_one_fewer, with_one_more}
use Rattle.cmwq_tally.proofs.TallyLemmas.{changed-length, changed_is_tallied, each_is_counted, empty_is_tallied, few_are_counted}
use Rattle.cmwq_timers.specs.Timers.{timer_at}
use Rattle.cmwq_timers.specs.declared.timer.Timer.{Timer}

-- taken out of its list and put into another
pub relisted : (c : ListContents) (w list stamp : ℕ) → with_node (with_rank c w None) list (record { order = stamp; work = record { 0 = w } }) ≡ with_rank c w (ranked (Some list) stamp)
relisted c w list stamp = ap (λ (ranks : List (Option Rank)). record c { ranks = ranks }) (set-set c.ranks w None (ranked (Some list) stamp))

-- The tallies.

-- what stands in a class is counted there, and no class is full
pub counted_in : (counts : List ℕ) (class : ℕ → Option ℕ) (works w : ℕ) → IsTallied counts class works → w < works → IfSome (class w) (λ i. i < length counts → 0 < count_of counts i)
counted_in counts class works w is below = by_class (class w) refl
  where
    by_class : (o : Option ℕ) → class w ≡ o → IfSome o (λ i. i < length counts → 0 < count_of counts i)
    by_class None e = tt
    by_class (Some i) e = each_is_counted counts class works w i is below e

pub has_room_for_one : (counts : List ℕ) (class : ℕ → Option ℕ) (works : ℕ) → IsTallied counts class works → works ≤ 256 → (to : Option ℕ) → IfSome to (λ i. count_of counts i < 65535)
has_room_for_one counts class works is few None = tt
has_room_for_one counts class works is few (Some i) = omega (arith, few, few_are_counted counts class works i is)

-- What stands in no list and in no class.

-- a work with a timer is in no group
pub record IsNowhere (queue : ℕ) (freezable : Bool) (p : Option Pending) : Type 0 where
  pub list : list_of queue p ≡ None
  pub active : active_class queue p ≡ None
  pub busy : busy_class freezable p ≡ None

pub nowhere : (queue : ℕ) (freezable : Bool) (p : Option Pending) → pends is_timer p ≡ true → IsNowhere queue freezable p
nowhere queue freezable None timed = absurd (cc)
nowhere queue freezable (Some p) timed = by_place p.place timed
  where
    by_place : (at : Place) → is_timer at ≡ true → IsNowhere queue freezable (Some (record p { place = at }))
    by_place (place.Timer due cpu) timed = record { list = refl; active = refl; busy = refl }
    by_place (place.Inactive pool) timed = absurd (cc)
    by_place (place.Listed pool) timed = absurd (cc)
    by_place (place.Deferred pool) timed = absurd (cc)

-- a work that goes from nowhere to nowhere leaves the lists and counts as they are
pub lists_stay : (lists : ListContents) (w stamp : ℕ) (to : Option ℕ) → rank_at lists w ≡ None → to ≡ None → lists ≡ with_rank lists w (ranked to stamp)
lists_stay lists w stamp to none is = sym (
    ap (λ (o : Option ℕ). with_rank lists w (ranked o stamp)) is
    ∙ ap (λ (ranks : List (Option Rank)). record lists { ranks = ranks }) (ap (set lists.ranks w) (sym none) ∙ set-get_or lists.ranks w None)
    )

pub counts_stay : (counts : List ℕ) (from to : Option ℕ) → from ≡ None → to ≡ None → counts ≡ changed counts from to
counts_stay counts from to from_is to_is = rw (from_is, to_is) refl

-- All together.

-- one work's pending instance is another one, or none
pub indexed_with : (S : ScenarioContents) (pending : List (Option Pending)) (lists later_lists : ListContents) (timers later_timers : List (Option Timer)) (active busy later_active later_busy : List ℕ) → IsIndexed S pending lists timers active busy → (w : ℕ) (p : Option Pending) → w < length S.works
    → later_lists ≡ with_rank lists w (rank_of (queue_of S w) p)
    → later_timers ≡ set timers w (timer_of w p)
    → later_active ≡ changed active (active_class (queue_of S w) (pending_at pending w)) (active_class (queue_of S w) p)
    → later_busy ≡ changed busy (busy_class (flags_at S (queue_of S w)).freezable (pending_at pending w)) (busy_class (flags_at S (queue_of S w)).freezable p)
    → IsIndexed S (set pending w p) later_lists later_timers later_active later_busy
indexed_with S pending lists later_lists timers later_timers active busy later_active later_busy is w p below relists retimes reactive rebusy = record {
  setting = is.setting;
  works = length-set pending w p ∙ is.works;
  listed_works = ap (λ (c : ListContents). length c.ranks) relists ∙ length-set lists.ranks w (rank_of (queue_of S w) p) ∙ is.listed_works;
  list_room = ap (λ (c : ListContents). c.lists) relists ∙ is.list_room;
  timed_works = ap length retimes ∙ length-set timers w (timer_of w p) ∙ is.timed_works;
  active_room = ap length reactive ∙ changed-length active (active_class (queue_of S w) (pending_at pending w)) (active_class (queue_of S w) p) ∙ is.active_room;
  busy_room = ap length rebusy ∙ changed-length busy (busy_class (flags_at S (queue_of S w)).freezable (pending_at pending w)) (busy_class (flags_at S (queue_of S w)).freezable p) ∙ is.busy_room;
  ranks = λ v. ap (λ (c : ListContents). rank_at c v) relists ∙ elim (cases_eq v w) [
    | inl same ↦ rw same (get_or-set_same lists.ranks w (rank_of (queue_of S w) p) None (omega (arith, below, is.listed_works)) ∙ ap (rank_of (queue_of S w)) (sym here))
    | inr differs ↦ get_or-set_other lists.ranks w v (rank_of (queue_of S w) p) None differs ∙ is.ranks v ∙ ap (rank_of (queue_of S v)) (sym (apart v differs))
  ];
  timed = λ v. ap (λ (ts : List (Option Timer)). timer_at ts v) retimes ∙ elim (cases_eq v w) [
    | inl same ↦ rw same (get_or-set_same timers w (timer_of w p) None (omega (arith, below, is.timed_works)) ∙ ap (timer_of w) (sym here))
    | inr differs ↦ get_or-set_other timers w v (timer_of w p) None differs ∙ is.timed v ∙ ap (timer_of v) (sym (apart v differs))
  ];
  active_counted = subst (λ (counts : List ℕ). IsTallied counts (active_classes S (set pending w p)) (length S.works))
      (ap (λ (o : Option Pending). changed active (active_class (queue_of S w) (pending_at pending w)) (active_class (queue_of S w) o)) here ∙ sym reactive)
      (changed_is_tallied active (active_classes S pending) (active_classes S (set pending w p)) (length S.works) w is.active_counted below (λ v differs. ap (active_class (queue_of S v)) (sym (apart v differs))));
  busy_counted = subst (λ (counts : List ℕ). IsTallied counts (busy_classes S (set pending w p)) (length S.works))
      (ap (λ (o : Option Pending). changed busy (busy_class (flags_at S (queue_of S w)).freezable (pending_at pending w)) (busy_class (flags_at S (queue_of S w)).freezable o)) here ∙ sym rebusy)
      (changed_is_tallied busy (busy_classes S pending) (busy_classes S (set pending w p)) (length S.works) w is.busy_counted below (λ v differs. ap (busy_class (flags_at S (queue_of S v)).freezable) (sym (apart v differs))));
}
  where
    here : pending_at (set pending w p) w ≡ p
    here = get_or-set_same pending w p None (omega (arith, below, is.works))

    apart : (v : ℕ) → v ≢ w → pending_at (set pending w p) v ≡ pending_at pending v
    apart v differs = get_or-set_other pending w v p None differs

-- A change of one work.
module _ (S : ScenarioContents) (pending : List (Option Pending)) (lists later_lists : ListContents) (timers later_timers : List (Option Timer)) (active busy later_active later_busy : List ℕ) (is : IsIndexed S pending lists timers active busy) (w : ℕ) (below : w < length S.works) where
  -- a work comes to be pending
  pub indexed_with_one : (p : Pending) → pending_at pending w ≡ None
      → later_lists ≡ with_rank lists w (rank_of (queue_of S w) (Some p))
      → later_timers ≡ set timers w (timer_of w (Some p))
      → later_active ≡ with_one_more active (active_at (queue_of S w) p.place)
      → later_busy ≡ with_one_more busy (busy_at (flags_at S (queue_of S w)).freezable p.place)
      → IsIndexed S (set pending w (Some p)) later_lists later_timers later_active later_busy
  indexed_with_one p idle lists_are timers_are active_is busy_is =
      indexed_with S pending lists later_lists timers later_timers active busy later_active later_busy is w (Some p) below lists_are timers_are
      (active_is ∙ ap (λ (o : Option Pending). changed active (active_class (queue_of S w) o) (active_class (queue_of S w) (Some p))) (sym idle))
      (busy_is ∙ ap (λ (o : Option Pending). changed busy (busy_class (flags_at S (queue_of S w)).freezable o) (busy_class (flags_at S (queue_of S w)).freezable (Some p))) (sym idle))

  -- a work ceases to be pending
  pub indexed_without : (was : Pending) → pending_at pending w ≡ Some was
      → later_lists ≡ with_rank lists w None
      → later_timers ≡ set timers w None
      → later_active ≡ with_one_fewer active (active_at (queue_of S w) was.place)
      → later_busy ≡ with_one_fewer busy (busy_at (flags_at S (queue_of S w)).freezable was.place)
      → IsIndexed S (set pending w None) later_lists later_timers later_active later_busy
  indexed_without was pends_so lists_are timers_are active_is busy_is =
      indexed_with S pending lists later_lists timers later_timers active busy later_active later_busy is w None below lists_are timers_are
      (active_is ∙ ap (λ (o : Option Pending). changed active (active_class (queue_of S w) o) None) (sym pends_so))
      (busy_is ∙ ap (λ (o : Option Pending). changed busy (busy_class (flags_at S (queue_of S w)).freezable o) None) (sym pends_so))

  -- a work has another timer
  pub indexed_with_timer : (p : Pending) → pends is_timer (pending_at pending w) ≡ true → is_timer p.place ≡ true
      → later_timers ≡ set timers w (timer_of w (Some p))
      → IsIndexed S (set pending w (Some p)) lists later_timers active busy
  indexed_with_timer p timed timer timers_are =
      let queue = queue_of S w in
      let freezable = (flags_at S queue).freezable in
      let before = nowhere queue freezable (pending_at pending w) timed in
      let after = nowhere queue freezable (Some p) timer in
      let unlisted : rank_at lists w ≡ None = is.ranks w ∙ ap (λ (o : Option ℕ). ranked o (pending_stamp (pending_at pending w))) before.list in
      indexed_with S pending lists lists timers later_timers active busy active busy is w (Some p) below
      (lists_stay lists w p.stamp (list_of queue (Some p)) unlisted after.list)
      timers_are
      (counts_stay active (active_class queue (pending_at pending w)) (active_class queue (Some p)) before.active after.active)
      (counts_stay busy (busy_class freezable (pending_at pending w)) (busy_class freezable (Some p)) before.busy after.busy)

-- what is pending is counted
module _ (S : ScenarioContents) (pending : List (Option Pending)) (lists : ListContents) (timers : List (Option Timer)) (active busy : List ℕ) (is : IsIndexed S pending lists timers active busy) (w : ℕ) (below : w < length S.works) (was : Pending) (pends_so : pending_at pending w ≡ Some was) where
  pub counted_as_active : IfSome (active_at (queue_of S w) was.place) (λ i. i < length active → 0 < count_of active i)
  counted_as_active = subst (λ (o : Option Pending). IfSome (active_class (queue_of S w) o) (λ i. i < length active → 0 < count_of active i)) pends_so (counted_in active (active_classes S pending) (length S.works) w is.active_counted below)

  pub counted_as_busy : IfSome (busy_at (flags_at S (queue_of S w)).freezable was.place) (λ i. i < length busy → 0 < count_of busy i)
  counted_as_busy = subst (λ (o : Option Pending). IfSome (busy_class (flags_at S (queue_of S w)).freezable o) (λ i. i < length busy → 0 < count_of busy i)) pends_so (counted_in busy (busy_classes S pending) (length S.works) w is.busy_counted below)

-- of two changes of one work the second one stays
pub pended_twice : (m : QueuedContents) (w : ℕ) (o p : Option Pending) → with_pending (with_pending m w o) w p ≡ with_pending m w p
pended_twice m w o p = ap (λ (pending : List (Option Pending)). record m { pending = pending }) (set-set m.pending w o p)

-- nothing is pending, and each index is empty
pub nothing_indexed : (S : ScenarioContents) (pending : List (Option Pending)) (lists : ListContents) (timers : List (Option Timer)) (active busy : List ℕ) → IsSetting S → pending ≡ replicate (length S.works) None
    → lists ≡ no_ranks (MAX_POOLS + MAX_POOLS * length S.queues) (length S.works) → timers ≡ replicate (length S.works) None → active ≡ replicate (MAX_POOLS * length S.queues) 0 → busy ≡ replicate 1 0 → IsIndexed S pending lists timers active busy
nothing_indexed S pending lists timers active busy setting idle unlisted untimed inactive unbusy = record {
  setting = setting;
  works = ap length idle ∙ length-replicate {A = Option Pending} (length S.works) None;
  listed_works = ap (λ (c : ListContents). length c.ranks) unlisted ∙ length-replicate {A = Option Rank} (length S.works) None;
  list_room = ap (λ (c : ListContents). c.lists) unlisted;
  timed_works = ap length untimed ∙ length-replicate {A = Option Timer} (length S.works) None;
  active_room = ap length inactive ∙ length-replicate {A = ℕ} (MAX_POOLS * length S.queues) 0;
  busy_room = ap length unbusy;
  ranks = λ w. ap (λ (c : ListContents). rank_at c w) unlisted ∙ none_at Rank (length S.works) w ∙ ap (rank_of (queue_of S w)) (sym (none w));
  timed = λ w. ap (λ (ts : List (Option Timer)). timer_at ts w) untimed ∙ none_at Timer (length S.works) w ∙ ap (timer_of w) (sym (none w));
  active_counted = subst (λ (counts : List ℕ). IsTallied counts (active_classes S pending) (length S.works)) (sym inactive)
      (empty_is_tallied (MAX_POOLS * length S.queues) (active_classes S pending) (length S.works) (λ w below. ap (active_class (queue_of S w)) (none w)));
  busy_counted = subst (λ (counts : List ℕ). IsTallied counts (busy_classes S pending) (length S.works)) (sym unbusy)
      (empty_is_tallied 1 (busy_classes S pending) (length S.works) (λ w below. ap (busy_class (flags_at S (queue_of S w)).freezable) (none w)));
}
  where
    none_at : (A : Type 0) (n w : ℕ) → get_or (replicate {A = Option A} n None) w None ≡ None
    none_at A n w = elim (cases_lt w n) [
      | inl inside ↦ get_or-replicate {A = Option A} n w None None inside
      | inr past ↦ get_or_past (replicate {A = Option A} n None) w None (omega (arith, past, length-replicate {A = Option A} n None))
    ]

    none : (w : ℕ) → pending_at pending w ≡ None
    none w = ap (λ (ps : List (Option Pending)). pending_at ps w) idle ∙ none_at Pending (length S.works) w
