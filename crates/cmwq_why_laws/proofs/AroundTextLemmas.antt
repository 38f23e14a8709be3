-- States that are alike around a work tell the same of it.
use Rattle.std.proofs.Common.{◌≡◌, ℕ, ◌<◌, Bool, true, false, not, ◌&&◌, List, [], ◌++◌, length, map, Option, Some, None, cond, codes, refl, ap, ◌∙◌, nat_lt}
use Rattle.std.proofs.lemmas.Bool.{eq-eqb}
use Rattle.std.specs.Fmt.{decimal}
use Rattle.std.specs.List.{flat_map}
use Rattle.std.specs.Prelude.{◌==◌, is_none}
use Rattle.cmwq_types.specs.Contents.{ScenarioContents}
use Rattle.cmwq_types.specs.Scenario.{is_unbound, queue_of}
use Rattle.cmwq_types.specs.declared.instr.WorkId.{WorkId}
use Rattle.cmwq_types.specs.declared.moves.Move.{Move}
use Rattle.cmwq_types.specs.declared.moves.Move.TheVariants.{Advance, Wake, Start, Defer, Rescue}
use Rattle.cmwq_types.specs.declared.reply.Mode.{Mode}
use Rattle.cmwq_types.specs.declared.reply.Mode.TheVariants as mode
use Rattle.cmwq_types.specs.declared.reply.Place.{Place}
use Rattle.cmwq_types.specs.declared.reply.Place.TheVariants as place
use Rattle.cmwq_table.specs.declared.state.Pending.{Pending}
use Rattle.cmwq_table.specs.declared.state.Running.{Running}
use Rattle.cmwq_table.specs.State.{State, depth_at, pending_at, running_at}
use Rattle.cmwq_table.specs.Counts.{active, first_due, is_listed, limit, may_start}
use Rattle.cmwq_table.specs.Laws.{IsListedIn, placed_in}
use Rattle.cmwq_table.specs.Moves.{next_move}
use Rattle.cmwq_reasons.specs.declared.reason.Instance.{Instance}
use Rattle.cmwq_reasons.specs.declared.reason.Instance.TheVariants as instance
use Rattle.cmwq_reasons.specs.declared.reason.Reason.{Reason}
use Rattle.cmwq_reasons.specs.declared.reason.Reason.TheVariants as reason
use Rattle.cmwq_reasons.specs.declared.reason.Turn.{Turn}
use Rattle.cmwq_reasons.specs.declared.reason.Turn.TheVariants.{Starts, Defers, StartsOnRescuer}
use Rattle.cmwq_reasons.specs.Laws.{pool_if_pending, pool_if_running}
use Rattle.cmwq_reasons.specs.Reasons.{burns_unless, counted_works, fires_unless, holders, mover, next_or_after, other_instance, other_work, reason_by_move, reason_if_running, reason_in_mode, reason_in_place, reason_of_head, reason_of_none, reason_of_pending, reason_of_runnable, reason_of_running, running_half, work_above, work_of, work_before, works_on_workers}
use Rattle.cmwq_reasons.proofs.RunningRows.{RunRow, run-row}
use Rattle.cmwq_why_text.specs.WhyText.{ahead_text, beside_run, both_halves, inactive_text, items, listed_text, name_of, pending_text, queue_name, reason_text, room_text, spaced_name, turn_text, worker_words}
use Rattle.cmwq_why_laws.specs.Laws.{halves_text}
use Rattle.cmwq_why_laws.proofs.PoolLemmas.{SamePool, may-same, mover-same, next-same, runnable-same}
use Rattle.cmwq_why_laws.proofs.AroundLemmas.{SameRescuer, active-same, counted-same, holder-text, inactive-ahead, listed-ahead, worker-text}

-- the states are alike around the work: time, memory and limits, its own instances, the pools in which these are, and, where it
-- is listed, its queue's rescuer
pub record SameAround (S : ScenarioContents) (s t : State) (w : ℕ) : Type 0 where
  pub time : t.time ≡ s.time
  pub pressed : t.pressed ≡ s.pressed
  pub limits : (queue : ℕ) → limit S t queue ≡ limit S s queue
  pub due : first_due S t ≡ first_due S s
  pub depth : depth_at t w ≡ depth_at s w
  pub pending : pending_at t w ≡ pending_at s w
  pub running : running_at t w ≡ running_at s w
  pub place_pool : (pool : ℕ) → pool_if_pending (pending_at s w) ≡ Some pool → SamePool S s t pool
  pub run_pool : (pool : ℕ) → pool_if_running (running_at s w) ≡ Some pool → SamePool S s t pool
  pub above : (pool : ℕ) → pool_if_running (running_at s w) ≡ Some pool → work_above S t pool ≡ work_above S s pool
  pub rescuer : (pool : ℕ) → IsListedIn s w pool → SameRescuer S s t (queue_of S w)

-- The running half.

module _ (S : ScenarioContents) (s t : State) (w : ℕ) (r : Running) (time : t.time ≡ s.time) (same : SamePool S s t r.pool) (above : work_above S t r.pool ≡ work_above S s r.pool) where
  before-same : work_before S t w r.pool ≡ work_before S s w r.pool
  before-same = ap (λ (found : Option ℕ). cond (is_unbound S r.pool) None (other_work w found)) (runnable-same S s t r.pool same)

  head-same : reason_of_head S t w r ≡ reason_of_head S s w r
  head-same =
      ap (λ (first : Option Instance). cond (r.left == 0) (next_or_after reason.ReadyNext reason.ReadyAfter (other_instance (running_half w) first)) (burns_unless (work_above S t r.pool)))
      (mover-same S s t r.pool same time)
      ∙ ap (λ (over : Option ℕ). cond (r.left == 0) (next_or_after reason.ReadyNext reason.ReadyAfter (other_instance (running_half w) (mover S s r.pool))) (burns_unless over)) above

  of_runnable-same : (found : Option ℕ) → reason_of_runnable S t w r found ≡ reason_of_runnable S s w r found
  of_runnable-same (Some v) = refl
  of_runnable-same None = head-same

  in_mode-same : (m : Mode) → reason_in_mode S t w r m ≡ reason_in_mode S s w r m
  in_mode-same mode.Runnable = ap (λ (found : Option ℕ). reason_of_runnable S t w r found) before-same ∙ of_runnable-same (work_before S s w r.pool)
  in_mode-same (mode.Asleep until) =
      ap (λ (now : ℕ). cond (nat_lt now until) (reason.Asleep until) (next_or_after reason.WakesNext reason.WakesAfter (other_instance (running_half w) (mover S t r.pool)))) time
      ∙ ap (λ (first : Option Instance). cond (nat_lt s.time until) (reason.Asleep until) (next_or_after reason.WakesNext reason.WakesAfter (other_instance (running_half w) first)))
      (mover-same S s t r.pool same time)

running-text : (S : ScenarioContents) (s t : State) (w : ℕ) (r : Running) (a : Reason) → RunRow S s w r a → reason_text S t w a ≡ reason_text S s w a
running-text S s t w r a (RunRow.asleep until mode later) = refl
running-text S s t w r a (RunRow.wakes_next slept moves) = refl
running-text S s t w r a (RunRow.wakes_after x slept moves apart) = refl
running-text S s t w r a (RunRow.behind v mode bound first apart) = refl
running-text S s t w r a (RunRow.ready_next head left moves) = refl
running-text S s t w r a (RunRow.ready_after x head left moves apart) = refl
running-text S s t w r a (RunRow.high_has v head left bound normal first) = refl
running-text S s t w r a (RunRow.burning head left above) = refl

-- The pending half.

module _ (S : ScenarioContents) (s t : State) (w : ℕ) (around : SameAround S s t w) where
  place-reason : (at : Place) → ((pool : ℕ) → placed_in at ≡ Some pool → SamePool S s t pool) → reason_in_place S t w at ≡ reason_in_place S s w at
  place-reason (place.Timer due cpu) in_pool =
      ap (λ (now : ℕ). cond (nat_lt now due) (reason.Timer due cpu) (fires_unless (other_work w (first_due S t)))) around.time
      ∙ ap (λ (first : Option ℕ). cond (nat_lt s.time due) (reason.Timer due cpu) (fires_unless (other_work w first))) around.due
  place-reason (place.Inactive pool) in_pool = ap (λ (limit : ℕ). cond (limit == 0) (reason.Frozen pool) (reason.Inactive pool)) (around.limits (queue_of S w))
  place-reason (place.Listed pool) in_pool =
      ap (λ (may : Bool). cond may (reason_by_move w pool (next_move S t pool)) (reason.Held pool)) (may-same S s t pool (in_pool pool refl))
      ∙ ap (λ (move : Option Move). cond (may_start S s pool) (reason_by_move w pool move) (reason.Held pool)) (next-same S s t pool (in_pool pool refl) around.time)
  place-reason (place.Deferred pool) in_pool = refl

  timer-text : (due cpu : ℕ) (b : Bool) (o : Option ℕ) → reason_text S t w (cond b (reason.Timer due cpu) (fires_unless o)) ≡ reason_text S s w (cond b (reason.Timer due cpu) (fires_unless o))
  timer-text due cpu true o = refl
  timer-text due cpu false (Some v) = refl
  timer-text due cpu false None = refl

  none-text : (depth : ℕ) (b : Bool) → reason_text S t w (cond b reason.NotPending (reason.Disabled depth)) ≡ reason_text S s w (cond b reason.NotPending (reason.Disabled depth))
  none-text depth true = refl
  none-text depth false = refl

  module _ (pool : ℕ) (same : SamePool S s t pool) where
    inactive_text-same : inactive_text S t w pool ≡ inactive_text S s w pool
    inactive_text-same = ap (λ (works : List ℕ). codes "inactive " ++ decimal pool ++ ahead_text S works ++ codes ": " ++ queue_name S w) (inactive-ahead S s t pool same w around.pending)

    listed_text-same : listed_text S t w pool ≡ listed_text S s w pool
    listed_text-same = ap (λ (works : List ℕ). codes "listed " ++ decimal pool ++ ahead_text S works ++ codes ": ") (listed-ahead S s t pool same w around.pending)

    room_text-same : room_text S t (queue_of S w) pool ≡ room_text S s (queue_of S w) pool
    room_text-same =
        let room = λ (n max : ℕ) (named : List ℕ). codes " has " ++ decimal n ++ codes " of " ++ decimal max ++ codes " active" ++ named in
        ap (λ (n : ℕ). room n (limit S t (queue_of S w)) (items S t (holders S t (queue_of S w) pool))) (active-same S s t pool same (queue_of S w))
        ∙ ap (λ (max : ℕ). room (active S s (queue_of S w) pool) max (items S t (holders S t (queue_of S w) pool))) (around.limits (queue_of S w))
        ∙ ap (λ (named : List ℕ). room (active S s (queue_of S w) pool) (limit S s (queue_of S w)) named) (holder-text S s t pool same (queue_of S w))

    full-text : (b : Bool) → reason_text S t w (cond b (reason.Frozen pool) (reason.Inactive pool)) ≡ reason_text S s w (cond b (reason.Frozen pool) (reason.Inactive pool))
    full-text true = ap (λ (text : List ℕ). text ++ codes " is frozen") inactive_text-same
    full-text false =
        ap (λ (text : List ℕ). text ++ room_text S t (queue_of S w) pool) inactive_text-same ∙ ap (λ (text : List ℕ). inactive_text S s w pool ++ text) room_text-same

    held-text : reason_text S t w (reason.Held pool) ≡ reason_text S s w (reason.Held pool)
    held-text =
        ap (λ (text : List ℕ). text ++ codes "held by" ++ flat_map (spaced_name S) (counted_works S t pool)) listed_text-same
        ∙ ap (λ (works : List ℕ). listed_text S s w pool ++ codes "held by" ++ flat_map (spaced_name S) works) (counted-same S s t pool same)

    worker_words-same : worker_words t ≡ worker_words s
    worker_words-same = ap (λ (pressed : Bool). cond pressed (codes "no free worker under pressure") (codes "no free worker")) around.pressed

    no_worker-text : SameRescuer S s t (queue_of S w) → reason_text S t w (reason.NoWorker pool) ≡ reason_text S s w (reason.NoWorker pool)
    no_worker-text rescuer =
        let named = λ (u : State). items S u (map running_half (works_on_workers S u (queue_of S w) pool)) in
        ap (λ (text : List ℕ). text ++ worker_words t ++ named t) listed_text-same
        ∙ ap (λ (words : List ℕ). listed_text S s w pool ++ words ++ named t) worker_words-same
        ∙ ap (λ (text : List ℕ). listed_text S s w pool ++ worker_words s ++ text) (worker-text S s t pool same (queue_of S w) rescuer)

    after-text : (x : Instance) → reason_text S t w (reason.After pool x) ≡ reason_text S s w (reason.After pool x)
    after-text x = ap (λ (text : List ℕ). text ++ codes "after " ++ name_of S (work_of x)) listed_text-same

    turn-text : (turn : Turn) (v : WorkId) (b : Bool)
        → reason_text S t w (cond b (reason.Free pool turn) (reason.After pool (instance.Pending v))) ≡ reason_text S s w (cond b (reason.Free pool turn) (reason.After pool (instance.Pending v)))
    turn-text turn v true = ap (λ (text : List ℕ). text ++ codes "free to go, " ++ turn_text turn) listed_text-same
    turn-text turn v false = after-text (instance.Pending v)

    move-text : SameRescuer S s t (queue_of S w) → (o : Option Move) → reason_text S t w (reason_by_move w pool o) ≡ reason_text S s w (reason_by_move w pool o)
    move-text rescuer (Some (Advance v)) = after-text (instance.Running v)
    move-text rescuer (Some (Wake v)) = after-text (instance.Running v)
    move-text rescuer (Some (Start v)) = turn-text Starts v (v.0 == w)
    move-text rescuer (Some (Defer v)) = turn-text Defers v (v.0 == w)
    move-text rescuer (Some (Rescue v)) = turn-text StartsOnRescuer v (v.0 == w)
    move-text rescuer None = no_worker-text rescuer

    may-text : SameRescuer S s t (queue_of S w) → (may : Bool) (o : Option Move)
        → reason_text S t w (cond may (reason_by_move w pool o) (reason.Held pool)) ≡ reason_text S s w (cond may (reason_by_move w pool o) (reason.Held pool))
    may-text rescuer true o = move-text rescuer o
    may-text rescuer false o = held-text

  place-text : (at : Place) → ((pool : ℕ) → placed_in at ≡ Some pool → SamePool S s t pool) → ((pool : ℕ) → is_listed at pool ≡ true → SameRescuer S s t (queue_of S w))
      → reason_text S t w (reason_in_place S s w at) ≡ reason_text S s w (reason_in_place S s w at)
  place-text (place.Timer due cpu) in_pool rescuer = timer-text due cpu (nat_lt s.time due) (other_work w (first_due S s))
  place-text (place.Inactive pool) in_pool rescuer = full-text pool (in_pool pool refl) (limit S s (queue_of S w) == 0)
  place-text (place.Listed pool) in_pool rescuer = may-text pool (in_pool pool refl) (rescuer pool (eq-eqb pool pool refl)) (may_start S s pool) (next_move S s pool)
  place-text (place.Deferred pool) in_pool rescuer = refl

  of_pending-text : (o : Option Pending) → pending_at s w ≡ o → reason_text S t w (reason_of_pending S t w o) ≡ reason_text S s w (reason_of_pending S s w o)
  of_pending-text (Some p) is =
      let in_pool = λ (pool : ℕ) (at : placed_in p.place ≡ Some pool). around.place_pool pool (ap pool_if_pending is ∙ at) in
      ap (λ (why : Reason). reason_text S t w why) (place-reason p.place in_pool) ∙ place-text p.place in_pool (λ pool listed. around.rescuer pool (p, is, listed))
  of_pending-text None is =
      ap (λ (depth : ℕ). reason_text S t w (reason_of_none depth)) around.depth ∙ none-text (depth_at s w) (depth_at s w == 0)

  pending_text-same : pending_text S t w ≡ pending_text S s w
  pending_text-same = ap (λ (o : Option Pending). reason_text S t w (reason_of_pending S t w o)) around.pending ∙ of_pending-text (pending_at s w) refl

  -- Both.

  beside-same : beside_run S t w ≡ beside_run S s w
  beside-same =
      ap (λ (p : Option Pending). cond (is_none p && not (not (depth_at t w == 0))) [] (codes "; " ++ pending_text S t w)) around.pending
      ∙ ap (λ (depth : ℕ). cond (is_none (pending_at s w) && not (not (depth == 0))) [] (codes "; " ++ pending_text S t w)) around.depth
      ∙ ap (λ (text : List ℕ). cond (is_none (pending_at s w) && not (not (depth_at s w == 0))) [] (codes "; " ++ text)) pending_text-same

  of_running-text : (o : Option Running) → running_at s w ≡ o → w < length S.works → both_halves S t w (reason_if_running S t w o) ≡ both_halves S s w (reason_if_running S s w o)
  of_running-text (Some r) is there =
      let in_pool = ap pool_if_running is in
      ap (λ (why : Reason). reason_text S t w why ++ beside_run S t w) (in_mode-same S s t w r around.time (around.run_pool r.pool in_pool) (around.above r.pool in_pool) r.mode)
      ∙ ap (λ (text : List ℕ). text ++ beside_run S t w) (running-text S s t w r (reason_of_running S s w r) (run-row S s w r there is))
      ∙ ap (λ (text : List ℕ). reason_text S s w (reason_of_running S s w r) ++ text) beside-same
  of_running-text None is there = pending_text-same

  pub halves-same : w < length S.works → halves_text S t w ≡ halves_text S s w
  halves-same there = ap (λ (o : Option Running). both_halves S t w (reason_if_running S t w o)) around.running ∙ of_running-text (running_at s w) refl there
