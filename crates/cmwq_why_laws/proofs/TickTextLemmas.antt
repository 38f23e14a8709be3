-- A tick changes nothing of a work's text but by its reasons.
use Rattle.std.proofs.Common.{◌≡◌, ℕ, ◌+◌, Bool, not, ◌&&◌, List, [], ◌∷◌, ◌++◌, length, map, Option, Some, None, cond, codes, refl, sym, ap, ◌∙◌, subst}
use std.Path.{fun_ext}
use Rattle.std.specs.Fmt.{decimal}
use Rattle.std.specs.List.{flat_map}
use Rattle.std.specs.Prelude.{◌==◌, is_none}
use Rattle.cmwq_types.specs.Contents.{ScenarioContents}
use Rattle.cmwq_types.specs.First.{by_least, count_below}
use Rattle.cmwq_types.specs.Scenario.{flags_at, queue_of}
use Rattle.cmwq_types.specs.declared.reply.Mode.{Mode}
use Rattle.cmwq_table.specs.declared.state.Pending.{Pending}
use Rattle.cmwq_table.specs.declared.state.Running.{Running}
use Rattle.cmwq_table.specs.State.{State, is_disabled, pending_at, running_at}
use Rattle.cmwq_table.specs.Counts.{active, is_active, is_rescuer, is_runnable, limit, pends, running_stamp}
use Rattle.cmwq_dump.specs.Order.{all_below}
use Rattle.cmwq_reasons.specs.declared.reason.Instance.{Instance}
use Rattle.cmwq_reasons.specs.declared.reason.Instance.TheVariants as instance
use Rattle.cmwq_reasons.specs.declared.reason.Reason.{Reason}
use Rattle.cmwq_reasons.specs.declared.reason.Reason.TheVariants as reason
use Rattle.cmwq_reasons.specs.Laws.{InAnyState}
use Rattle.cmwq_reasons.specs.Reasons.{counted_works, holders, pending_half, pending_holders, reason_if_pending, reason_if_running, reason_of, reason_of_pending, running_half, running_works, works_on_pool_workers, works_on_rescuer, works_on_workers}
use Rattle.cmwq_why_text.specs.WhyText.{beside_run, both_halves, inactive_text, item, items, listed_text, name_of, pending_text, reason_text, room_text, run_words, spaced_name, worker_words}
use Rattle.cmwq_why_laws.specs.Laws.{KeepsReasons, KeepsText, KeepsTextInTick, halves_text}
use Rattle.cmwq_why_laws.proofs.SpentLemmas.{keeps}
use Rattle.cmwq_why_laws.proofs.TickLemmas.{is_ticked, seen, shown, shows, stamps-kept, tests-kept, ticked}

run-shown : (o : Option Running) → run_words (shown o) ≡ run_words o
run-shown (Some r) = refl
run-shown None = refl

module _ (S : ScenarioContents) (s : State) where
  -- Who is named.

  works-kept : (join : Bool → ℕ → Bool) (test : ℕ → ℕ → Mode → Bool)
      → running_works S (ticked S s) (λ w. join (shows test (running_at (ticked S s) w)) w) ≡ running_works S s (λ w. join (shows test (running_at s w)) w)
  works-kept join test =
      ap (λ (stamp : ℕ → ℕ). all_below (by_least stamp) (λ w. join (shows test (running_at (ticked S s) w)) w) (length S.works)) (stamps-kept S s)
      ∙ ap (λ (passes : ℕ → Bool). all_below (by_least (λ w. running_stamp (running_at s w))) (λ w. join (passes w) w) (length S.works)) (tests-kept S s test)

  holders-kept : (queue pool : ℕ) → holders S (ticked S s) queue pool ≡ holders S s queue pool
  holders-kept queue pool =
      ap (λ (works : List ℕ). map running_half works ++ pending_holders S s queue pool) (works-kept (λ passes w. (queue_of S w == queue) && passes) (λ at worker m. at == pool))

  counted-kept : (pool : ℕ) → counted_works S (ticked S s) pool ≡ counted_works S s pool
  counted-kept pool = works-kept (λ passes w. passes && not (flags_at S (queue_of S w)).cpu_intensive) (λ at worker m. (at == pool) && is_runnable m)

  workers-kept : (queue pool : ℕ) → works_on_workers S (ticked S s) queue pool ≡ works_on_workers S s queue pool
  workers-kept queue pool =
      ap (λ (works : List ℕ). works ++ works_on_rescuer S (ticked S s) queue) (works-kept (λ passes w. passes) (λ at worker m. (at == pool) && not (is_rescuer worker)))
      ∙ ap (λ (works : List ℕ). works_on_pool_workers S s pool ++ works) (works-kept (λ passes w. (queue_of S w == queue) && passes) (λ at worker m. is_rescuer worker))

  active-kept : (queue pool : ℕ) → active S (ticked S s) queue pool ≡ active S s queue pool
  active-kept queue pool =
      ap (λ (passes : ℕ → Bool). count_below (λ w. (queue_of S w == queue) && pends (λ place. is_active place pool) (pending_at s w)) (length S.works)
      + count_below (λ w. (queue_of S w == queue) && passes w) (length S.works)) (tests-kept S s (λ at worker m. at == pool))

  item-kept : (x : Instance) → item S (ticked S s) x ≡ item S s x
  item-kept (instance.Pending w) = refl
  item-kept (instance.Running w) = ap (λ (text : List ℕ). name_of S w.0 ++ text) (seen S s run_words run-shown w.0)

  items-kept : (xs : List Instance) → items S (ticked S s) xs ≡ items S s xs
  items-kept [] = refl
  items-kept (x ∷ xs) = ap (λ (text : Instance → List ℕ). codes ": " ++ text x ++ flat_map (λ y. codes ", " ++ text y) xs) (fun_ext item-kept)

  -- The texts.

  room_text-kept : (queue pool : ℕ) → room_text S (ticked S s) queue pool ≡ room_text S s queue pool
  room_text-kept queue pool =
      let room = λ (n : ℕ) (named : List ℕ). codes " has " ++ decimal n ++ codes " of " ++ decimal (limit S s queue) ++ codes " active" ++ named in
      ap (λ (n : ℕ). room n (items S (ticked S s) (holders S (ticked S s) queue pool))) (active-kept queue pool)
      ∙ ap (λ (named : List ℕ). room (active S s queue pool) named) (items-kept (holders S (ticked S s) queue pool) ∙ ap (λ (xs : List Instance). items S s xs) (holders-kept queue pool))

  reason_text-kept : (w : ℕ) (why : Reason) → reason_text S (ticked S s) w why ≡ reason_text S s w why
  reason_text-kept w (reason.Inactive pool) = ap (λ (text : List ℕ). inactive_text S s w pool ++ text) (room_text-kept (queue_of S w) pool)
  reason_text-kept w (reason.Held pool) = ap (λ (works : List ℕ). listed_text S s w pool ++ codes "held by" ++ flat_map (spaced_name S) works) (counted-kept pool)
  reason_text-kept w (reason.NoWorker pool) =
      ap (λ (text : List ℕ). listed_text S s w pool ++ worker_words s ++ text)
      (items-kept (map running_half (works_on_workers S (ticked S s) (queue_of S w) pool)) ∙ ap (λ (works : List ℕ). items S s (map running_half works)) (workers-kept (queue_of S w) pool))
  reason_text-kept w (reason.Frozen pool) = refl
  reason_text-kept w (reason.Free pool turn) = refl
  reason_text-kept w (reason.After pool x) = refl
  reason_text-kept w (reason.Asleep until) = refl
  reason_text-kept w reason.WakesNext = refl
  reason_text-kept w (reason.WakesAfter x) = refl
  reason_text-kept w (reason.Behind v) = refl
  reason_text-kept w reason.ReadyNext = refl
  reason_text-kept w (reason.ReadyAfter x) = refl
  reason_text-kept w (reason.HighHas v) = refl
  reason_text-kept w reason.Burns = refl
  reason_text-kept w (reason.Disabled depth) = refl
  reason_text-kept w reason.NotPending = refl
  reason_text-kept w (reason.Timer due cpu) = refl
  reason_text-kept w reason.FiresNext = refl
  reason_text-kept w (reason.FiresAfter v) = refl
  reason_text-kept w (reason.Deferred pool) = refl

  -- what pends has the same reason, so has none
  pending-reason : (w : ℕ) (o : Option Pending) → reason_if_pending S (ticked S s) w o ≡ reason_if_pending S s w o → reason_of_pending S (ticked S s) w o ≡ reason_of_pending S s w o
  pending-reason w (Some p) same = cc
  pending-reason w None same = refl

  pending_text-kept : (w : ℕ) → reason_of S (ticked S s) (pending_half w) ≡ reason_of S s (pending_half w) → pending_text S (ticked S s) w ≡ pending_text S s w
  pending_text-kept w same =
      reason_text-kept w (reason_of_pending S (ticked S s) w (pending_at s w)) ∙ ap (λ (why : Reason). reason_text S s w why) (pending-reason w (pending_at s w) same)

  beside-kept : (w : ℕ) → reason_of S (ticked S s) (pending_half w) ≡ reason_of S s (pending_half w) → beside_run S (ticked S s) w ≡ beside_run S s w
  beside-kept w same = ap (λ (text : List ℕ). cond (is_none (pending_at s w) && not (is_disabled s w)) [] (codes "; " ++ text)) (pending_text-kept w same)

  both-kept : (w : ℕ) (why : Option Reason) → reason_of S (ticked S s) (pending_half w) ≡ reason_of S s (pending_half w)
      → both_halves S (ticked S s) w why ≡ both_halves S s w why
  both-kept w (Some why) same =
      ap (λ (text : List ℕ). text ++ beside_run S (ticked S s) w) (reason_text-kept w why) ∙ ap (λ (text : List ℕ). reason_text S s w why ++ text) (beside-kept w same)
  both-kept w None same = pending_text-kept w same

  halves-kept : (w : ℕ) → KeepsReasons S s (ticked S s) w → halves_text S (ticked S s) w ≡ halves_text S s w
  halves-kept w same =
      both-kept w (reason_if_running S (ticked S s) w (running_at (ticked S s) w)) same.0 ∙ ap (λ (why : Option Reason). both_halves S s w why) same.1

pub keeps_text_in_tick : InAnyState KeepsTextInTick
unfolding KeepsTextInTick
keeps_text_in_tick S s done w =
    subst (λ (t : State). KeepsReasons S s t w → KeepsText S s t w) (sym (is_ticked S s done)) (λ same. keeps S s (ticked S s) w refl (halves-kept S s w same))
