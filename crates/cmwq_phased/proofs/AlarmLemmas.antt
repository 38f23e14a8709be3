-- Whose alarm is the first.
use Rattle.std.proofs.Common.{◌≡◌, ℕ, nat_lt, List, length, Option, Some, None, refl, ap, ◌∙◌}
use Rattle.std.specs.Prelude.{is_some, nat_le, cond}
use Rattle.cmwq_types.specs.Contents.{ScenarioContents}
use Rattle.cmwq_types.specs.First.{by_least, first_below}
use Rattle.cmwq_types.proofs.FirstLemmas.{by_least-order, first_below-agree}
use Rattle.cmwq_lists.proofs.CallerLemmas.{first_agree}
use Rattle.cmwq_phased.specs.Runs.{first_to_end, number_or_0, run_alarm, run_at}
use Rattle.cmwq_phased.specs.declared.run.Run.{Run}
use Rattle.cmwq_phased.specs.Indexes.{AreTimed}
use Rattle.cmwq_phased.specs.PhasedContents.{end_of, if_ends_by}
use Rattle.cmwq_timers.specs.Alarms.{alarm_at, first_to_ring, if_rings_by, ring_of, tick_or_0}

ticks_same : (o : Option ℕ) → tick_or_0 o ≡ number_or_0 o
ticks_same None = refl
ticks_same (Some tick) = refl

module _ (S : ScenarioContents) (runs : List (Option Run)) (alarms : List (Option ℕ)) (timed : AreTimed runs alarms) (long : length runs ≡ length S.works) where
  ticks : (w : ℕ) → tick_or_0 (alarm_at alarms w) ≡ number_or_0 (run_alarm (run_at runs w))
  ticks w = ap tick_or_0 (timed.ties w) ∙ ticks_same (run_alarm (run_at runs w))

  -- by alarms the same is the first as by runs
  first_to_end_is : first_to_ring alarms ≡ first_to_end S runs
  first_to_end_is =
      ap (λ (n : ℕ). first_below (by_least (λ w. tick_or_0 (alarm_at alarms w))) (λ w. is_some (alarm_at alarms w)) n) (timed.long ∙ long)
      ∙ first_agree (by_least (λ w. tick_or_0 (alarm_at alarms w))) (by_least (λ w. number_or_0 (run_alarm (run_at runs w)))) (λ w. is_some (alarm_at alarms w)) (length S.works) (by_least-order (λ w. tick_or_0 (alarm_at alarms w)))
      (λ v w v_below w_below v_some w_some. ap (λ (n : ℕ). nat_lt n (tick_or_0 (alarm_at alarms w))) (ticks v) ∙ ap (nat_lt (number_or_0 (run_alarm (run_at runs v)))) (ticks w))
      ∙ first_below-agree (by_least (λ w. number_or_0 (run_alarm (run_at runs w)))) (λ w. is_some (alarm_at alarms w)) (λ w. is_some (run_alarm (run_at runs w))) (length S.works) (λ w h. ap is_some (timed.ties w))

  -- who has the first alarm, if that rings by a time, is the first to end, if it ends by then
  pub ends_by_found : (time : ℕ) → if_rings_by alarms time (first_to_ring alarms) ≡ if_ends_by runs time (first_to_end S runs)
  ends_by_found time = by_first (first_to_ring alarms) ∙ ap (if_ends_by runs time) first_to_end_is
    where
      by_first : (o : Option ℕ) → if_rings_by alarms time o ≡ if_ends_by runs time o
      by_first None = refl
      by_first (Some w) = ap (λ (tick : ℕ). cond (nat_le tick time) (Some w) None) (ticks w)

  -- the first alarm rings when the first to end ends
  pub next_end_found : ring_of alarms (first_to_ring alarms) ≡ end_of runs (first_to_end S runs)
  next_end_found = by_first (first_to_ring alarms) ∙ ap (end_of runs) first_to_end_is
    where
      by_first : (o : Option ℕ) → ring_of alarms o ≡ end_of runs o
      by_first None = refl
      by_first (Some w) = timed.ties w
