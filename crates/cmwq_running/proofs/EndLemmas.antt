-- Burns and sleeps end with time, and nothing of it shows.
use Rattle.std.proofs.Common.{◌≡◌, ℕ, ◌+◌, ◌-◌, ◌<◌, ◌≤◌, Bool, true, false, cond, List, length, set, Option, Some, None, IfSome, arith, refl, sym, ap, subst, ◌∙◌, inl, inr}
use Rattle.std.specs.Prelude.{is_some, min, nat_le, nat_lt, option_map}
use Rattle.std.proofs.Math.Seq.{map-set_same}
use Rattle.std.proofs.lemmas.Bool.{cases_lt}
use Rattle.std.proofs.lemmas.Bool.Decides.{nat_tests}
use Rattle.std.proofs.lemmas.List.{get_or_past, length-set}
use Rattle.cmwq_types.specs.Contents.{ScenarioContents}
use Rattle.cmwq_types.specs.First.{by_least, IsFirst, MatchFirst}
use Rattle.cmwq_types.specs.Scenario.{is_unbound}
use Rattle.cmwq_types.specs.declared.reply.Mode.{Mode}
use Rattle.cmwq_types.proofs.FirstLemmas.{by_least-order, first_below-is_first}
use Rattle.cmwq_table.specs.Counts.{is_some_work}
use Rattle.cmwq_phased.specs.PhasedContents.{end_of, if_ends_by}
use Rattle.cmwq_phased.specs.Phases.{IsTimely, left_in, mode_in, shown, shown_all}
use Rattle.cmwq_phased.specs.Runs.{alarm_in, first_to_end, is_awake, number_or_0, run_alarm, run_at}
use Rattle.cmwq_phased.specs.declared.run.Phase.{Phase}
use Rattle.cmwq_phased.specs.declared.run.Phase.TheVariants.{Ready, Held, Burning, Asleep, Slept}
use Rattle.cmwq_phased.specs.declared.run.Run.{Run}
use Rattle.cmwq_running.specs.Heads.{AreHeaded, AreOnTime, AreTimely, IsOnTime, IsStill, NoneEndsBefore, alarm_count, ended, first_awake, in_phase, may_burn}
use Rattle.cmwq_running.proofs.AlikeLemmas.{fewer_below}
use Rattle.cmwq_running.proofs.HeadLemmas.{IsSwap, at_changed, at_other, still_going, still_heading, swap_go, swap_have_heads}
use Rattle.cmwq_running.proofs.PaceLemmas.{within_of}

-- how the phase that follows differs from one that has ended just now
pub record Follows (time : ℕ) (phase next : Phase) : Type 0 where
  pub left : left_in time next ≡ left_in time phase
  pub mode : mode_in next ≡ mode_in phase
  pub awake : is_awake next ≡ is_awake phase
  pub still : IsStill next
  pub done : is_some (alarm_in next) ≡ false
  pub was : is_some (alarm_in phase) ≡ true

pub follows : (time : ℕ) (phase next : Phase) → IsOnTime time phase → ended time phase ≡ Some next → Follows time phase next
follows time Ready next on_time is = absurd (cc)
follows time (Held left) next on_time is = absurd (cc)
follows time (Burning end) next on_time is = by_test (nat_le end time) refl is
  where
    by_test : (b : Bool) → nat_le end time ≡ b → cond b (Some Ready) None ≡ Some next → Follows time (Burning end) next
    by_test false late none = absurd (cc)
    by_test true over some =
        let same : Ready ≡ next = cc in
        subst (λ (p : Phase). Follows time (Burning end) p) same
        (record { left = (grind (arith, nat_tests)); mode = refl; awake = refl; still = tt; done = refl; was = refl })
follows time (Asleep until) next on_time is = by_test (nat_le until time) refl is
  where
    by_test : (b : Bool) → nat_le until time ≡ b → cond b (Some (Slept until)) None ≡ Some next → Follows time (Asleep until) next
    by_test false late none = absurd (cc)
    by_test true over some =
        let same : Slept until ≡ next = cc in
        subst (λ (p : Phase). Follows time (Asleep until) p) same
        (record { left = refl; mode = refl; awake = refl; still = tt; done = refl; was = refl })
follows time (Slept until) next on_time is = absurd (cc)

-- what hasn't ended ends later
pub ends_later : (time : ℕ) (phase : Phase) → ended time phase ≡ None → IfSome (alarm_in phase) (λ end. time < end)
ends_later time Ready is = tt
ends_later time (Held left) is = tt
ends_later time (Burning end) is = by_test (nat_le end time) refl is
  where
    by_test : (b : Bool) → nat_le end time ≡ b → cond b (Some Ready) None ≡ None → time < end
    by_test true over some = absurd (cc)
    by_test false late none = grind (arith, nat_tests)
ends_later time (Asleep until) is = by_test (nat_le until time) refl is
  where
    by_test : (b : Bool) → nat_le until time ≡ b → cond b (Some (Slept until)) None ≡ None → time < until
    by_test true over some = absurd (cc)
    by_test false late none = grind (arith, nat_tests)
ends_later time (Slept until) is = tt

timely_of : (time : ℕ) (phase : Phase) → IsOnTime time phase → IfSome (alarm_in phase) (λ end. time < end) → IsTimely time phase
timely_of time Ready on_time later = tt
timely_of time (Held left) on_time later = on_time
timely_of time (Burning end) on_time later = (later, on_time.1)
timely_of time (Asleep until) on_time later = later
timely_of time (Slept until) on_time later = on_time

later_of : (time : ℕ) (phase : Phase) → IsTimely time phase → IfSome (alarm_in phase) (λ end. time < end)
later_of time Ready timely = tt
later_of time (Held left) timely = tt
later_of time (Burning end) timely = timely.0
later_of time (Asleep until) timely = timely
later_of time (Slept until) timely = tt

-- all are timely where all that end do so later
pub all_timely : (time : ℕ) (rs : List (Option Run)) → AreOnTime time rs → ((v : ℕ) → IfSome (run_alarm (run_at rs v)) (λ end. time < end)) → AreTimely time rs
all_timely time rs on_time later v = of_run (run_at rs v) (on_time v) (later v)
  where
    of_run : (o : Option Run) → IfSome o (λ r. IsOnTime time r.phase) → IfSome (run_alarm o) (λ end. time < end) → IfSome o (λ r. IsTimely time r.phase)
    of_run None right after = tt
    of_run (Some r) right after = timely_of time r.phase right after

pub all_later : (time : ℕ) (rs : List (Option Run)) → AreTimely time rs → (v : ℕ) → IfSome (run_alarm (run_at rs v)) (λ end. time < end)
all_later time rs timely v = of_run (run_at rs v) (timely v)
  where
    of_run : (o : Option Run) → IfSome o (λ r. IsTimely time r.phase) → IfSome (run_alarm o) (λ end. time < end)
    of_run None right = tt
    of_run (Some r) right = later_of time r.phase right

pub on_time_of : (time : ℕ) (rs : List (Option Run)) → AreOnTime time rs → (w : ℕ) (q : Run) → run_at rs w ≡ Some q → IsOnTime time q.phase
on_time_of time rs on_time w q at = subst (λ (o : Option Run). IfSome o (λ r. IsOnTime time r.phase)) at (on_time w)

-- The first that ends.

module _ (S : ScenarioContents) (rs : List (Option Run)) (long : length rs ≡ length S.works) where
  abbrev end_before : ℕ → ℕ → Bool
  end_before = by_least (λ w. number_or_0 (run_alarm (run_at rs w)))

  abbrev ends : ℕ → Bool
  ends = λ w. is_some (run_alarm (run_at rs w))

  matches : MatchFirst end_before ends (length S.works) (first_to_end S rs)
  matches = first_below-is_first end_before ends (length S.works) (by_least-order (λ w. number_or_0 (run_alarm (run_at rs w))))

  -- where none is the first nothing ends
  pub none_ends : first_to_end S rs ≡ None → (v : ℕ) → run_alarm (run_at rs v) ≡ None
  none_ends none v = elim (cases_lt v (length S.works)) [
    | inl within ↦ by_alarm (run_alarm (run_at rs v)) (subst (λ (o : Option ℕ). MatchFirst end_before ends (length S.works) o) none matches v within)
    | inr past ↦ ap run_alarm (get_or_past rs v None (omega (arith, past, long)))
  ]
    where
      by_alarm : (o : Option ℕ) → is_some o ≡ false → o ≡ None
      by_alarm None fails = refl
      by_alarm (Some end) fails = absurd (cc)

  -- the first ends, and nothing ends before it
  pub first_ends : (w : ℕ) → first_to_end S rs ≡ Some w → IsFirst end_before ends (length S.works) w
  first_ends w is = subst (λ (o : Option ℕ). MatchFirst end_before ends (length S.works) o) is matches

  pub ends_after : (w : ℕ) → first_to_end S rs ≡ Some w → (end : ℕ) → run_alarm (run_at rs w) ≡ Some end → (v : ℕ) → IfSome (run_alarm (run_at rs v)) (λ e. end ≤ e)
  ends_after w is end at v = elim (cases_lt v (length S.works)) [
    | inl within ↦ by_alarm (run_alarm (run_at rs v)) refl (first.least v within)
    | inr past ↦ subst (λ (o : Option Run). IfSome (run_alarm o) (λ e. end ≤ e)) (sym (get_or_past rs v None (omega (arith, past, long)))) tt
  ]
    where
      first : IsFirst end_before ends (length S.works) w
      first = first_ends w is

      lower : (one other : ℕ) → nat_lt one other ≡ false → other ≤ one
      lower one other fails = grind (arith, nat_tests)

      by_alarm : (o : Option ℕ) → run_alarm (run_at rs v) ≡ o → (is_some (run_alarm (run_at rs v)) ≡ true → end_before v w ≡ false) → IfSome o (λ e. end ≤ e)
      by_alarm None alarm least = tt
      by_alarm (Some e) alarm least =
          let after = lower (number_or_0 (run_alarm (run_at rs v))) (number_or_0 (run_alarm (run_at rs w))) (least (ap is_some alarm)) in
          subst (λ (k : ℕ). k ≤ e) (ap number_or_0 at) (subst (λ (k : ℕ). number_or_0 (run_alarm (run_at rs w)) ≤ k) (ap number_or_0 alarm) after)

  -- where the first hasn't ended nothing has
  pub first_later : (time w : ℕ) (q : Run) → first_to_end S rs ≡ Some w → run_at rs w ≡ Some q → ended time q.phase ≡ None → (v : ℕ) → IfSome (run_alarm (run_at rs v)) (λ end. time < end)
  first_later time w q is at late v = by_alarm (alarm_in q.phase) refl (ends_later time q.phase late)
    where
      has : run_alarm (run_at rs w) ≡ alarm_in q.phase
      has = ap run_alarm at

      further : (end : ℕ) → time < end → (o : Option ℕ) → IfSome o (λ e. end ≤ e) → IfSome o (λ e. time < e)
      further end soon None after = tt
      further end soon (Some e) after = omega (arith, soon, after)

      by_alarm : (o : Option ℕ) → alarm_in q.phase ≡ o → IfSome o (λ end. time < end) → IfSome (run_alarm (run_at rs v)) (λ end. time < end)
      by_alarm None none later = absurd (let passes = (first_ends w is).passes in let gone : run_alarm (run_at rs w) ≡ None = has ∙ none in cc)
      by_alarm (Some end) some later = further end later (run_alarm (run_at rs v)) (ends_after w is end (has ∙ some) v)

  -- where none ends by the time, all end later
  pub none_by : (time : ℕ) → if_ends_by rs time (first_to_end S rs) ≡ None → (v : ℕ) → IfSome (run_alarm (run_at rs v)) (λ end. time < end)
  none_by time none v = by_first (first_to_end S rs) refl none
    where
      further : (end : ℕ) → time < end → (o : Option ℕ) → IfSome o (λ e. end ≤ e) → IfSome o (λ e. time < e)
      further end soon None after = tt
      further end soon (Some e) after = omega (arith, soon, after)

      by_alarm : (w : ℕ) → first_to_end S rs ≡ Some w → (o : Option ℕ) → run_alarm (run_at rs w) ≡ o → nat_le (number_or_0 o) time ≡ false → IfSome (run_alarm (run_at rs v)) (λ e. time < e)
      by_alarm w is None at late = absurd (let passes = (first_ends w is).passes in cc)
      by_alarm w is (Some end) at late = further end (grind (arith, nat_tests)) (run_alarm (run_at rs v)) (ends_after w is end at v)

      by_test : (w : ℕ) → first_to_end S rs ≡ Some w → (b : Bool) → nat_le (number_or_0 (run_alarm (run_at rs w))) time ≡ b → cond b (Some w) None ≡ None → IfSome (run_alarm (run_at rs v)) (λ e. time < e)
      by_test w is true e none = absurd (cc)
      by_test w is false e none = by_alarm w is (run_alarm (run_at rs w)) refl e

      by_first : (o : Option ℕ) → first_to_end S rs ≡ o → if_ends_by rs time o ≡ None → IfSome (run_alarm (run_at rs v)) (λ e. time < e)
      by_first None is none = subst (λ (o : Option ℕ). IfSome o (λ e. time < e)) (sym (none_ends is v)) tt
      by_first (Some w) is none = by_test w is (nat_le (number_or_0 (run_alarm (run_at rs w))) time) refl none

  -- some time before the first ends, or none does, nothing ends
  pub none_before : (time n : ℕ) → ((end : ℕ) → end_of rs (first_to_end S rs) ≡ Some end → time + n ≤ end) → NoneEndsBefore (time + n) rs
  none_before time n early v = by_first (first_to_end S rs) refl
    where
      further : (end : ℕ) → time + n ≤ end → (o : Option ℕ) → IfSome o (λ e. end ≤ e) → IfSome o (λ e. time + n ≤ e)
      further end soon None after = tt
      further end soon (Some e) after = omega (arith, soon, after)

      by_end : (w : ℕ) → first_to_end S rs ≡ Some w → (o : Option ℕ) → run_alarm (run_at rs w) ≡ o → IfSome (run_alarm (run_at rs v)) (λ e. time + n ≤ e)
      by_end w is None none = absurd (let passes = (first_ends w is).passes in cc)
      by_end w is (Some end) some = further end (early end (ap (end_of rs) is ∙ some)) (run_alarm (run_at rs v)) (ends_after w is end some v)

      by_first : (o : Option ℕ) → first_to_end S rs ≡ o → IfSome (run_alarm (run_at rs v)) (λ e. time + n ≤ e)
      by_first None none = subst (λ (o : Option ℕ). IfSome o (λ e. time + n ≤ e)) (sym (none_ends none v)) tt
      by_first (Some w) is = by_end w is (run_alarm (run_at rs w)) refl

-- who ends by the time is the first to end
pub first_by : (rs : List (Option Run)) (time : ℕ) (o : Option ℕ) (w : ℕ) → if_ends_by rs time o ≡ Some w → o ≡ Some w
first_by rs time None w is = absurd (cc)
first_by rs time (Some v) w is = by_test (nat_le (number_or_0 (run_alarm (run_at rs v))) time) is
  where
    by_test : (b : Bool) → cond b (Some v) None ≡ Some w → Some v ≡ Some w
    by_test true e = e
    by_test false e = absurd (cc)

-- It ends.

module _ (S : ScenarioContents) (rs : List (Option Run)) (time w : ℕ) (q : Run) (next : Phase) (at : run_at rs w ≡ Some q) (follow : Follows time q.phase next) where
  swap : IsSwap rs w q (in_phase q next)
  swap = record { within = within_of rs w q at; was = at; stamp = refl; pool = refl; awake = follow.awake }

  pub end_shown : shown_all time (set rs w (Some (in_phase q next))) ≡ shown_all time rs
  end_shown = map-set_same (option_map (shown time)) rs w (Some (in_phase q next)) None
      (ap (λ (left : ℕ). Some (record (shown time (in_phase q next)) { left = left })) follow.left
      ∙ ap (λ (mode : Mode). Some (record (shown time q) { mode = mode })) follow.mode
      ∙ sym (ap (option_map (shown time)) at))

  pub end_headed : AreHeaded S rs → AreHeaded S (set rs w (Some (in_phase q next)))
  end_headed headed = record {
    long = length-set rs w (Some (in_phase q next)) ∙ headed.long;
    heads = swap_have_heads S rs w q (in_phase q next) swap headed.heads (still_heading (is_unbound S q.pool) (is_some_work (first_awake S rs q.pool) w) next follow.still);
    going = λ pool. swap_go S rs w q (in_phase q next) swap pool (λ v other. headed.going pool v) (λ is. still_going (may_burn S rs pool) next follow.still);
  }

  pub end_fewer : w < length S.works → alarm_count (record { scenario = S; runs = set rs w (Some (in_phase q next)) }) < alarm_count (record { scenario = S; runs = rs })
  end_fewer within =
      fewer_below (λ v. is_some (run_alarm (run_at (set rs w (Some (in_phase q next))) v))) (λ v. is_some (run_alarm (run_at rs v))) (length S.works) w within
      (ap (λ (o : Option Run). is_some (run_alarm o)) (at_changed rs w (Some (in_phase q next)) swap.within) ∙ follow.done)
      (ap (λ (o : Option Run). is_some (run_alarm o)) at ∙ follow.was)
      (λ v other. ap (λ (o : Option Run). is_some (run_alarm o)) (at_other rs w v (Some (in_phase q next)) other))

-- what ends next ends later than now
pub next_later : (time : ℕ) (rs : List (Option Run)) (o : Option ℕ) (end : ℕ) → AreTimely time rs → end_of rs o ≡ Some end → time < end
next_later time rs None end timely is = absurd (cc)
next_later time rs (Some w) end timely is = subst (λ (o : Option ℕ). IfSome o (λ end. time < end)) is (all_later time rs timely w)

-- at most so many ticks, and none after what ends next
pub none_before_next : (S : ScenarioContents) (rs : List (Option Run)) (time end n most : ℕ) → length rs ≡ length S.works → AreTimely time rs → end_of rs (first_to_end S rs) ≡ Some end → n ≡ min (end - time) most → NoneEndsBefore (time + n) rs
none_before_next S rs time end n most long timely is least = none_before S rs long time n early
  where
    early : (e : ℕ) → end_of rs (first_to_end S rs) ≡ Some e → time + n ≤ e
    early e other =
        let same : end ≡ e = cc in
        let later = next_later time rs (first_to_end S rs) end timely is in
        omega (arith, same, later, least)

-- who is the first to end runs
pub first_to_end_runs : (S : ScenarioContents) (rs : List (Option Run)) (w : ℕ) → length rs ≡ length S.works → first_to_end S rs ≡ Some w → run_at rs w ≡ None → ⊥
first_to_end_runs S rs w long is none =
    let passes = subst (λ (o : Option Run). is_some (run_alarm o) ≡ true) none (first_ends S rs long w is).passes in
    cc
