-- The ready head of a pool goes on, or falls asleep; a sleeper wakes.
use Rattle.std.proofs.Common.{◌≡◌, ◌≢◌, ℕ, ◌+◌, ◌<◌, Bool, true, false, cond, ◌&&◌, ◌==◌, List, length, set, Option, Some, None, IfSome, arith, refl, sym, ap, subst, ◌∙◌, inl, inr}
use Rattle.std.specs.Prelude.{is_some, nat_le, option_map, slice_index_or}
use Rattle.std.proofs.lemmas.Bool.{cases_eq}
use Rattle.std.proofs.lemmas.Bool.Decides.{nat_tests}
use Rattle.std.proofs.lemmas.List.{length-set}
use Rattle.cmwq_types.specs.Contents.{ScenarioContents}
use Rattle.cmwq_types.specs.First.{by_least_two, MatchFirst}
use Rattle.cmwq_types.specs.Scenario.{is_unbound}
use Rattle.cmwq_types.specs.declared.reply.Mode.{Mode}
use Rattle.cmwq_types.specs.declared.reply.Mode.TheVariants as mode
use Rattle.cmwq_types.proofs.FirstLemmas.{by_least_two-order, first_below-is_first}
use Rattle.cmwq_table.specs.Counts.{first_slept, is_some_work, ready_head}
use Rattle.cmwq_table.specs.State.{running_at}
use Rattle.cmwq_table.specs.declared.state.Running.{Running}
use Rattle.cmwq_phased.specs.PhasedContents.{HaveOwnStamps, PhasedContents}
use Rattle.cmwq_phased.specs.Phases.{IsTimely, left_in, mode_in, shown, shown_all}
use Rattle.cmwq_phased.specs.Runs.{HasOwnStamp, first_in_line, first_rested, is_awake, is_ready, is_rested, run_at, run_sleep, run_stamp, with_run}
use Rattle.cmwq_phased.specs.declared.run.Phase.{Phase}
use Rattle.cmwq_phased.specs.declared.run.Phase.TheVariants.{Ready, Held, Burning, Asleep, Slept}
use Rattle.cmwq_phased.specs.declared.run.Run.{Run}
use Rattle.cmwq_running.specs.Heads.{AreHeaded, AreKept, AreTimely, ComesLast, IsGoing, IsHeading, asleep_until, first_awake, may_burn, paced, with_left}
use Rattle.cmwq_running.specs.RunningContents.{onward_run, ready_as, seen, state_of, woken_run}
use Rattle.cmwq_running.proofs.HeadLemmas.{IsSwap, at_changed, at_other, is_work, swap_go, swap_have_heads}
use Rattle.cmwq_running.proofs.PaceLemmas.{head_may, own_stamp, paced_awake, paced_goes, paced_left, paced_mode, within_of}
use Rattle.cmwq_running.proofs.ShownLemmas.{at_shown, first_in_line_bound, first_slept_is, phase_ready, ready_head_is, ready_of, run_of}

-- The ready head.

-- who is the ready head by the table is so by his run, which is in no other phase
pub record IsReadyHead (time : ℕ) (works : PhasedContents) (w : ℕ) (r : Running) : Type 0 where
  pub q : Run
  pub at : run_at works.runs w ≡ Some q
  pub shows : shown time q ≡ r
  pub ready : q.phase ≡ Ready
  pub first : first_in_line works.scenario works.runs q.pool ≡ Some w

pub ready_head_of : (time : ℕ) (works : PhasedContents) (w : ℕ) (r : Running) → AreTimely time works.runs → running_at (state_of (seen time works)) w ≡ Some r → ready_head works.scenario (state_of (seen time works)) r.pool ≡ Some w
    → IsReadyHead time works w r
ready_head_of time works w r timely running head =
    let of = run_of time works.runs w r running in
    let ready = ready_of works.scenario works.runs r.pool w (sym (ready_head_is works.scenario (state_of (seen time works)) works.runs r.pool refl timely) ∙ head) in
    record {
      q = of.q;
      at = of.at;
      shows = of.shows;
      ready = phase_ready of.q.phase (subst (λ (o : Option Run). with_run (λ r. is_ready r.phase) o ≡ true) of.at ready.ready);
      first = subst (λ (pool : ℕ). first_in_line works.scenario works.runs pool ≡ Some w) (sym (ap (λ (r : Running). r.pool) of.shows)) ready.first;
    }

with_left_awake : (left : ℕ) → is_awake (with_left left) ≡ true
with_left_awake left = by_test (left == 0)
  where
    by_test : (b : Bool) → is_awake (cond b Ready (Held left)) ≡ true
    by_test true = refl
    by_test false = refl

with_left_left : (time left : ℕ) → left_in time (with_left left) ≡ left
with_left_left time left = by_test (left == 0) refl
  where
    by_test : (b : Bool) → (left == 0) ≡ b → left_in time (cond b Ready (Held left)) ≡ left
    by_test true none = grind (arith, nat_tests)
    by_test false some = refl

with_left_mode : (left : ℕ) → mode_in (with_left left) ≡ mode.Runnable
with_left_mode left = by_test (left == 0)
  where
    by_test : (b : Bool) → mode_in (cond b Ready (Held left)) ≡ mode.Runnable
    by_test true = refl
    by_test false = refl

-- in an unbound pool whoever has ticks left burns
free_heading : (head : Bool) (time : ℕ) (phase : Phase) → IsHeading true head (paced true time phase)
free_heading head time Ready = tt
free_heading head time (Held left) = refl
free_heading head time (Burning end) = refl
free_heading head time (Asleep until) = tt
free_heading head time (Slept until) = tt

-- with another run that is timely all are so still
pub timely_set : (time : ℕ) (rs : List (Option Run)) (w : ℕ) (r : Run) → w < length rs → AreTimely time rs → IsTimely time r.phase → AreTimely time (set rs w (Some r))
timely_set time rs w r within timely right v = elim (cases_eq v w) [
  | inl here ↦ subst (λ (o : Option Run). IfSome o (λ r. IsTimely time r.phase)) (sym (ap (run_at (set rs w (Some r))) here ∙ at_changed rs w (Some r) within)) right
  | inr other ↦ subst (λ (o : Option Run). IfSome o (λ r. IsTimely time r.phase)) (sym (at_other rs w v (Some r) other)) (timely v)
]

module _ (time : ℕ) (works : PhasedContents) (w : ℕ) (r : Running) (kept : AreKept time works) (is : IsReadyHead time works w r) where
  abbrev S : ScenarioContents
  S = works.scenario

  pool_is : r.pool ≡ is.q.pool
  pool_is = ap (λ (r : Running). r.pool) (sym is.shows)

  -- how it runs, by what is known of it
  pub ready_run_is : run_at works.runs w ≡ Some (ready_as r)
  ready_run_is = is.at ∙ ap (λ (phase : Phase). Some (record is.q { phase = phase })) is.ready ∙ ap (λ (r : Running). Some (ready_as r)) is.shows

  stamp_is : r.stamp ≡ is.q.stamp
  stamp_is = ap (λ (r : Running). r.stamp) (sym is.shows)

  left_is : r.left ≡ 0
  left_is = ap (λ (r : Running). r.left) (sym is.shows) ∙ ap (left_in time) is.ready

  mode_is : r.mode ≡ mode.Runnable
  mode_is = ap (λ (r : Running). r.mode) (sym is.shows) ∙ ap mode_in is.ready

  -- the next run has the stamp of the one before to itself
  pub onward_own : HaveOwnStamps works.runs → (phase : Phase) → HasOwnStamp works.runs w (Some (onward_run r phase))
  onward_own own phase = own_stamp works.runs w is.q (onward_run r phase) own is.at stamp_is

  abbrev next_phase : ℕ → Phase
  next_phase left = paced (may_burn S works.runs r.pool) time (with_left left)

  swap : (left : ℕ) → IsSwap works.runs w is.q (onward_run r (next_phase left))
  swap left = record {
    within = within_of works.runs w is.q is.at;
    was = is.at;
    stamp = stamp_is;
    pool = pool_is;
    awake = paced_awake (may_burn S works.runs r.pool) time (with_left left) ∙ with_left_awake left ∙ sym (ap is_awake is.ready);
  }

  heading : (left : ℕ) → IsHeading (is_unbound S r.pool) (is_some_work (first_awake S works.runs r.pool) w) (next_phase left)
  heading left = by_kind (is_unbound S r.pool) refl
    where
      by_kind : (b : Bool) → is_unbound S r.pool ≡ b → IsHeading b (is_some_work (first_awake S works.runs r.pool) w) (next_phase left)
      by_kind true unbound =
          let may : may_burn S works.runs r.pool ≡ true = rw unbound refl in
          subst (λ (b : Bool). IsHeading true (is_some_work (first_awake S works.runs r.pool) w) (paced b time (with_left left))) (sym may)
          (free_heading (is_some_work (first_awake S works.runs r.pool) w) time (with_left left))
      by_kind false bound =
          let first = subst (λ (pool : ℕ). first_in_line S works.runs pool ≡ Some w) (sym pool_is) is.first in
          let head : is_some_work (first_awake S works.runs r.pool) w ≡ true = ap (λ (o : Option ℕ). is_some_work o w) (sym (first_in_line_bound S works.runs r.pool bound) ∙ first) ∙ is_work w in
          subst (λ (b : Bool). IsHeading false b (next_phase left)) (sym head) (head_may (next_phase left))

  abbrev next_runs : ℕ → List (Option Run)
  next_runs left = set works.runs w (Some (onward_run r (next_phase left)))

  go_on_headed : (left : ℕ) → AreHeaded S (next_runs left)
  go_on_headed left = record {
    long = length-set works.runs w (Some (onward_run r (next_phase left))) ∙ kept.headed.long;
    heads = swap_have_heads S works.runs w is.q (onward_run r (next_phase left)) (swap left) kept.headed.heads (heading left);
    going = λ pool. swap_go S works.runs w is.q (onward_run r (next_phase left)) (swap left) pool (λ v other. kept.headed.going pool v)
        (λ here. subst (λ (p : ℕ). IsGoing (may_burn S works.runs p) (next_phase left)) here (paced_goes (may_burn S works.runs r.pool) time (with_left left)));
  }

  pub go_on_kept : (left : ℕ) → IsTimely time (next_phase left) → AreKept time (record { scenario = S; runs = next_runs left })
  go_on_kept left timely = record {
    early = kept.early;
    timely = timely_set time works.runs w (onward_run r (next_phase left)) (within_of works.runs w is.q is.at) kept.timely timely;
    headed = go_on_headed left;
  }

  -- it shows with the ticks that it has to burn
  pub go_on_shown : (left : ℕ) → shown time (onward_run r (next_phase left)) ≡ record r { pc = r.pc + 1; left = left }
  go_on_shown left =
      ap (λ (n : ℕ). record r { pc = r.pc + 1; left = n; mode = mode_in (next_phase left) }) (paced_left (may_burn S works.runs r.pool) time (with_left left) ∙ with_left_left time left)
      ∙ ap (λ (m : Mode). record r { pc = r.pc + 1; left = left; mode = m }) (paced_mode (may_burn S works.runs r.pool) time (with_left left) ∙ with_left_mode left ∙ sym mode_is)

  pub asleep_shown : (until : ℕ) → shown time (onward_run r (asleep_until time until)) ≡ record r { pc = r.pc + 1; mode = mode.Asleep until }
  asleep_shown until = by_test (nat_le until time)
    where
      by_test : (b : Bool) → shown time (onward_run r (cond b (Slept until) (Asleep until))) ≡ record r { pc = r.pc + 1; mode = mode.Asleep until }
      by_test true = ap (λ (n : ℕ). record r { pc = r.pc + 1; left = n; mode = mode.Asleep until }) (sym left_is)
      by_test false = ap (λ (n : ℕ). record r { pc = r.pc + 1; left = n; mode = mode.Asleep until }) (sym left_is)

-- how the ready head runs, and that there is such a work
pub head_ran : (time : ℕ) (works : PhasedContents) (w : ℕ) (r : Running) → AreKept time works → running_at (state_of (seen time works)) w ≡ Some r → ready_head works.scenario (state_of (seen time works)) r.pool ≡ Some w
    → run_at works.runs w ≡ Some (ready_as r)
head_ran time works w r kept running head = ready_run_is time works w r kept (ready_head_of time works w r kept.timely running head)

pub head_within : (time : ℕ) (works : PhasedContents) (w : ℕ) (r : Running) → AreKept time works → running_at (state_of (seen time works)) w ≡ Some r → ready_head works.scenario (state_of (seen time works)) r.pool ≡ Some w
    → w < length works.scenario.works
head_within time works w r kept running head = subst (λ (n : ℕ). w < n) kept.headed.long (within_of works.runs w (ready_as r) (head_ran time works w r kept running head))

-- A stamp above those of all running works.

pub newest_run : (time stamp : ℕ) (rs : List (Option Run)) → ((v : ℕ) → IfSome (slice_index_or (shown_all time rs) v None) (λ q. q.stamp < stamp)) → (v : ℕ) → IfSome (run_at rs v) (λ q. q.stamp < stamp)
newest_run time stamp rs newest v = of_run (run_at rs v) (subst (λ (o : Option Running). IfSome o (λ q. q.stamp < stamp)) (at_shown time rs v) (newest v))
  where
    of_run : (o : Option Run) → IfSome (option_map (shown time) o) (λ q. q.stamp < stamp) → IfSome o (λ q. q.stamp < stamp)
    of_run None below = tt
    of_run (Some q) below = below

pub newest_own : (time : ℕ) (rs : List (Option Run)) (w : ℕ) (r : Run) → ((v : ℕ) → IfSome (slice_index_or (shown_all time rs) v None) (λ q. q.stamp < r.stamp)) → HasOwnStamp rs w (Some r)
newest_own time rs w r newest v other = of_run (run_at rs v) (newest_run time r.stamp rs newest v)
  where
    of_run : (o : Option Run) → IfSome o (λ q. q.stamp < r.stamp) → IfSome o (λ q. q.stamp ≢ r.stamp)
    of_run None below = tt
    of_run (Some q) below = λ same. absurd (omega (arith, same, below))

pub newest_last : (time : ℕ) (rs : List (Option Run)) (w : ℕ) (r : Run) → ((v : ℕ) → IfSome (slice_index_or (shown_all time rs) v None) (λ q. q.stamp < r.stamp)) → ComesLast rs w (Some r)
newest_last time rs w r newest awake v other = newest_run time r.stamp rs newest v

-- The first sleeper whose sleep is over.

-- he runs, and has slept
pub record HasSlept (time : ℕ) (works : PhasedContents) (w : ℕ) : Type 0 where
  pub q : Run
  pub at : run_at works.runs w ≡ Some q
  pub rested : is_rested q.phase ≡ true
  pub within : w < length works.scenario.works

pub has_slept : (time : ℕ) (works : PhasedContents) (pool w : ℕ) → AreTimely time works.runs → first_slept works.scenario (state_of (seen time works)) pool ≡ Some w → HasSlept time works w
has_slept time works pool w timely head = of_first (first_rested works.scenario works.runs pool) (sym (first_slept_is works.scenario (state_of (seen time works)) works.runs pool refl timely) ∙ head)
    (first_below-is_first (by_least_two (λ w. run_sleep (run_at works.runs w)) (λ w. run_stamp (run_at works.runs w))) (λ w. with_run (λ r. (r.pool == pool) && is_rested r.phase) (run_at works.runs w)) (length works.scenario.works)
    (by_least_two-order (λ w. run_sleep (run_at works.runs w)) (λ w. run_stamp (run_at works.runs w))))
  where
    both : (b : Bool) (phase : Phase) → (b && is_rested phase) ≡ true → is_rested phase ≡ true
    both true phase passes = passes
    both false phase passes = absurd (cc)

    of_run : (v : ℕ) → v < length works.scenario.works → (o : Option Run) → run_at works.runs v ≡ o → with_run (λ r. (r.pool == pool) && is_rested r.phase) o ≡ true → HasSlept time works v
    of_run v within None at passes = absurd (cc)
    of_run v within (Some q) at passes = record { q = q; at = at; rested = both (q.pool == pool) q.phase passes; within = within }

    of_first : (o : Option ℕ) → o ≡ Some w
        → MatchFirst (by_least_two (λ w. run_sleep (run_at works.runs w)) (λ w. run_stamp (run_at works.runs w))) (λ w. with_run (λ r. (r.pool == pool) && is_rested r.phase) (run_at works.runs w)) (length works.scenario.works) o
        → HasSlept time works w
    of_first None none first = absurd (cc)
    of_first (Some v) is first = (let same : v ≡ w = cc in subst (λ (k : ℕ). HasSlept time works k) same (of_run v first.in_range (run_at works.runs v) refl first.passes))

rested_left : (time : ℕ) (phase : Phase) → is_rested phase ≡ true → left_in time phase ≡ 0
rested_left time Ready is = absurd (cc)
rested_left time (Held left) is = absurd (cc)
rested_left time (Burning end) is = absurd (cc)
rested_left time (Asleep until) is = refl
rested_left time (Slept until) is = refl

-- once woken it shows so
pub woken_shown : (time stamp : ℕ) (works : PhasedContents) (w : ℕ) → HasSlept time works w → (q : Run) → run_at works.runs w ≡ Some q
    → Some (shown time (record q { stamp = stamp; phase = Ready })) ≡ woken_run stamp (running_at (state_of (seen time works)) w)
woken_shown time stamp works w slept q at =
    let same : slept.q ≡ q = (let one = slept.at in cc) in
    let left = rested_left time q.phase (subst (λ (r : Run). is_rested r.phase ≡ true) same slept.rested) in
    ap (λ (n : ℕ). Some (record (shown time q) { left = n; mode = mode.Runnable; stamp = stamp })) (sym left)
    ∙ sym (ap (woken_run stamp) (at_shown time works.runs w ∙ ap (option_map (shown time)) at))

pub slept_runs : (time : ℕ) (works : PhasedContents) (w : ℕ) → HasSlept time works w → is_some (running_at (state_of (seen time works)) w) ≡ true
slept_runs time works w slept = ap is_some (at_shown time works.runs w ∙ ap (option_map (shown time)) slept.at)
