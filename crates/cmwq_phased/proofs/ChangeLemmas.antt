-- A change of one run, and a start with none.
use Rattle.std.proofs.Common.{◌≡◌, ◌≢◌, ℕ, ◌*◌, ◌^◌, ◌<◌, Bool, true, false, ◌&&◌, nat_lt, cond, List, length, replicate, set, Option, Some, None, IfSome, arith, refl, sym, ap, subst, ◌∙◌, inl, inr}
use Rattle.std.specs.Prelude.{not, slice_index_or}
use Rattle.std.proofs.lemmas.Bool.{cases_eq, cases_lt}
use Rattle.std.proofs.lemmas.List.{get_or-set_same, get_or-set_other, get_or-replicate, get_or_past, length-set, length-replicate, set-get_or}
use Rattle.cmwq_types.specs.Contents.{ScenarioContents}
use Rattle.cmwq_types.specs.Scenario.{flags_at, is_unbound, queue_of}
use Rattle.cmwq_types.specs.Setting.{IsSetting}
use Rattle.cmwq_types.proofs.FirstLemmas.{count_below-agree}
use Rattle.cmwq_lists.specs.ListContents.{ListContents, Rank, no_ranks, with_rank}
use Rattle.cmwq_phased.specs.Runs.{HasOwnStamp, is_awake, run_alarm, run_at}
use Rattle.cmwq_phased.specs.declared.run.Run.{Run}
use Rattle.cmwq_phased.specs.Counted.{AreCounted, no_counts}
use Rattle.cmwq_phased.specs.Indexed.{AreIndexed}
use Rattle.cmwq_phased.specs.Indexes.{AreLined, AreRuns, AreTimed, awake_class, awake_classes, busy_class, busy_classes, rank_of, rescued_class, rescued_classes, running_class, running_classes, standing_of, stands_by}
use Rattle.cmwq_phased.specs.PhasedContents.{HaveOwnStamps}
use Rattle.cmwq_phased.specs.declared.counts.Counts.{Counts}
use Rattle.cmwq_phased.specs.declared.lines.Standing.{Standing}
use Rattle.cmwq_phased.specs.declared.pools.TheConstants.{MAX_POOLS}
use Rattle.cmwq_tally.specs.TallyContents.{IsTallied, changed, is_class}
use Rattle.cmwq_tally.proofs.TallyLemmas.{changed-length, changed_is_tallied, empty_is_tallied}

-- One work runs otherwise.

-- what is tied to the runs by work stays so
ties_with : {X : Type 0} (xs : List (Option X)) (runs : List (Option Run)) (tie : ℕ → Option Run → Option X) (w : ℕ) (run : Option Run) → w < length xs → w < length runs
    → ((v : ℕ) → slice_index_or xs v None ≡ tie v (run_at runs v)) → (v : ℕ) → slice_index_or (set xs w (tie w run)) v None ≡ tie v (run_at (set runs w run) v)
ties_with xs runs tie w run inside runs_inside ties v =
    elim (cases_eq v w) [
      | inl same ↦ rw same (get_or-set_same xs w (tie w run) None inside ∙ ap (tie w) (sym (get_or-set_same runs w run None runs_inside)))
      | inr other ↦ get_or-set_other xs w v (tie w run) None other ∙ ties v ∙ ap (tie v) (sym (get_or-set_other runs w v run None other))
    ]

-- what holds of each run stays so
all_with : (P : Option Run → Type 0) (runs : List (Option Run)) (w : ℕ) (run : Option Run) → w < length runs → ((v : ℕ) → P (run_at runs v)) → P run → (v : ℕ) → P (run_at (set runs w run) v)
all_with P runs w run inside each here v =
    elim (cases_eq v w) [
      | inl same ↦ subst P (sym (ap (run_at (set runs w run)) same ∙ get_or-set_same runs w run None inside)) here
      | inr other ↦ subst P (sym (get_or-set_other runs w v run None other)) (each v)
    ]

-- its place in a line is another
pub lined_with : (S : ScenarioContents) (runs : List (Option Run)) (lines : ListContents) (w : ℕ) (run : Option Run) → AreLined S runs lines → length runs ≡ length S.works → w < length S.works
    → AreLined S (set runs w run) (with_rank lines w (rank_of (standing_of S run)))
lined_with S runs lines w run lined long inside = record {
  many = lined.many;
  long = length-set lines.ranks w (rank_of (standing_of S run)) ∙ lined.long;
  ties = ties_with lines.ranks runs (λ v r. rank_of (standing_of S r)) w run (omega (arith, inside, lined.long)) (omega (arith, inside, long)) lined.ties;
}

-- its place in a line is the same
pub lined_still : (S : ScenarioContents) (runs : List (Option Run)) (lines : ListContents) (w : ℕ) (run : Option Run) → AreLined S runs lines → length runs ≡ length S.works → w < length S.works → standing_of S (run_at runs w) ≡ standing_of S run
    → AreLined S (set runs w run) lines
lined_still S runs lines w run lined long inside same =
    let kept : set lines.ranks w (rank_of (standing_of S run)) ≡ lines.ranks = ap (set lines.ranks w) (ap rank_of (sym same) ∙ sym (lined.ties w)) ∙ set-get_or lines.ranks w None in
    subst (λ (rs : List (Option Rank)). AreLined S (set runs w run) (record lines { ranks = rs })) kept (lined_with S runs lines w run lined long inside)

-- its alarm is another
pub timed_with : (runs : List (Option Run)) (alarms : List (Option ℕ)) (w : ℕ) (run : Option Run) → AreTimed runs alarms → w < length runs → AreTimed (set runs w run) (set alarms w (run_alarm run))
timed_with runs alarms w run timed inside = record {
  long = length-set alarms w (run_alarm run) ∙ timed.long ∙ sym (length-set runs w run);
  ties = ties_with alarms runs (λ v r. run_alarm r) w run (omega (arith, inside, timed.long)) inside timed.ties;
}

-- one tally
tallied_with : (counts : List ℕ) (runs : List (Option Run)) (class : ℕ → Option Run → Option ℕ) (works w : ℕ) (run : Option Run) → IsTallied counts (λ v. class v (run_at runs v)) works → w < works → w < length runs
    → IsTallied (changed counts (class w (run_at runs w)) (class w run)) (λ v. class v (run_at (set runs w run) v)) works
tallied_with counts runs class works w run right inside runs_inside =
    subst (λ (o : Option Run). IsTallied (changed counts (class w (run_at runs w)) (class w o)) (λ v. class v (run_at (set runs w run) v)) works) (get_or-set_same runs w run None runs_inside)
    (changed_is_tallied counts (λ v. class v (run_at runs v)) (λ v. class v (run_at (set runs w run) v)) works w right inside
    (λ v other. ap (class v) (sym (get_or-set_other runs w v run None other))))

-- one in whose classes nothing changes
tallied_still : (counts : List ℕ) (runs : List (Option Run)) (class : ℕ → Option Run → Option ℕ) (works w : ℕ) (run : Option Run) → IsTallied counts (λ v. class v (run_at runs v)) works → w < length runs → class w (run_at runs w) ≡ class w run
    → IsTallied counts (λ v. class v (run_at (set runs w run) v)) works
tallied_still counts runs class works w run right inside same = record {
  counted = λ i h. right.counted i h ∙ count_below-agree (λ v. is_class i (class v (run_at runs v))) (λ v. is_class i (class v (run_at (set runs w run) v))) works (λ v below. ap (is_class i) (alike v));
}
  where
    alike : (v : ℕ) → class v (run_at runs v) ≡ class v (run_at (set runs w run) v)
    alike v = elim (cases_eq v w) [
      | inl here ↦
          ap (λ (k : ℕ). class k (run_at runs k)) here ∙ same ∙ ap (class w) (sym (get_or-set_same runs w run None inside))
          ∙ sym (ap (λ (k : ℕ). class k (run_at (set runs w run) k)) here)
      | inr other ↦ ap (class v) (sym (get_or-set_other runs w v run None other))
    ]

-- all tallies
pub counted_with : (S : ScenarioContents) (runs : List (Option Run)) (c : Counts) (w : ℕ) (run : Option Run) → AreCounted S runs c → length runs ≡ length S.works → w < length S.works
    → AreCounted S (set runs w run) (record {
      running = changed c.running (running_classes S runs w) (running_class (queue_of S w) run);
      awake = changed c.awake (awake_classes S runs w) (awake_class (flags_at S (queue_of S w)).cpu_intensive run);
      rescued = changed c.rescued (rescued_classes S runs w) (rescued_class (queue_of S w) run);
      busy = changed c.busy (busy_classes S runs w) (busy_class (flags_at S (queue_of S w)).freezable run);
    })
counted_with S runs c w run counted long inside =
    let there : w < length runs = omega (arith, inside, long) in
    record {
      running_long = changed-length c.running (running_classes S runs w) (running_class (queue_of S w) run) ∙ counted.running_long;
      awake_long = changed-length c.awake (awake_classes S runs w) (awake_class (flags_at S (queue_of S w)).cpu_intensive run) ∙ counted.awake_long;
      rescued_long = changed-length c.rescued (rescued_classes S runs w) (rescued_class (queue_of S w) run) ∙ counted.rescued_long;
      busy_long = changed-length c.busy (busy_classes S runs w) (busy_class (flags_at S (queue_of S w)).freezable run) ∙ counted.busy_long;
      running = tallied_with c.running runs (λ v r. running_class (queue_of S v) r) (length S.works) w run counted.running inside there;
      awake = tallied_with c.awake runs (λ v r. awake_class (flags_at S (queue_of S v)).cpu_intensive r) (length S.works) w run counted.awake inside there;
      rescued = tallied_with c.rescued runs (λ v r. rescued_class (queue_of S v) r) (length S.works) w run counted.rescued inside there;
      busy = tallied_with c.busy runs (λ v r. busy_class (flags_at S (queue_of S v)).freezable r) (length S.works) w run counted.busy inside there;
    }

-- The work stays in its pool and on its worker.
module _ (S : ScenarioContents) (runs : List (Option Run)) (c : Counts) (w : ℕ) (was run : Run) (counted : AreCounted S runs c) (long : length runs ≡ length S.works) (inside : w < length S.works) (at : run_at runs w ≡ Some was)
    (pool : run.pool ≡ was.pool) (worker : run.worker ≡ was.worker) where
  there : w < length runs
  there = omega (arith, inside, long)

  running_same : running_classes S runs w ≡ running_class (queue_of S w) (Some run)
  running_same = ap (running_class (queue_of S w)) at ∙ ap (λ (p : ℕ). running_class (queue_of S w) (Some (record run { pool = p }))) (sym pool)

  rescued_same : rescued_classes S runs w ≡ rescued_class (queue_of S w) (Some run)
  rescued_same = ap (rescued_class (queue_of S w)) at ∙ ap (λ (k : ℕ). rescued_class (queue_of S w) (Some (record run { worker = k }))) (sym worker)

  busy_same : busy_classes S runs w ≡ busy_class (flags_at S (queue_of S w)).freezable (Some run)
  busy_same = ap (busy_class (flags_at S (queue_of S w)).freezable) at

  -- the tally of those that are awake follows
  pub counted_awake : AreCounted S (set runs w (Some run)) (record c { awake = changed c.awake (awake_classes S runs w) (awake_class (flags_at S (queue_of S w)).cpu_intensive (Some run)) })
  counted_awake = record {
    running_long = counted.running_long;
    awake_long = changed-length c.awake (awake_classes S runs w) (awake_class (flags_at S (queue_of S w)).cpu_intensive (Some run)) ∙ counted.awake_long;
    rescued_long = counted.rescued_long;
    busy_long = counted.busy_long;
    running = tallied_still c.running runs (λ v r. running_class (queue_of S v) r) (length S.works) w (Some run) counted.running there running_same;
    awake = tallied_with c.awake runs (λ v r. awake_class (flags_at S (queue_of S v)).cpu_intensive r) (length S.works) w (Some run) counted.awake inside there;
    rescued = tallied_still c.rescued runs (λ v r. rescued_class (queue_of S v) r) (length S.works) w (Some run) counted.rescued there rescued_same;
    busy = tallied_still c.busy runs (λ v r. busy_class (flags_at S (queue_of S v)).freezable r) (length S.works) w (Some run) counted.busy there busy_same;
  }

  -- it neither falls asleep nor wakes
  pub counted_still : is_awake was.phase ≡ is_awake run.phase → AreCounted S (set runs w (Some run)) c
  counted_still same = record {
    running_long = counted.running_long;
    awake_long = counted.awake_long;
    rescued_long = counted.rescued_long;
    busy_long = counted.busy_long;
    running = tallied_still c.running runs (λ v r. running_class (queue_of S v) r) (length S.works) w (Some run) counted.running there running_same;
    awake = tallied_still c.awake runs (λ v r. awake_class (flags_at S (queue_of S v)).cpu_intensive r) (length S.works) w (Some run) counted.awake there (awake_same (flags_at S (queue_of S w)).cpu_intensive);
    rescued = tallied_still c.rescued runs (λ v r. rescued_class (queue_of S v) r) (length S.works) w (Some run) counted.rescued there rescued_same;
    busy = tallied_still c.busy runs (λ v r. busy_class (flags_at S (queue_of S v)).freezable r) (length S.works) w (Some run) counted.busy there busy_same;
  }
    where
      awake_same : (intensive : Bool) → awake_class intensive (run_at runs w) ≡ awake_class intensive (Some run)
      awake_same intensive =
          ap (awake_class intensive) at
          ∙ ap (λ (b : Bool). cond (b && not intensive) (Some was.pool) None) same
          ∙ ap (λ (p : ℕ). cond (is_awake run.phase && not intensive) (Some p) None) (sym pool)

-- where it stays in its place in line by what is known of it, it stands as it stood
pub stands_still : (S : ScenarioContents) (was run : Run) (unbound : Bool) → run.pool ≡ was.pool → unbound ≡ is_unbound S run.pool → stands_by unbound was was.phase ≡ stands_by unbound run run.phase → standing_of S (Some was) ≡ standing_of S (Some run)
stands_still S was run unbound pool is same =
    ap (λ (p : ℕ). cond (nat_lt p MAX_POOLS) (stands_by (is_unbound S p) was was.phase) None) (sym pool)
    ∙ ap (λ (b : Bool). cond (nat_lt run.pool MAX_POOLS) (stands_by b was was.phase) None) (sym is)
    ∙ ap (λ (s : Option Standing). cond (nat_lt run.pool MAX_POOLS) s None) same
    ∙ ap (λ (b : Bool). cond (nat_lt run.pool MAX_POOLS) (stands_by b run run.phase) None) is

-- no two works run under one stamp still
own_with : (runs : List (Option Run)) (w : ℕ) (run : Option Run) → w < length runs → HaveOwnStamps runs → HasOwnStamp runs w run → HaveOwnStamps (set runs w run)
own_with runs w run inside own alone u v a b u_is v_is same =
    elim (cases_eq u w) [
      | inl u_here ↦ elim (cases_eq v w) [
        | inl v_here ↦ u_here ∙ sym v_here
        | inr v_other ↦ absurd (clash run a b v v_other (here u u_here a u_is) (other v v_other b v_is) alone same)
      ]
      | inr u_other ↦ elim (cases_eq v w) [
        | inl v_here ↦ absurd (clash run b a u u_other (here v v_here b v_is) (other u u_other a u_is) alone (sym same))
        | inr v_other ↦ own u v a b (other u u_other a u_is) (other v v_other b v_is) same
      ]
    ]
  where
    here : (v : ℕ) → v ≡ w → (r : Run) → run_at (set runs w run) v ≡ Some r → run ≡ Some r
    here v v_here r is = sym (get_or-set_same runs w run None inside) ∙ ap (run_at (set runs w run)) (sym v_here) ∙ is

    other : (v : ℕ) → v ≢ w → (r : Run) → run_at (set runs w run) v ≡ Some r → run_at runs v ≡ Some r
    other v v_other r is = sym (get_or-set_other runs w v run None v_other) ∙ is

    clash : (run : Option Run) (a b : Run) (v : ℕ) → v ≢ w → run ≡ Some a → run_at runs v ≡ Some b → HasOwnStamp runs w run → a.stamp ≡ b.stamp → ⊥
    clash None a b v v_other run_is v_is alone same = absurd (cc)
    clash (Some r) a b v v_other run_is v_is alone same =
        let differs : b.stamp ≢ r.stamp = subst (λ (o : Option Run). IfSome o (λ q. q.stamp ≢ r.stamp)) v_is (alone v v_other) in
        let r_is : r ≡ a = cc in
        differs (sym same ∙ ap (λ (q : Run). q.stamp) (sym r_is))

-- the runs themselves
pub runs_with : (S : ScenarioContents) (runs : List (Option Run)) (w : ℕ) (run : Option Run) → AreRuns S runs → w < length S.works → IfSome run (λ r. r.stamp < 2 ^ 64) → HasOwnStamp runs w run → AreRuns S (set runs w run)
runs_with S runs w run are inside small own =
    let there : w < length runs = omega (arith, inside, are.long) in
    record {
      setting = are.setting;
      long = length-set runs w run ∙ are.long;
      stamps = all_with (λ o. IfSome o (λ r. r.stamp < 2 ^ 64)) runs w run there are.stamps small;
      own = own_with runs w run there are.own own;
    }

-- No work runs yet.

-- in a list of nothing is nothing
nowhere : {X : Type 0} (n v : ℕ) (none : Option X) → slice_index_or (replicate n none) v none ≡ none
nowhere n v none =
    elim (cases_lt v n) [
      | inl lt ↦ get_or-replicate n v none none lt
      | inr ge ↦ get_or_past (replicate n none) v none (omega (arith, length-replicate n none))
    ]

-- nothing stands, rings or is counted
pub indexed_new : (S : ScenarioContents) → IsSetting S → AreIndexed S (replicate (length S.works) None) (no_ranks (2 * MAX_POOLS) (length S.works)) (replicate (length S.works) None) (no_counts (length S.queues))
indexed_new S setting = record {
  are_runs = record {
    setting = setting;
    long = length-replicate works None;
    stamps = λ v. subst (λ (o : Option Run). IfSome o (λ r. r.stamp < 2 ^ 64)) (sym (idle v)) tt;
    own = λ v w a b v_is w_is same. (let gone = sym (idle v) ∙ v_is in absurd (cc));
  };
  are_lined = record {
    many = refl;
    long = length-replicate works None;
    ties = λ v. nowhere {X = Rank} works v None ∙ sym (ap (λ (o : Option Run). rank_of (standing_of S o)) (idle v));
  };
  are_timed = record {
    long = length-replicate {A = Option ℕ} works None ∙ sym (length-replicate {A = Option Run} works None);
    ties = λ v. nowhere {X = ℕ} works v None ∙ sym (ap run_alarm (idle v));
  };
  are_counted = record {
    running_long = length-replicate {A = ℕ} (MAX_POOLS * length S.queues) 0;
    awake_long = length-replicate {A = ℕ} MAX_POOLS 0;
    rescued_long = length-replicate {A = ℕ} (length S.queues) 0;
    busy_long = length-replicate {A = ℕ} 1 0;
    running = empty_is_tallied (MAX_POOLS * length S.queues) (running_classes S idle_runs) works (λ w h. ap (running_class (queue_of S w)) (idle w));
    awake = empty_is_tallied MAX_POOLS (awake_classes S idle_runs) works (λ w h. ap (awake_class (flags_at S (queue_of S w)).cpu_intensive) (idle w));
    rescued = empty_is_tallied (length S.queues) (rescued_classes S idle_runs) works (λ w h. ap (rescued_class (queue_of S w)) (idle w));
    busy = empty_is_tallied 1 (busy_classes S idle_runs) works (λ w h. ap (busy_class (flags_at S (queue_of S w)).freezable) (idle w) ∙ not_busy (flags_at S (queue_of S w)).freezable);
  };
}
  where
    works : ℕ
    works = length S.works

    idle_runs : List (Option Run)
    idle_runs = replicate works None

    idle : (v : ℕ) → run_at idle_runs v ≡ None
    idle v = nowhere {X = Run} works v None

    not_busy : (freezable : Bool) → busy_class freezable None ≡ None
    not_busy true = refl
    not_busy false = refl

-- what a new machine of so many works and queues holds
pub indexed_made : (S : ScenarioContents) (works queues pools : ℕ) (runs : List (Option Run)) (lines : ListContents) (alarms : List (Option ℕ)) (counts : Counts) → IsSetting S → works ≡ length S.works → queues ≡ length S.queues → pools ≡ MAX_POOLS
    → runs ≡ replicate works None → lines ≡ no_ranks (2 * pools) works → alarms ≡ replicate works None → counts ≡ no_counts queues → AreIndexed S runs lines alarms counts
indexed_made S works queues pools runs lines alarms counts setting works_is queues_is pools_is runs_is lines_is alarms_is counts_is =
    rw (runs_is, lines_is, alarms_is, counts_is, works_is, queues_is, pools_is) (indexed_new S setting)
