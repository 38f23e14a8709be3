-- Each worker that a pool has made is idle or runs one work, and no other worker does either: as a record of a state, which
-- each change of workers keeps.
use Rattle.std.proofs.Common.{◌≡◌, ℕ, zero, suc, ◌+◌, ◌*◌, ◌<◌, ◌≤◌, Bool, true, false, not, cond, ◌&&◌, List, [], ◌∷◌, length, Option, Some, None, arith, refl, sym, ap, ◌∙◌, subst, inl, inr}
use Rattle.std.proofs.Math.ListN.{length-set}
use Rattle.std.proofs.lemmas.Bool.{cases_eq, cases_lt, cond-false, eq-eqb, eqb-true, false_from_ne_true, ltb-true, ne_eqb, true_from_ne_false}
use Rattle.std.proofs.lemmas.List.{get_or-set_other, get_or-set_same, get_or_past}
use Rattle.std.specs.Prelude.{is_some, nat_lt, slice_index_or, slice_set, ◌==◌}
use Rattle.cmwq_types.specs.Contents.{ScenarioContents}
use Rattle.cmwq_types.specs.First.{by_greatest, count_below}
use Rattle.cmwq_types.specs.declared.limits.TheConstants.{MAX_WORKERS, RESCUER}
use Rattle.cmwq_types.proofs.FirstLemmas.{by_greatest-order, count_below-agree, first_below-is_first}
use Rattle.cmwq_table.specs.declared.state.Pending.{Pending}
use Rattle.cmwq_table.specs.declared.state.Running.{Running}
use Rattle.cmwq_table.specs.State.{State, idle_at, made_at, pool_count, running_at, seat}
use Rattle.cmwq_table.specs.Counts.{free_worker, idle_stamp, is_rescuer, last_idle, new_worker, or_else}
use Rattle.cmwq_reasons.proofs.BelowLemmas.{bit, count-changed}
use Rattle.cmwq_reasons.proofs.MoverLemmas.{some-first}
use Rattle.cmwq_reasons.proofs.RestLemmas.{Staff, staff}

-- a worker of a pool
pub record Post : Type 0 where
  pub pool : ℕ
  pub worker : ℕ

abbrev pub post_of : ℕ → ℕ → Option Post
post_of pool worker = Some (record { pool = pool; worker = worker })

-- the pool and the worker of a post that there is
abbrev post-pool : ℕ → Option Post → ℕ
post-pool n (Some p) = p.pool
post-pool n None = n

abbrev post-worker : ℕ → Option Post → ℕ
post-worker n (Some p) = p.worker
post-worker n None = n

-- the worker on which the work runs, if it runs on no rescuer
abbrev pub post : Option Running → Option Post
post (Some r) = cond (is_rescuer r.worker) None (post_of r.pool r.worker)
post None = None

abbrev pub post_at : State → ℕ → Option Post
post_at s w = post (running_at s w)

abbrev pub is_in : ℕ → Option Post → Bool
is_in pool (Some p) = p.pool == pool
is_in pool None = false

abbrev pub is_idle : State → ℕ → ℕ → Bool
is_idle s pool worker = is_some (idle_at s pool worker)

-- how many works run on the pool's workers, and how many of these are idle
abbrev pub run_count : ScenarioContents → State → ℕ → ℕ
run_count S s pool = count_below (λ w. is_in pool (post_at s w)) (length S.works)

abbrev pub idle_count : ScenarioContents → State → ℕ → ℕ
idle_count S s pool = count_below (is_idle s pool) S.workers

pub record IsStaffed (S : ScenarioContents) (s : State) : Type 0 where
  -- the maps have a place for each work, each worker and each pool
  pub long : length s.running ≡ length S.works
  pub seats : length s.idle ≡ MAX_WORKERS * pool_count S
  pub pools : length s.made ≡ pool_count S
  pub most : (pool : ℕ) → made_at s pool ≤ S.workers
  -- an idle worker was made; one that runs a work was made, isn't idle, and runs no other work
  pub idle : (pool worker : ℕ) → worker < MAX_WORKERS → is_idle s pool worker ≡ true → worker < made_at s pool
  pub runs : (w pool worker : ℕ) → post_at s w ≡ post_of pool worker → (worker < made_at s pool) × (is_idle s pool worker ≡ false)
  pub apart : (v w pool worker : ℕ) → post_at s v ≡ post_of pool worker → post_at s w ≡ post_of pool worker → v ≡ w
  -- and each that was made is idle or runs a work
  pub count : (pool : ℕ) → run_count S s pool + idle_count S s pool ≡ made_at s pool

-- What leaves the workers as they are.
pub record Leaves (s t : State) : Type 0 where
  pub posts : (w : ℕ) → post_at t w ≡ post_at s w
  pub long : length t.running ≡ length s.running
  pub idle : t.idle ≡ s.idle
  pub made : t.made ≡ s.made

pub staff-leaves : (s t : State) → staff t ≡ staff s → Leaves s t
staff-leaves s t same = record {
  posts = λ w. ap (λ (u : Staff). post (slice_index_or u.running w None)) same;
  long = ap (λ (u : Staff). length u.running) same;
  idle = ap (λ (u : Staff). u.idle) same;
  made = ap (λ (u : Staff). u.made) same;
}

-- what is written over a run with the same post leaves each post
same-posts : (rs : List (Option Running)) (w : ℕ) (o : Option Running) (v : ℕ) → post o ≡ post (slice_index_or rs w None)
    → post (slice_index_or (slice_set rs w o) v None) ≡ post (slice_index_or rs v None)
same-posts [] w o v same = refl
same-posts (r ∷ rs) zero o zero same = same
same-posts (r ∷ rs) zero o (suc v) same = refl
same-posts (r ∷ rs) (suc w) o zero same = refl
same-posts (r ∷ rs) (suc w) o (suc v) same = same-posts rs w o v same

-- the work runs otherwise, but on the same worker
pub runs-leaves : (s : State) (w next : ℕ) (pending : List (Option Pending)) (o : Option Running) → post o ≡ post_at s w
    → Leaves s (record s { next = next; pending = pending; running = slice_set s.running w o })
runs-leaves s w next pending o same =
    record { posts = λ v. same-posts s.running w o v same; long = length-set s.running w o; idle = refl; made = refl }

pub leaves-staffed : (S : ScenarioContents) (s t : State) → Leaves s t → IsStaffed S s → IsStaffed S t
leaves-staffed S s t leaves staffed = record {
  long = leaves.long ∙ staffed.long;
  seats = ap length leaves.idle ∙ staffed.seats;
  pools = ap length leaves.made ∙ staffed.pools;
  most = λ pool. subst (λ (n : ℕ). n ≤ S.workers) (sym (made pool)) (staffed.most pool);
  idle = λ pool worker small is.
      subst (λ (n : ℕ). worker < n) (sym (made pool)) (staffed.idle pool worker small (sym (idle pool worker) ∙ is));
  runs = λ w pool worker is. (let was = staffed.runs w pool worker (sym (leaves.posts w) ∙ is) in
      (subst (λ (n : ℕ). worker < n) (sym (made pool)) was.0, idle pool worker ∙ was.1));
  apart = λ v w pool worker one other. staffed.apart v w pool worker (sym (leaves.posts v) ∙ one) (sym (leaves.posts w) ∙ other);
  count = λ pool. (let was : run_count S s pool + idle_count S s pool ≡ made_at s pool = staffed.count pool in
      let running : run_count S t pool ≡ run_count S s pool =
      count_below-agree (λ w. is_in pool (post_at t w)) (λ w. is_in pool (post_at s w)) (length S.works) (λ w there. ap (is_in pool) (leaves.posts w)) in
      let resting : idle_count S t pool ≡ idle_count S s pool =
      count_below-agree (is_idle t pool) (is_idle s pool) S.workers (λ worker there. idle pool worker) in
      let same : made_at t pool ≡ made_at s pool = made pool in
      omega arith);
}
  where
    made : (pool : ℕ) → made_at t pool ≡ made_at s pool
    made pool = ap (λ (made : List ℕ). slice_index_or made pool 0) leaves.made

    idle : (pool worker : ℕ) → is_idle t pool worker ≡ is_idle s pool worker
    idle pool worker = ap (λ (idle : List (Option ℕ)). is_some (slice_index_or idle (seat pool worker) None)) leaves.idle

-- Seats.

seat-apart : (p q k j : ℕ) → k < MAX_WORKERS → j < MAX_WORKERS → (q ≡ p → j ≡ k → ⊥) → seat q j ≡ seat p k → ⊥
seat-apart p q k j small less apart same = (let pools : q ≡ p = omega arith in apart pools (omega arith))

seat-within : (p k n : ℕ) → k < MAX_WORKERS → p < n → seat p k < MAX_WORKERS * n
seat-within p k n small there = (let more : p + 1 ≤ n = omega arith in omega arith)

-- A worker's seat is written.
module _ (s t : State) (pool worker : ℕ) (o : Option ℕ) (small : worker < MAX_WORKERS) (wrote : t.idle ≡ slice_set s.idle (seat pool worker) o) where
  seat-other : (q k : ℕ) → k < MAX_WORKERS → (q ≡ pool → k ≡ worker → ⊥) → is_idle t q k ≡ is_idle s q k
  seat-other q k less apart =
      ap (λ (idle : List (Option ℕ)). is_some (slice_index_or idle (seat q k) None)) wrote
      ∙ ap is_some (get_or-set_other s.idle (seat pool worker) (seat q k) o None (seat-apart pool q worker k small less apart))

  seat-here : seat pool worker < length s.idle → is_idle t pool worker ≡ is_some o
  seat-here there =
      ap (λ (idle : List (Option ℕ)). is_some (slice_index_or idle (seat pool worker) None)) wrote
      ∙ ap is_some (get_or-set_same s.idle (seat pool worker) o None there)

  -- how many are idle then
  idle-counts : (S : ScenarioContents) → S.workers ≤ MAX_WORKERS → worker < S.workers → seat pool worker < length s.idle
      → idle_count S t pool + bit (is_idle s pool worker) ≡ idle_count S s pool + bit (is_some o)
  idle-counts S few there within =
      count-changed (is_idle t pool) (is_idle s pool) S.workers worker there (λ k less apart. seat-other pool k (omega arith) (λ same is. apart is))
      ∙ ap (λ (b : Bool). idle_count S s pool + bit b) (seat-here within)

  idle-elsewhere : (S : ScenarioContents) (q : ℕ) → S.workers ≤ MAX_WORKERS → (q ≡ pool → ⊥) → idle_count S t q ≡ idle_count S s q
  idle-elsewhere S q few apart =
      count_below-agree (is_idle t q) (is_idle s q) S.workers (λ k there. seat-other q k (omega arith) (λ same is. apart same))

-- Who runs is written.
module _ (S : ScenarioContents) (s t : State) (w : ℕ) (o : Option Running) (wrote : t.running ≡ slice_set s.running w o) where
  post-other : (v : ℕ) → (v ≡ w → ⊥) → post_at t v ≡ post_at s v
  post-other v apart =
      ap (λ (rs : List (Option Running)). post (slice_index_or rs v None)) wrote ∙ ap post (get_or-set_other s.running w v o None apart)

  post-here : w < length s.running → post_at t w ≡ post o
  post-here there = ap (λ (rs : List (Option Running)). post (slice_index_or rs w None)) wrote ∙ ap post (get_or-set_same s.running w o None there)

  run-counts : (q : ℕ) → w < length S.works → w < length s.running
      → run_count S t q + bit (is_in q (post_at s w)) ≡ run_count S s q + bit (is_in q (post o))
  run-counts q within there =
      count-changed (λ v. is_in q (post_at t v)) (λ v. is_in q (post_at s v)) (length S.works) w within (λ v less apart. ap (is_in q) (post-other v apart))
      ∙ ap (λ (p : Option Post). run_count S s q + bit (is_in q p)) (post-here there)

-- The two changes of workers.

-- a free worker of the pool, and how many it has made once that one works
pub record Free (S : ScenarioContents) (s : State) (pool worker made : ℕ) : Type 0 where
  there : worker < S.workers
  low : worker < made
  grows : made_at s pool ≤ made
  most : made ≤ S.workers
  sum : made + bit (is_idle s pool worker) ≡ made_at s pool + 1
  alone : (v : ℕ) → post_at s v ≡ post_of pool worker → ⊥

module _ (S : ScenarioContents) (s : State) (few : S.workers ≤ MAX_WORKERS) (staffed : IsStaffed S s) where
  free-idle : (pool worker : ℕ) (b : Bool) → worker < S.workers → is_idle s pool worker ≡ true → (worker == made_at s pool) ≡ b
      → Free S s pool worker (cond b (worker + 1) (made_at s pool))
  free-idle pool worker true there idle last =
      let same : worker ≡ made_at s pool = eqb-true worker (made_at s pool) last in
      let low : worker < made_at s pool = staffed.idle pool worker (omega arith) idle in
      absurd (omega arith)
  free-idle pool worker false there idle last =
      let low : worker < made_at s pool = staffed.idle pool worker (omega arith) idle in
      record {
        there = there;
        low = low;
        grows = omega arith;
        most = staffed.most pool;
        sum = (let one : bit (is_idle s pool worker) ≡ 1 = ap bit idle in omega arith);
        alone = λ v is. (let rests : is_idle s pool worker ≡ false = (staffed.runs v pool worker is).1 in cc);
      }

  free-made : (pool : ℕ) (b : Bool) → made_at s pool < S.workers → (made_at s pool == made_at s pool) ≡ b
      → Free S s pool (made_at s pool) (cond b (made_at s pool + 1) (made_at s pool))
  free-made pool true more same = record {
    there = more;
    low = omega arith;
    grows = omega arith;
    most = omega arith;
    sum = (let none : bit (is_idle s pool (made_at s pool)) ≡ 0 = ap bit (false_from_ne_true (is_idle s pool (made_at s pool))
        (λ idle. let low : made_at s pool < made_at s pool = staffed.idle pool (made_at s pool) (omega arith) idle in omega arith)) in
        omega arith);
    alone = λ v is. (let low : made_at s pool < made_at s pool = (staffed.runs v pool (made_at s pool) is).0 in omega arith);
  }
  free-made pool false more same = (let e : (made_at s pool == made_at s pool) ≡ true = eq-eqb (made_at s pool) (made_at s pool) refl in cc)

  free-new : (pool worker : ℕ) (b c : Bool) → nat_lt (made_at s pool) S.workers ≡ c → cond (b && c) (Some (made_at s pool)) None ≡ Some worker
      → Free S s pool worker (cond (worker == made_at s pool) (worker + 1) (made_at s pool))
  free-new pool worker true true less is =
      let same : made_at s pool ≡ worker = cc in
      subst (λ (k : ℕ). Free S s pool k (cond (k == made_at s pool) (k + 1) (made_at s pool))) same
      (free-made pool (made_at s pool == made_at s pool) (ltb-true (made_at s pool) S.workers less) refl)
  free-new pool worker true false less is = cc
  free-new pool worker false c less is = cc

  free-either : (pool worker : ℕ) (o : Option ℕ) → last_idle S s pool ≡ o → or_else o (new_worker S s pool) ≡ Some worker
      → Free S s pool worker (cond (worker == made_at s pool) (worker + 1) (made_at s pool))
  free-either pool worker (Some k) found is =
      let same : k ≡ worker = cc in
      let first = some-first (by_greatest (λ j. idle_stamp (idle_at s pool j))) (is_idle s pool) S.workers (last_idle S s pool)
      (first_below-is_first (by_greatest (λ j. idle_stamp (idle_at s pool j))) (is_idle s pool) S.workers (by_greatest-order (λ j. idle_stamp (idle_at s pool j)))) k found in
      subst (λ (j : ℕ). Free S s pool j (cond (j == made_at s pool) (j + 1) (made_at s pool))) same
      (free-idle pool k (k == made_at s pool) first.0 first.1 refl)
  free-either pool worker None found is = free-new pool worker (not s.pressed) (nat_lt (made_at s pool) S.workers) refl is

  pub free-worker : (pool worker : ℕ) → free_worker S s pool ≡ Some worker
      → Free S s pool worker (cond (worker == made_at s pool) (worker + 1) (made_at s pool))
  free-worker pool worker is = free-either pool worker (last_idle S s pool) refl is

not-rescuer : (worker : ℕ) → worker < MAX_WORKERS → is_rescuer worker ≡ false
not-rescuer worker small = ne_eqb worker RESCUER (λ same. omega arith)

-- who has no post, has no post in any pool
no-post : (q : ℕ) (o : Option Post) → o ≡ None → bit (is_in q o) ≡ 0
no-post q o is = ap (λ (p : Option Post). bit (is_in q p)) is

-- A work starts on a free worker.
module _ (S : ScenarioContents) (s : State) (few : S.workers ≤ MAX_WORKERS) (staffed : IsStaffed S s) (pool w worker made : ℕ) (r : Running)
    (in_pool : r.pool ≡ pool) (on : r.worker ≡ worker) (in_range : pool < pool_count S) (declared : w < length S.works) (still : post_at s w ≡ None)
    (free : Free S s pool worker made) (t : State) (running : t.running ≡ slice_set s.running w (Some r))
    (idle : t.idle ≡ slice_set s.idle (seat pool worker) None) (wrote : t.made ≡ slice_set s.made pool made) where
  starts-small : worker < MAX_WORKERS
  starts-small = omega (arith, free.there)

  starts-here : post_at t w ≡ post_of pool worker
  starts-here =
      post-here S s t w (Some r) running (omega (arith, staffed.long))
      ∙ cond-false (is_rescuer r.worker) None (post_of r.pool r.worker) (ap is_rescuer on ∙ not-rescuer worker starts-small)
      ∙ ap (λ (k : ℕ). post_of k r.worker) in_pool ∙ ap (post_of pool) on

  starts-made : (q : ℕ) → (q ≡ pool → ⊥) → made_at t q ≡ made_at s q
  starts-made q apart = ap (λ (made : List ℕ). slice_index_or made q 0) wrote ∙ get_or-set_other s.made pool q made 0 apart

  starts-made_here : made_at t pool ≡ made
  starts-made_here = ap (λ (made : List ℕ). slice_index_or made pool 0) wrote ∙ get_or-set_same s.made pool made 0 (omega (arith, staffed.pools))

  starts-grows : (q : ℕ) → made_at s q ≤ made_at t q
  starts-grows q =
      elim (cases_eq q pool) [
        | inl same ↦ subst (λ (k : ℕ). made_at s k ≤ made_at t k) (sym same) (omega (arith, starts-made_here, free.grows))
        | inr apart ↦ (let same : made_at t q ≡ made_at s q = starts-made q apart in omega arith)
      ]

  starts-within : seat pool worker < length s.idle
  starts-within = (let within : seat pool worker < MAX_WORKERS * pool_count S = seat-within pool worker (pool_count S) starts-small in_range in omega (arith, staffed.seats))

  starts-rests : (q k : ℕ) → k < MAX_WORKERS → is_idle s q k ≡ false → is_idle t q k ≡ false
  starts-rests q k less was =
      elim (cases_eq q pool) [
        | inl same ↦ elim (cases_eq k worker) [
          | inl is ↦ ap (is_idle t q) is ∙ ap (λ (j : ℕ). is_idle t j worker) same ∙ seat-here s t pool worker None starts-small idle starts-within
          | inr apart ↦ seat-other s t pool worker None starts-small idle q k less (λ in_it is. apart is) ∙ was
        ]
        | inr apart ↦ seat-other s t pool worker None starts-small idle q k less (λ in_it is. apart in_it) ∙ was
      ]

  starts-idle : (q k : ℕ) → k < MAX_WORKERS → is_idle t q k ≡ true → is_idle s q k ≡ true
  starts-idle q k less is = true_from_ne_false (is_idle s q k) (λ was. let rests : is_idle t q k ≡ false = starts-rests q k less was in cc)

  starts-was : (v q k : ℕ) → post_at t v ≡ post_of q k → (v ≡ w → ⊥) → post_at s v ≡ post_of q k
  starts-was v q k is apart = sym (post-other S s t w (Some r) running v apart) ∙ is

  starts-is : (v q k : ℕ) → v ≡ w → post_at t v ≡ post_of q k → (pool ≡ q) × (worker ≡ k)
  starts-is v q k same is =
      let e : post_of pool worker ≡ post_of q k = sym starts-here ∙ (ap (post_at t) (sym same) ∙ is) in
      (ap (post-pool pool) e, ap (post-worker worker) e)

  starts-alone : (v q k : ℕ) → v ≡ w → (x : ℕ) → (x ≡ w → ⊥) → post_at t v ≡ post_of q k → post_at t x ≡ post_of q k → ⊥
  starts-alone v q k same x apart one other =
      let here = starts-is v q k same one in
      free.alone x (starts-was x q k other apart ∙ ap (λ (j : ℕ). post_of j k) (sym here.0) ∙ ap (post_of pool) (sym here.1))

  starts-counts : (q : ℕ) → run_count S t q + idle_count S t q ≡ made_at t q
  starts-counts q =
      let runs : run_count S t q + bit (is_in q (post_at s w)) ≡ run_count S s q + bit (is_in q (post (Some r))) =
      run-counts S s t w (Some r) running q declared (omega (arith, staffed.long)) in
      let before : bit (is_in q (post_at s w)) ≡ 0 = no-post q (post_at s w) still in
      let after : post (Some r) ≡ post_of pool worker =
      sym (post-here S s t w (Some r) running (omega (arith, staffed.long))) ∙ starts-here in
      let now : bit (is_in q (post (Some r))) ≡ bit (pool == q) = ap (λ (p : Option Post). bit (is_in q p)) after in
      elim (cases_eq q pool) [
        | inl same ↦ subst (λ (k : ℕ). run_count S t k + idle_count S t k ≡ made_at t k) (sym same)
            (starts-balance (subst (λ (k : ℕ). run_count S t k ≡ run_count S s k + 1) same
            (let one : bit (pool == q) ≡ 1 = ap bit (eq-eqb pool q (sym same)) in omega arith)))
        | inr apart ↦ (let none : bit (pool == q) ≡ 0 = ap bit (ne_eqb pool q (λ is. apart (sym is))) in
            let rests : idle_count S t q ≡ idle_count S s q = idle-elsewhere s t pool worker None starts-small idle S q few apart in
            let kept : made_at t q ≡ made_at s q = starts-made q apart in
            let was : run_count S s q + idle_count S s q ≡ made_at s q = staffed.count q in
            omega arith)
      ]
    where
      starts-balance : run_count S t pool ≡ run_count S s pool + 1 → run_count S t pool + idle_count S t pool ≡ made_at t pool
      starts-balance more =
          let rests : idle_count S t pool + bit (is_idle s pool worker) ≡ idle_count S s pool + 0 =
          idle-counts s t pool worker None starts-small idle S few free.there starts-within in
          let was : run_count S s pool + idle_count S s pool ≡ made_at s pool = staffed.count pool in
          let is : made_at t pool ≡ made = starts-made_here in
          let whole : made + bit (is_idle s pool worker) ≡ made_at s pool + 1 = free.sum in
          omega arith

  pub starts-staffed : IsStaffed S t
  starts-staffed = record {
    long = ap length running ∙ length-set s.running w (Some r) ∙ staffed.long;
    seats = ap length idle ∙ length-set s.idle (seat pool worker) None ∙ staffed.seats;
    pools = ap length wrote ∙ length-set s.made pool made ∙ staffed.pools;
    most = λ q. elim (cases_eq q pool) [
      | inl same ↦ subst (λ (k : ℕ). made_at t k ≤ S.workers) (sym same) (omega (arith, starts-made_here, free.most))
      | inr apart ↦ subst (λ (n : ℕ). n ≤ S.workers) (sym (starts-made q apart)) (staffed.most q)
    ];
    idle = λ q k less is. (let low : k < made_at s q = staffed.idle q k less (starts-idle q k less is) in omega (arith, starts-grows q));
    runs = λ v q k is. elim (cases_eq v w) [
      | inl same ↦ (let here = starts-is v q k same is in
          subst (λ (j : ℕ). (k < made_at t j) × (is_idle t j k ≡ false)) here.0
          (subst (λ (j : ℕ). (j < made_at t pool) × (is_idle t pool j ≡ false)) here.1
          (omega (arith, starts-made_here, free.low), seat-here s t pool worker None starts-small idle starts-within)))
      | inr apart ↦ (let was = staffed.runs v q k (starts-was v q k is apart) in
          let most : made_at s q ≤ S.workers = staffed.most q in
          (omega (arith, was.0, starts-grows q), starts-rests q k (omega (arith, was.0)) was.1))
    ];
    apart = λ v x q k one other. elim (cases_eq v w) [
      | inl v_is ↦ elim (cases_eq x w) [
        | inl x_is ↦ v_is ∙ sym x_is
        | inr x_apart ↦ absurd (starts-alone v q k v_is x x_apart one other)
      ]
      | inr v_apart ↦ elim (cases_eq x w) [
        | inl x_is ↦ absurd (starts-alone x q k x_is v v_apart other one)
        | inr x_apart ↦ staffed.apart v x q k (starts-was v q k one v_apart) (starts-was x q k other x_apart)
      ]
    ];
    count = starts-counts;
  }

-- A worker ends its work and becomes idle.
module _ (S : ScenarioContents) (s : State) (few : S.workers ≤ MAX_WORKERS) (staffed : IsStaffed S s) (w pool worker stamp : ℕ)
    (declared : w < length S.works) (works : post_at s w ≡ post_of pool worker) (t : State) (running : t.running ≡ slice_set s.running w None)
    (idle : t.idle ≡ slice_set s.idle (seat pool worker) (Some stamp)) (same_made : t.made ≡ s.made) where
  ends-made : (q : ℕ) → made_at t q ≡ made_at s q
  ends-made q = ap (λ (made : List ℕ). slice_index_or made q 0) same_made

  ends-there : worker < S.workers
  ends-there = (let low : worker < made_at s pool = (staffed.runs w pool worker works).0 in omega (arith, staffed.most pool))

  ends-small : worker < MAX_WORKERS
  ends-small = omega (arith, ends-there)

  ends-in_range : pool < pool_count S
  ends-in_range =
      elim (cases_lt pool (pool_count S)) [
        | inl there ↦ there
        | inr past ↦ (let none : made_at s pool ≡ 0 = get_or_past s.made pool 0 (omega (arith, staffed.pools)) in
            let low : worker < made_at s pool = (staffed.runs w pool worker works).0 in
            absurd (omega arith))
      ]

  ends-within : seat pool worker < length s.idle
  ends-within = (let within : seat pool worker < MAX_WORKERS * pool_count S = seat-within pool worker (pool_count S) ends-small ends-in_range in omega (arith, staffed.seats))

  ends-was : (v q k : ℕ) → post_at t v ≡ post_of q k → (post_at s v ≡ post_of q k) × (v ≡ w → ⊥)
  ends-was v q k is =
      elim (cases_eq v w) [
        | inl same ↦ (let none : post_at t v ≡ None = ap (post_at t) same ∙ post-here S s t w None running (omega (arith, staffed.long)) in
            let some : post_of q k ≡ None = sym is ∙ none in absurd cc)
        | inr apart ↦ (sym (post-other S s t w None running v apart) ∙ is, apart)
      ]

  ends-counts : (q : ℕ) → run_count S t q + idle_count S t q ≡ made_at t q
  ends-counts q =
      let runs : run_count S t q + bit (is_in q (post_at s w)) ≡ run_count S s q + 0 =
      run-counts S s t w None running q declared (omega (arith, staffed.long)) in
      let before : bit (is_in q (post_at s w)) ≡ bit (pool == q) = ap (λ (p : Option Post). bit (is_in q p)) works in
      let kept : made_at t q ≡ made_at s q = ends-made q in
      let was : run_count S s q + idle_count S s q ≡ made_at s q = staffed.count q in
      elim (cases_eq q pool) [
        | inl same ↦ (let one : bit (pool == q) ≡ 1 = ap bit (eq-eqb pool q (sym same)) in
            let rests : idle_count S t q ≡ idle_count S s q + 1 = subst (λ (k : ℕ). idle_count S t k ≡ idle_count S s k + 1) (sym same) ends-idle in
            omega arith)
        | inr apart ↦ (let none : bit (pool == q) ≡ 0 = ap bit (ne_eqb pool q (λ is. apart (sym is))) in
            let rests : idle_count S t q ≡ idle_count S s q = idle-elsewhere s t pool worker (Some stamp) ends-small idle S q few apart in
            omega arith)
      ]
    where
      ends-idle : idle_count S t pool ≡ idle_count S s pool + 1
      ends-idle =
          let rests : idle_count S t pool + bit (is_idle s pool worker) ≡ idle_count S s pool + 1 =
          idle-counts s t pool worker (Some stamp) ends-small idle S few ends-there ends-within in
          let none : bit (is_idle s pool worker) ≡ 0 = ap bit (staffed.runs w pool worker works).1 in
          omega arith

  pub ends-staffed : IsStaffed S t
  ends-staffed = record {
    long = ap length running ∙ length-set s.running w None ∙ staffed.long;
    seats = ap length idle ∙ length-set s.idle (seat pool worker) (Some stamp) ∙ staffed.seats;
    pools = ap length same_made ∙ staffed.pools;
    most = λ q. subst (λ (n : ℕ). n ≤ S.workers) (sym (ends-made q)) (staffed.most q);
    idle = λ q k less is. elim (cases_eq q pool) [
      | inl same ↦ elim (cases_eq k worker) [
        | inl on ↦ (let low : worker < made_at s pool = (staffed.runs w pool worker works).0 in
            subst (λ (j : ℕ). k < made_at t j) (sym same) (omega (arith, ends-made pool)))
        | inr off ↦ ends-idle_else q k less (λ in_it on. off on) is
      ]
      | inr apart ↦ ends-idle_else q k less (λ in_it on. apart in_it) is
    ];
    runs = λ v q k is. (let was = ends-was v q k is in
        let still = staffed.runs v q k was.0 in
        let most : made_at s q ≤ S.workers = staffed.most q in (
          omega (arith, still.0, ends-made q),
          seat-other s t pool worker (Some stamp) ends-small idle q k (omega (arith, still.0))
              (λ in_it on. was.1 (staffed.apart v w pool worker (was.0 ∙ ap (λ (j : ℕ). post_of j k) in_it ∙ ap (post_of pool) on) works)) ∙ still.1,
        ));
    apart = λ v x q k one other. staffed.apart v x q k (ends-was v q k one).0 (ends-was x q k other).0;
    count = ends-counts;
  }
    where
      ends-idle_else : (q k : ℕ) → k < MAX_WORKERS → (q ≡ pool → k ≡ worker → ⊥) → is_idle t q k ≡ true → k < made_at t q
      ends-idle_else q k less apart is =
          let low : k < made_at s q = staffed.idle q k less (sym (seat-other s t pool worker (Some stamp) ends-small idle q k less apart) ∙ is) in
          omega (arith, ends-made q)
