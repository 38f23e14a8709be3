-- What changes leave of who runs on which worker.
use Rattle.std.proofs.Common.{◌≡◌, ◌≢◌, ◌⊎◌, ℕ, ◌+◌, ◌*◌, ◌<◌, ◌≤◌, Bool, true, false, cond, ◌==◌, List, length, get_or, set, Option, Some, None, arith, refl, sym, ap, subst, ◌∙◌, inl, inr}
use Rattle.std.specs.Prelude.{if◌then◌else◌, is_some}
use Rattle.std.proofs.lemmas.Bool.{cases_eq, cases_lt}
use Rattle.std.proofs.lemmas.Bool.Decides.{nat_tests}
use Rattle.std.proofs.lemmas.Option.{same_Some}
use Rattle.std.proofs.lemmas.List.{get_or-set_same, get_or-set_other, get_or_past, set_past}
use Rattle.cmwq_types.specs.declared.limits.TheConstants.{MAX_WORKERS}
use Rattle.cmwq_table.specs.Counts.{is_rescuer}
use Rattle.cmwq_table.specs.State.{seat}
use Rattle.cmwq_table.specs.declared.state.Running.{Running}
use Rattle.cmwq_idle.specs.Idle.{made_in, stamp_at}
use Rattle.cmwq_core.specs.Staff.{AreStaffed, RunsOnWorker, runs_at}

-- what is read of a list in which one place was written: what was written, or what was there
pub set_read : {A : Type 0} (xs : List (Option A)) (i j : ℕ) (o : Option A) → ((j ≡ i) × (get_or (set xs i o) j None ≡ o)) ⊎ (get_or (set xs i o) j None ≡ get_or xs j None)
set_read {A = A} xs i j o = by_place (cases_eq j i) (cases_lt i (length xs))
  where
    by_place : (j ≡ i) ⊎ (j ≢ i) → (i < length xs) ⊎ (length xs ≤ i) → ((j ≡ i) × (get_or (set xs i o) j None ≡ o)) ⊎ (get_or (set xs i o) j None ≡ get_or xs j None)
    by_place (inr differs) range = inr (get_or-set_other xs i j o None differs)
    by_place (inl is) (inl inside) = inl (is, ap (λ (k : ℕ). get_or (set xs i o) k None) is ∙ get_or-set_same xs i o None inside)
    by_place (inl is) (inr past) = inr (ap (λ (ys : List (Option A)). get_or ys j None) (set_past xs i o past))

-- the work ran before, on the same worker of the same pool
pub record RanSo (running : List (Option Running)) (w : ℕ) (r : Running) : Type 0 where
  pub before : Running
  pub runs : RunsOnWorker running w before
  pub pool : before.pool ≡ r.pool
  pub worker : before.worker ≡ r.worker

-- who runs on a worker ran on it before
pub staffed_from : (pools workers : ℕ) (running after : List (Option Running)) (idle : List (Option ℕ)) (made : List ℕ) → AreStaffed pools workers running idle made → ((w : ℕ) (r : Running) → RunsOnWorker after w r → RanSo running w r)
    → AreStaffed pools workers after idle made
staffed_from pools workers running after idle made staffed stems = record {
  few = λ w r on. (let was = stems w r on in subst (λ (n : ℕ). n < workers) was.worker (staffed.few w was.before was.runs));
  working = λ w r on. (let was = stems w r on in ap (stamp_at idle) (sym (same_seat w r was)) ∙ staffed.working w was.before was.runs);
  alone = λ v w q r on other pools_are workers_are there. (let was = stems v q on in let too = stems w r other in
      staffed.alone v w was.before too.before was.runs too.runs (was.pool ∙ pools_are ∙ sym too.pool) (was.worker ∙ workers_are ∙ sym too.worker) (subst (λ (n : ℕ). n < pools) (sym too.pool) there));
  hired = λ w r on there. (let was = stems w r on in
      let low = staffed.hired w was.before was.runs (subst (λ (n : ℕ). n < pools) (sym was.pool) there) in
      let at = ap (made_in made) was.pool in
      omega (arith, low, at, was.worker));
  idle_hired = staffed.idle_hired;
}
  where
    same_seat : (w : ℕ) (r : Running) → (was : RanSo running w r) → seat was.before.pool was.before.worker ≡ seat r.pool r.worker
    same_seat w r was = ap (λ (pool : ℕ). seat pool was.before.worker) was.pool ∙ ap (seat r.pool) was.worker

-- one work runs otherwise: on the worker on which it ran, or on its queue's rescuer, or not at all
pub data RunsOn (running : List (Option Running)) (w : ℕ) (o : Option Running) : Type 0 where
  ended : o ≡ None → RunsOn running w o
  saved : (r : Running) → o ≡ Some r → is_rescuer r.worker ≡ true → RunsOn running w o
  stays : (was r : Running) → runs_at running w ≡ Some was → o ≡ Some r → was.pool ≡ r.pool → was.worker ≡ r.worker → RunsOn running w o

pub staffed_set : (pools workers : ℕ) (running : List (Option Running)) (idle : List (Option ℕ)) (made : List ℕ) (w : ℕ) (o : Option Running) → AreStaffed pools workers running idle made → RunsOn running w o → AreStaffed pools workers (set running w o) idle made
staffed_set pools workers running idle made w o staffed how = staffed_from pools workers running (set running w o) idle made staffed stems
  where
    by_read : (v : ℕ) (q : Running) → RunsOnWorker (set running w o) v q → ((v ≡ w) × (runs_at (set running w o) v ≡ o)) ⊎ (runs_at (set running w o) v ≡ runs_at running v) → RunsOn running w o → RanSo running v q
    by_read v q on (inr kept) how = record { before = q; runs = record { runs = sym kept ∙ on.runs; employed = on.employed }; pool = refl; worker = refl }
    by_read v q on (inl here) (ended none) = absurd (let e = sym on.runs ∙ here.1 ∙ none in cc)
    by_read v q on (inl here) (saved r is it) = absurd (let e = same_Some q r (sym on.runs ∙ here.1 ∙ is) in let no = on.employed in let yes = ap (λ (r : Running). is_rescuer r.worker) e ∙ it in cc)
    by_read v q on (inl here) (stays was r runs is pools_are workers_are) =
        let e = same_Some q r (sym on.runs ∙ here.1 ∙ is) in
        record {
          before = was;
          runs = record { runs = ap (runs_at running) here.0 ∙ runs; employed = ap is_rescuer (workers_are ∙ sym (ap (λ (r : Running). r.worker) e)) ∙ on.employed };
          pool = pools_are ∙ sym (ap (λ (r : Running). r.pool) e);
          worker = workers_are ∙ sym (ap (λ (r : Running). r.worker) e);
        }

    stems : (v : ℕ) (q : Running) → RunsOnWorker (set running w o) v q → RanSo running v q
    stems v q on = by_read v q on (set_read running w v o) how

-- two seats are one only where the pools and the workers are
pub one_seat : (pool other v w : ℕ) → v < MAX_WORKERS → w < MAX_WORKERS → seat pool v ≡ seat other w → (pool ≡ other) × (v ≡ w)
one_seat pool other v w small short e = (omega (arith, small, short, e), omega (arith, small, short, e))

-- the worker that is free: an idle one, or the next to be made
pub data IsFree (idle : List (Option ℕ)) (made : List ℕ) (pool worker : ℕ) : Type 0 where
  waits : is_some (stamp_at idle (seat pool worker)) ≡ true → IsFree idle made pool worker
  new : worker ≡ made_in made pool → IsFree idle made pool worker

abbrev pub made_after : List ℕ → ℕ → ℕ → ℕ
made_after made pool worker = if worker == made_in made pool then worker + 1 else made_in made pool

-- a work starts on a free worker
pub staffed_start : (pools workers : ℕ) (running : List (Option Running)) (idle : List (Option ℕ)) (made : List ℕ) (w : ℕ) (r : Running) → AreStaffed pools workers running idle made → length made ≡ pools → runs_at running w ≡ None → r.worker < workers
    → IsFree idle made r.pool r.worker → AreStaffed pools workers (set running w (Some r)) (set idle (seat r.pool r.worker) None) (set made r.pool (made_after made r.pool r.worker))
staffed_start pools workers running idle made w r staffed long still small free = record {
  few = λ v q on. few_of v q on (cases v q on);
  working = λ v q on. working_of v q (cases v q on) (set_read idle (seat r.pool r.worker) (seat q.pool q.worker) None);
  alone = λ v u q p on other pools_are workers_are there. alone_of v u q p (cases v q on) (cases u p other) pools_are workers_are there;
  hired = λ v q on there. hired_of v q (cases v q on) there;
  idle_hired = λ pool worker h is. idle_hired_of pool worker h is (set_read idle (seat r.pool r.worker) (seat pool worker) None);
}
  where
    after : List (Option Running)
    after = set running w (Some r)

    cases : (v : ℕ) (q : Running) → RunsOnWorker after v q → ((v ≡ w) × (q ≡ r)) ⊎ ((v ≢ w) × RunsOnWorker running v q)
    cases v q on = by_read (set_read running w v (Some r)) (cases_eq v w)
      where
        by_read : ((v ≡ w) × (runs_at after v ≡ Some r)) ⊎ (runs_at after v ≡ runs_at running v) → (v ≡ w) ⊎ (v ≢ w) → ((v ≡ w) × (q ≡ r)) ⊎ ((v ≢ w) × RunsOnWorker running v q)
        by_read (inl here) which = inl (here.0, same_Some q r (sym on.runs ∙ here.1))
        by_read (inr kept) (inr differs) = inr (differs, record { runs = sym kept ∙ on.runs; employed = on.employed })
        by_read (inr kept) (inl is) = absurd (let e = sym on.runs ∙ kept ∙ ap (runs_at running) is ∙ still in cc)

    few_of : (v : ℕ) (q : Running) → RunsOnWorker after v q → ((v ≡ w) × (q ≡ r)) ⊎ ((v ≢ w) × RunsOnWorker running v q) → q.worker < workers
    few_of v q on (inl here) = subst (λ (q : Running). q.worker < workers) (sym here.1) small
    few_of v q on (inr other) = staffed.few v q other.1

    working_of : (v : ℕ) (q : Running) → ((v ≡ w) × (q ≡ r)) ⊎ ((v ≢ w) × RunsOnWorker running v q) → ((seat q.pool q.worker ≡ seat r.pool r.worker) × (stamp_at (set idle (seat r.pool r.worker) None) (seat q.pool q.worker) ≡ None)) ⊎ (stamp_at (set idle (seat r.pool r.worker) None) (seat q.pool q.worker) ≡ stamp_at idle (seat q.pool q.worker))
        → stamp_at (set idle (seat r.pool r.worker) None) (seat q.pool q.worker) ≡ None
    working_of v q which (inl here) = here.1
    working_of v q (inr other) (inr kept) = kept ∙ staffed.working v q other.1
    working_of v q (inl here) (inr kept) = subst (λ (q : Running). stamp_at (set idle (seat r.pool r.worker) None) (seat q.pool q.worker) ≡ None) (sym here.1) (emptied (cases_lt (seat r.pool r.worker) (length idle)))
      where
        emptied : (seat r.pool r.worker < length idle) ⊎ (length idle ≤ seat r.pool r.worker) → stamp_at (set idle (seat r.pool r.worker) None) (seat r.pool r.worker) ≡ None
        emptied (inl inside) = get_or-set_same idle (seat r.pool r.worker) None None inside
        emptied (inr past) = ap (λ (seats : List (Option ℕ)). stamp_at seats (seat r.pool r.worker)) (set_past idle (seat r.pool r.worker) None past) ∙ get_or_past idle (seat r.pool r.worker) None past

    -- nobody runs on the free worker
    nobody : (v : ℕ) (q : Running) → RunsOnWorker running v q → q.pool ≡ r.pool → q.worker ≡ r.worker → r.pool < pools → IsFree idle made r.pool r.worker → false ≡ true
    nobody v q on pool worker there (waits is) = (let none = staffed.working v q on in let at = ap (λ (p : ℕ). seat p q.worker) pool ∙ ap (seat r.pool) worker in sym (ap is_some (ap (stamp_at idle) (sym at) ∙ none)) ∙ is)
    nobody v q on pool worker there (new is) = absurd (let low = staffed.hired v q on (subst (λ (n : ℕ). n < pools) (sym pool) there) in let at = ap (made_in made) pool in omega (arith, low, at, worker, is))

    alone_of : (v u : ℕ) (q p : Running) → ((v ≡ w) × (q ≡ r)) ⊎ ((v ≢ w) × RunsOnWorker running v q) → ((u ≡ w) × (p ≡ r)) ⊎ ((u ≢ w) × RunsOnWorker running u p) → q.pool ≡ p.pool → q.worker ≡ p.worker → p.pool < pools → v ≡ u
    alone_of v u q p (inl here) (inl too) pool worker there = here.0 ∙ sym too.0
    alone_of v u q p (inr other) (inr too) pool worker there = staffed.alone v u q p other.1 too.1 pool worker there
    alone_of v u q p (inl here) (inr too) pool worker there = absurd (let at = ap (λ (r : Running). r.pool) here.1 in let on = ap (λ (r : Running). r.worker) here.1 in
        let no = nobody u p too.1 (sym pool ∙ at) (sym worker ∙ on) (subst (λ (n : ℕ). n < pools) (sym pool ∙ at) there) free in cc)
    alone_of v u q p (inr other) (inl too) pool worker there = absurd (let at = ap (λ (r : Running). r.pool) too.1 in let on = ap (λ (r : Running). r.worker) too.1 in
        let no = nobody v q other.1 (pool ∙ at) (worker ∙ on) (subst (λ (n : ℕ). n < pools) at there) free in cc)

    -- each pool has made as many workers as before, or one more
    more : (pool : ℕ) → made_in made pool ≤ made_in (set made r.pool (made_after made r.pool r.worker)) pool
    more pool = by_pool (cases_eq pool r.pool) (cases_lt r.pool (length made))
      where
        by_count : (b : Bool) → (r.worker == made_in made r.pool) ≡ b → made_in made r.pool ≤ cond b (r.worker + 1) (made_in made r.pool)
        by_count true is = grind (arith, nat_tests)
        by_count false is = omega arith

        by_pool : (pool ≡ r.pool) ⊎ (pool ≢ r.pool) → (r.pool < length made) ⊎ (length made ≤ r.pool) → made_in made pool ≤ made_in (set made r.pool (made_after made r.pool r.worker)) pool
        by_pool (inr differs) range = (let e = get_or-set_other made r.pool pool (made_after made r.pool r.worker) 0 differs in omega (arith, e))
        by_pool which (inr past) = (let e = ap (λ (ns : List ℕ). made_in ns pool) (set_past made r.pool (made_after made r.pool r.worker) past) in omega (arith, e))
        by_pool (inl is) (inl inside) = subst (λ (k : ℕ). made_in made k ≤ made_in (set made r.pool (made_after made r.pool r.worker)) k) (sym is)
            (subst (λ (n : ℕ). made_in made r.pool ≤ n) (sym (get_or-set_same made r.pool (made_after made r.pool r.worker) 0 inside)) (by_count (r.worker == made_in made r.pool) refl))

    here_hired : r.pool < pools → IsFree idle made r.pool r.worker → r.worker < made_in (set made r.pool (made_after made r.pool r.worker)) r.pool
    here_hired there how = subst (λ (n : ℕ). r.worker < n) (sym (get_or-set_same made r.pool (made_after made r.pool r.worker) 0 (subst (λ (n : ℕ). r.pool < n) (sym long) there))) (by_count (r.worker == made_in made r.pool) refl how)
      where
        by_count : (b : Bool) → (r.worker == made_in made r.pool) ≡ b → IsFree idle made r.pool r.worker → r.worker < cond b (r.worker + 1) (made_in made r.pool)
        by_count true is how = omega arith
        by_count false is (waits idle_is) = staffed.idle_hired r.pool r.worker small idle_is
        by_count false is (new made_is) = absurd (let no = made_is in grind (arith, nat_tests))

    hired_of : (v : ℕ) (q : Running) → ((v ≡ w) × (q ≡ r)) ⊎ ((v ≢ w) × RunsOnWorker running v q) → q.pool < pools → q.worker < made_in (set made r.pool (made_after made r.pool r.worker)) q.pool
    hired_of v q (inl here) there = subst (λ (q : Running). q.worker < made_in (set made r.pool (made_after made r.pool r.worker)) q.pool) (sym here.1) (here_hired (subst (λ (q : Running). q.pool < pools) here.1 there) free)
    hired_of v q (inr other) there = (let low = staffed.hired v q other.1 there in let rise = more q.pool in omega (arith, low, rise))

    idle_hired_of : (pool worker : ℕ) → worker < workers → is_some (stamp_at (set idle (seat r.pool r.worker) None) (seat pool worker)) ≡ true
        → ((seat pool worker ≡ seat r.pool r.worker) × (stamp_at (set idle (seat r.pool r.worker) None) (seat pool worker) ≡ None)) ⊎ (stamp_at (set idle (seat r.pool r.worker) None) (seat pool worker) ≡ stamp_at idle (seat pool worker))
        → worker < made_in (set made r.pool (made_after made r.pool r.worker)) pool
    idle_hired_of pool worker h is (inl here) = absurd (let no = sym (ap is_some here.1) ∙ is in cc)
    idle_hired_of pool worker h is (inr kept) = (let low = staffed.idle_hired pool worker h (sym (ap is_some kept) ∙ is) in let rise = more pool in omega (arith, low, rise))

-- a work that ran on a worker ends, and the worker is idle
pub staffed_retire : (pools workers : ℕ) (running : List (Option Running)) (idle : List (Option ℕ)) (made : List ℕ) (w stamp : ℕ) (r : Running) → AreStaffed pools workers running idle made → length idle ≡ MAX_WORKERS * pools → workers ≤ MAX_WORKERS
    → RunsOnWorker running w r → AreStaffed pools workers (set running w None) (set idle (seat r.pool r.worker) (Some stamp)) made
staffed_retire pools workers running idle made w stamp r staffed long most on = record {
  few = λ v q other. staffed.few v q (before v q other).1;
  working = λ v q other. working_of v q (before v q other) (set_read idle (seat r.pool r.worker) (seat q.pool q.worker) (Some stamp)) (cases_lt r.pool pools);
  alone = λ v u q p other too. staffed.alone v u q p (before v q other).1 (before u p too).1;
  hired = λ v q other. staffed.hired v q (before v q other).1;
  idle_hired = λ pool worker h is. idle_hired_of pool worker h is (set_read idle (seat r.pool r.worker) (seat pool worker) (Some stamp)) (cases_lt r.pool pools);
}
  where
    before : (v : ℕ) (q : Running) → RunsOnWorker (set running w None) v q → (v ≢ w) × RunsOnWorker running v q
    before v q other = by_read (set_read running w v None) (cases_eq v w)
      where
        in_range : (w < length running) ⊎ (length running ≤ w) → w < length running
        in_range (inl inside) = inside
        in_range (inr past) = absurd (let none = sym on.runs ∙ get_or_past running w None past in cc)

        by_read : ((v ≡ w) × (runs_at (set running w None) v ≡ None)) ⊎ (runs_at (set running w None) v ≡ runs_at running v) → (v ≡ w) ⊎ (v ≢ w) → (v ≢ w) × RunsOnWorker running v q
        by_read (inl here) which = absurd (let none = sym other.runs ∙ here.1 in cc)
        by_read (inr kept) (inr differs) = (differs, record { runs = sym kept ∙ other.runs; employed = other.employed })
        by_read (inr kept) (inl is) = absurd (let none = sym other.runs ∙ ap (runs_at (set running w None)) is ∙ get_or-set_same running w None None (in_range (cases_lt w (length running))) in cc)

    past_all : pools ≤ r.pool → set idle (seat r.pool r.worker) (Some stamp) ≡ idle
    past_all past = set_past idle (seat r.pool r.worker) (Some stamp) (omega (arith, past, long))

    working_of : (v : ℕ) (q : Running) → (v ≢ w) × RunsOnWorker running v q → ((seat q.pool q.worker ≡ seat r.pool r.worker) × (stamp_at (set idle (seat r.pool r.worker) (Some stamp)) (seat q.pool q.worker) ≡ Some stamp)) ⊎ (stamp_at (set idle (seat r.pool r.worker) (Some stamp)) (seat q.pool q.worker) ≡ stamp_at idle (seat q.pool q.worker))
        → (r.pool < pools) ⊎ (pools ≤ r.pool) → stamp_at (set idle (seat r.pool r.worker) (Some stamp)) (seat q.pool q.worker) ≡ None
    working_of v q was (inr kept) range = kept ∙ staffed.working v q was.1
    working_of v q was (inl here) (inr past) = ap (λ (seats : List (Option ℕ)). stamp_at seats (seat q.pool q.worker)) (past_all past) ∙ staffed.working v q was.1
    working_of v q was (inl here) (inl there) =
        let short = staffed.few v q was.1 in
        let small = staffed.few w r on in
        let same = one_seat q.pool r.pool q.worker r.worker (omega (arith, short, most)) (omega (arith, small, most)) here.0 in
        absurd (was.0 (staffed.alone v w q r was.1 on same.0 same.1 there))

    idle_hired_of : (pool worker : ℕ) → worker < workers → is_some (stamp_at (set idle (seat r.pool r.worker) (Some stamp)) (seat pool worker)) ≡ true
        → ((seat pool worker ≡ seat r.pool r.worker) × (stamp_at (set idle (seat r.pool r.worker) (Some stamp)) (seat pool worker) ≡ Some stamp)) ⊎ (stamp_at (set idle (seat r.pool r.worker) (Some stamp)) (seat pool worker) ≡ stamp_at idle (seat pool worker))
        → (r.pool < pools) ⊎ (pools ≤ r.pool) → worker < made_in made pool
    idle_hired_of pool worker h is (inr kept) range = staffed.idle_hired pool worker h (sym (ap is_some kept) ∙ is)
    idle_hired_of pool worker h is (inl here) (inr past) = staffed.idle_hired pool worker h (sym (ap (λ (seats : List (Option ℕ)). is_some (stamp_at seats (seat pool worker))) (past_all past)) ∙ is)
    idle_hired_of pool worker h is (inl here) (inl there) =
        let small = staffed.few w r on in
        let same = one_seat pool r.pool worker r.worker (omega (arith, h, most)) (omega (arith, small, most)) here.0 in
        let low = staffed.hired w r on there in
        let at = ap (made_in made) same.0 in
        omega (arith, low, at, same.1)
