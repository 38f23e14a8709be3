-- A burn is paused and goes on, and nothing of it shows.
use Rattle.std.proofs.Common.{◌≡◌, ◌≢◌, ◌⊎◌, ℕ, ◌-◌, ◌<◌, Bool, true, false, ◌&&◌, ◌==◌, List, length, set, Option, Some, None, IfSome, arith, refl, sym, ap, subst, ◌∙◌, inl, inr}
use Rattle.std.specs.Prelude.{option_map}
use Rattle.std.proofs.Math.Seq.{map-set_same}
use Rattle.std.proofs.lemmas.Bool.{cases_eq, cases_lt}
use Rattle.std.proofs.lemmas.Bool.Decides.{nat_tests}
use Rattle.std.proofs.lemmas.List.{get_or_past}
use Rattle.cmwq_types.specs.Contents.{ScenarioContents}
use Rattle.cmwq_types.specs.Scenario.{is_high, is_unbound}
use Rattle.cmwq_table.specs.Counts.{is_some_work}
use Rattle.cmwq_phased.specs.PhasedContents.{HaveOwnStamps}
use Rattle.cmwq_phased.specs.Phases.{left_in, mode_in, shown, shown_all}
use Rattle.cmwq_phased.specs.Runs.{HasOwnStamp, first_in_line, is_awake, run_at, run_stamp}
use Rattle.cmwq_phased.specs.declared.run.Phase.{Phase}
use Rattle.cmwq_phased.specs.declared.run.Phase.TheVariants.{Ready, Held, Burning, Asleep, Slept}
use Rattle.cmwq_phased.specs.declared.run.Run.{Run}
use Rattle.cmwq_running.specs.Heads.{GoIn, HaveHeads, IsBeside, IsGoing, IsHeading, first_awake, in_phase, may_burn, paced, paced_run}
use Rattle.cmwq_running.proofs.AlikeLemmas.{first_of}
use Rattle.cmwq_running.proofs.HeadLemmas.{IsSwap, in_pool, is_work, swap_go, swap_have_heads}
use Rattle.cmwq_running.proofs.ShownLemmas.{first_in_line_bound}

-- Phases.

pub paced_left : (may : Bool) (time : ℕ) (phase : Phase) → left_in time (paced may time phase) ≡ left_in time phase
paced_left may time Ready = refl
paced_left true time (Held left) = omega arith
paced_left false time (Held left) = refl
paced_left true time (Burning end) = refl
paced_left false time (Burning end) = refl
paced_left may time (Asleep until) = refl
paced_left may time (Slept until) = refl

pub paced_mode : (may : Bool) (time : ℕ) (phase : Phase) → mode_in (paced may time phase) ≡ mode_in phase
paced_mode may time Ready = refl
paced_mode true time (Held left) = refl
paced_mode false time (Held left) = refl
paced_mode true time (Burning end) = refl
paced_mode false time (Burning end) = refl
paced_mode may time (Asleep until) = refl
paced_mode may time (Slept until) = refl

pub paced_awake : (may : Bool) (time : ℕ) (phase : Phase) → is_awake (paced may time phase) ≡ is_awake phase
paced_awake may time Ready = refl
paced_awake true time (Held left) = refl
paced_awake false time (Held left) = refl
paced_awake true time (Burning end) = refl
paced_awake false time (Burning end) = refl
paced_awake may time (Asleep until) = refl
paced_awake may time (Slept until) = refl

pub paced_goes : (may : Bool) (time : ℕ) (phase : Phase) → IsGoing may (paced may time phase)
paced_goes may time Ready = tt
paced_goes true time (Held left) = refl
paced_goes false time (Held left) = refl
paced_goes true time (Burning end) = refl
paced_goes false time (Burning end) = refl
paced_goes may time (Asleep until) = tt
paced_goes may time (Slept until) = tt

-- a head of a bound pool may have ticks left
pub head_may : (phase : Phase) → IsHeading false true phase
head_may Ready = tt
head_may (Held left) = (refl, refl)
head_may (Burning end) = refl
head_may (Asleep until) = tt
head_may (Slept until) = tt

-- who isn't the head of a bound pool has none left, so he goes as he may
pub behind_goes : (may : Bool) (phase : Phase) → IsHeading false false phase → IsGoing may phase
behind_goes may Ready heading = tt
behind_goes may (Held left) heading = absurd (let head = heading.1 in cc)
behind_goes may (Burning end) heading = absurd (cc)
behind_goes may (Asleep until) heading = tt
behind_goes may (Slept until) heading = tt

pub shown_paced : (may : Bool) (time : ℕ) (r : Option Run) → option_map (shown time) (paced_run may time r) ≡ option_map (shown time) r
shown_paced may time None = refl
shown_paced may time (Some r) =
    ap (λ (left : ℕ). Some (record (shown time (in_phase r (paced may time r.phase))) { left = left })) (paced_left may time r.phase)
    ∙ ap (λ (mode : _). Some (record (shown time r) { mode = mode })) (paced_mode may time r.phase)

pub all_shown_paced : (may : Bool) (time : ℕ) (rs : List (Option Run)) (w : ℕ) → shown_all time (set rs w (paced_run may time (run_at rs w))) ≡ shown_all time rs
all_shown_paced may time rs w = map-set_same (option_map (shown time)) rs w (paced_run may time (run_at rs w)) None (shown_paced may time (run_at rs w))

-- a run under the stamp that the work had has its own stamp
pub own_stamp : (rs : List (Option Run)) (w : ℕ) (q r : Run) → HaveOwnStamps rs → run_at rs w ≡ Some q → r.stamp ≡ q.stamp → HasOwnStamp rs w (Some r)
own_stamp rs w q r own at same v other = of_run (run_at rs v) refl
  where
    of_run : (o : Option Run) → run_at rs v ≡ o → IfSome o (λ a. a.stamp ≢ r.stamp)
    of_run None is = tt
    of_run (Some a) is = λ e. other (own v w a q is at (e ∙ same))

pub within_of : (rs : List (Option Run)) (w : ℕ) (q : Run) → run_at rs w ≡ Some q → w < length rs
within_of rs w q at = elim (cases_lt w (length rs)) [
  | inl within ↦ within
  | inr past ↦ absurd (let none = get_or_past rs w None past in let is : run_at rs w ≡ None = none in cc)
]

-- The head of a bound pool is paced.

module _ (S : ScenarioContents) (rs : List (Option Run)) (time high w : ℕ) (may : Bool)
    (bound : is_unbound S high ≡ false) (odd : is_high high ≡ true) (heads : HaveHeads S rs) (may_is : may ≡ may_burn S rs (high - 1)) (first : first_in_line S rs (high - 1) ≡ Some w) where
  normal_bound : is_unbound S (high - 1) ≡ false
  normal_bound = grind (arith, nat_tests)

  head : first_awake S rs (high - 1) ≡ Some w
  head = sym (first_in_line_bound S rs (high - 1) normal_bound) ∙ first

  abbrev changed : List (Option Run)
  changed = set rs w (paced_run may time (run_at rs w))

  -- the run of the head
  pub record TheHead : Type 0 where
    pub q : Run
    pub at : run_at rs w ≡ Some q
    pub pool : q.pool ≡ high - 1

  the_head : TheHead
  the_head = of_run (run_at rs w) refl (first_of (λ v. run_stamp (run_at rs v)) (λ v. in_pool (high - 1) (run_at rs v)) (length S.works) w head).passes
    where
      pool_of : (r : Run) → in_pool (high - 1) (Some r) ≡ true → r.pool ≡ high - 1
      pool_of r passes = by_test (r.pool == high - 1) refl passes
        where
          by_test : (b : Bool) → (r.pool == high - 1) ≡ b → (b && is_awake r.phase) ≡ true → r.pool ≡ high - 1
          by_test true same both = grind (arith, nat_tests)
          by_test false same both = absurd (cc)

      of_run : (o : Option Run) → run_at rs w ≡ o → in_pool (high - 1) o ≡ true → TheHead
      of_run None at passes = absurd (cc)
      of_run (Some q) at passes = record { q = q; at = at; pool = pool_of q passes }

  abbrev new_run : Run
  new_run = in_phase the_head.q (paced may time the_head.q.phase)

  changed_is : changed ≡ set rs w (Some new_run)
  changed_is = ap (λ (o : Option Run). set rs w (paced_run may time o)) the_head.at

  swap : IsSwap rs w the_head.q new_run
  swap = record {
    within = within_of rs w the_head.q the_head.at;
    was = the_head.at;
    stamp = refl;
    pool = refl;
    awake = paced_awake may time the_head.q.phase;
  }

  heading : IsHeading (is_unbound S the_head.q.pool) (is_some_work (first_awake S rs the_head.q.pool) w) (paced may time the_head.q.phase)
  heading =
      subst (λ (p : ℕ). IsHeading (is_unbound S p) (is_some_work (first_awake S rs p) w) (paced may time the_head.q.phase)) (sym the_head.pool)
      (subst (λ (b : Bool). IsHeading b (is_some_work (first_awake S rs (high - 1)) w) (paced may time the_head.q.phase)) (sym normal_bound)
      (subst (λ (o : Option ℕ). IsHeading false (is_some_work o w) (paced may time the_head.q.phase)) (sym head)
      (subst (λ (b : Bool). IsHeading false b (paced may time the_head.q.phase)) (sym (is_work w)) (head_may (paced may time the_head.q.phase)))))

  pub paced_heads : HaveHeads S changed
  paced_heads = subst (λ (xs : List (Option Run)). HaveHeads S xs) (sym changed_is) (swap_have_heads S rs w the_head.q new_run swap heads heading)

  not_head : (v : ℕ) → v ≢ w → is_some_work (Some w) v ≡ false
  not_head v other = grind (arith, nat_tests)

  -- behind the head nobody has ticks left
  others_normal : (v : ℕ) → v ≢ w → IfSome (run_at rs v) (λ a. a.pool ≡ high - 1 → IsGoing (may_burn S rs (high - 1)) a.phase)
  others_normal v other = of_run (run_at rs v) (heads v)
    where
      of_run : (o : Option Run) → IfSome o (λ a. IsHeading (is_unbound S a.pool) (is_some_work (first_awake S rs a.pool) v) a.phase) → IfSome o (λ a. a.pool ≡ high - 1 → IsGoing (may_burn S rs (high - 1)) a.phase)
      of_run None is_heading = tt
      of_run (Some a) is_heading = λ here.
          let one = subst (λ (p : ℕ). IsHeading (is_unbound S p) (is_some_work (first_awake S rs p) v) a.phase) here is_heading in
          let two = subst (λ (b : Bool). IsHeading b (is_some_work (first_awake S rs (high - 1)) v) a.phase) normal_bound one in
          let three = subst (λ (o : Option ℕ). IsHeading false (is_some_work o v) a.phase) head two in
          behind_goes (may_burn S rs (high - 1)) a.phase (subst (λ (b : Bool). IsHeading false b a.phase) (not_head v other) three)

  pub paced_going : (pool : ℕ) → GoIn S rs pool ⊎ IsBeside S high pool → GoIn S changed pool
  paced_going pool sum = subst (λ (xs : List (Option Run)). GoIn S xs pool) (sym changed_is) (elim (cases_eq pool (high - 1)) [
    | inl here ↦
        subst (λ (p : ℕ). GoIn S (set rs w (Some new_run)) p) (sym here)
        (swap_go S rs w the_head.q new_run swap (high - 1) others_normal
        (λ is. subst (λ (b : Bool). IsGoing b (paced may time the_head.q.phase)) may_is (paced_goes may time the_head.q.phase)))
    | inr elsewhere ↦
        swap_go S rs w the_head.q new_run swap pool (λ v other. going_of sum elsewhere v) (λ is. absurd (elsewhere (sym is ∙ the_head.pool)))
  ])
    where
      going_of : GoIn S rs pool ⊎ IsBeside S high pool → pool ≢ high - 1 → GoIn S rs pool
      going_of (inl going) elsewhere = going
      going_of (inr beside) elsewhere = absurd (elsewhere (let next = beside.next in omega (arith, next)))
