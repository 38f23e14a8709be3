-- What a change of one work leaves of the heads of pools.
use Rattle.std.proofs.Common.{◌≡◌, ◌≢◌, ◌⊎◌, ℕ, zero, suc, ◌+◌, ◌<◌, Bool, true, false, ◌&&◌, ◌||◌, ◌==◌, List, length, replicate, set, Option, Some, None, IfSome, arith, refl, sym, ap, subst, ◌∙◌, inl, inr}
use Rattle.std.specs.Prelude.{is_none, nat_lt}
use Rattle.std.proofs.lemmas.Bool.{cases_eq}
use Rattle.std.proofs.lemmas.Bool.Decides.{nat_tests}
use Rattle.std.proofs.lemmas.List.{get_or-set_same, get_or-set_other, length-replicate}
use Rattle.cmwq_types.specs.Contents.{ScenarioContents}
use Rattle.cmwq_types.specs.First.{by_least, IsFirst}
use Rattle.cmwq_types.specs.Scenario.{is_high, is_unbound}
use Rattle.cmwq_types.proofs.FirstLemmas.{by_least-order}
use Rattle.cmwq_table.specs.Counts.{is_some_work}
use Rattle.cmwq_phased.specs.PhasedContents.{HaveOwnStamps, PhasedContents}
use Rattle.cmwq_phased.specs.Phases.{IsTimely}
use Rattle.cmwq_phased.specs.Runs.{is_awake, run_at, run_stamp, with_run}
use Rattle.cmwq_phased.specs.declared.run.Phase.{Phase}
use Rattle.cmwq_phased.specs.declared.run.Phase.TheVariants.{Ready, Held, Burning, Asleep, Slept}
use Rattle.cmwq_phased.specs.declared.run.Run.{Run}
use Rattle.cmwq_running.specs.Heads.{AreKept, ComesLast, GoIn, HaveHeads, IfBeside, IsBeside, IsGoing, IsHeading, IsStill, first_awake, may_burn}
use Rattle.cmwq_running.proofs.AlikeLemmas.{first_alike, first_is, first_of, none_alike}

-- the runnable of a pool
abbrev pub in_pool : ℕ → Option Run → Bool
in_pool pool = with_run (λ r. (r.pool == pool) && is_awake r.phase)

pub at_other : (rs : List (Option Run)) (w v : ℕ) (r : Option Run) → v ≢ w → run_at (set rs w r) v ≡ run_at rs v
at_other rs w v r other = get_or-set_other rs w v r None other

pub at_changed : (rs : List (Option Run)) (w : ℕ) (r : Option Run) → w < length rs → run_at (set rs w r) w ≡ r
at_changed rs w r within = get_or-set_same rs w r None within

-- a work runs otherwise under its stamp, runnable as before in the same pool
pub record IsSwap (rs : List (Option Run)) (w : ℕ) (q r : Run) : Type 0 where
  pub within : w < length rs
  pub was : run_at rs w ≡ Some q
  pub stamp : r.stamp ≡ q.stamp
  pub pool : r.pool ≡ q.pool
  pub awake : is_awake r.phase ≡ is_awake q.phase

module _ (S : ScenarioContents) (rs : List (Option Run)) (w : ℕ) (q r : Run) (swap : IsSwap rs w q r) where
  -- what is read of each work by a word that can't tell the two apart
  swap_alike : (A : Type 0) (f : Option Run → A) → f (Some r) ≡ f (Some q) → (v : ℕ) → f (run_at (set rs w (Some r)) v) ≡ f (run_at rs v)
  swap_alike A f same v = elim (cases_eq v w) [
    | inl here ↦ subst (λ (k : ℕ). f (run_at (set rs w (Some r)) k) ≡ f (run_at rs k)) (sym here) (ap f (at_changed rs w (Some r) swap.within) ∙ same ∙ sym (ap f swap.was))
    | inr other ↦ ap f (at_other rs w v (Some r) other)
  ]

  -- each pool has its head still
  pub swap_heads : (pool : ℕ) → first_awake S (set rs w (Some r)) pool ≡ first_awake S rs pool
  swap_heads pool =
      let tests = swap_alike Bool (in_pool pool) (ap (λ (p : ℕ). (p == pool) && is_awake r.phase) swap.pool ∙ ap (λ (b : Bool). (q.pool == pool) && b) swap.awake) in
      let stamps = swap_alike ℕ run_stamp swap.stamp in
      first_alike (by_least (λ v. run_stamp (run_at (set rs w (Some r)) v))) (by_least (λ v. run_stamp (run_at rs v))) (λ v. in_pool pool (run_at (set rs w (Some r)) v)) (λ v. in_pool pool (run_at rs v)) (length S.works)
      (by_least-order (λ v. run_stamp (run_at (set rs w (Some r)) v))) tests
      (λ a b p p'. ap (λ (x : ℕ). nat_lt x (run_stamp (run_at (set rs w (Some r)) b))) (stamps a) ∙ ap (λ (x : ℕ). nat_lt (run_stamp (run_at rs a)) x) (stamps b))

  pub swap_may : (pool : ℕ) → may_burn S (set rs w (Some r)) pool ≡ may_burn S rs pool
  swap_may pool = ap (λ (o : Option ℕ). is_unbound S pool || (is_high pool || is_none o)) (swap_heads (pool + 1))

  -- who has ticks left is a head still
  pub swap_have_heads : HaveHeads S rs → IsHeading (is_unbound S r.pool) (is_some_work (first_awake S rs r.pool) w) r.phase → HaveHeads S (set rs w (Some r))
  swap_have_heads heads heading v = elim (cases_eq v w) [
    | inl here ↦
        subst (λ (k : ℕ). IfSome (run_at (set rs w (Some r)) k) (λ a. IsHeading (is_unbound S a.pool) (is_some_work (first_awake S (set rs w (Some r)) a.pool) k) a.phase)) (sym here)
        (subst (λ (o : Option Run). IfSome o (λ a. IsHeading (is_unbound S a.pool) (is_some_work (first_awake S (set rs w (Some r)) a.pool) w) a.phase)) (sym (at_changed rs w (Some r) swap.within))
        (subst (λ (o : Option ℕ). IsHeading (is_unbound S r.pool) (is_some_work o w) r.phase) (sym (swap_heads r.pool)) heading))
    | inr other ↦
        subst (λ (o : Option Run). IfSome o (λ a. IsHeading (is_unbound S a.pool) (is_some_work (first_awake S (set rs w (Some r)) a.pool) v) a.phase)) (sym (at_other rs w v (Some r) other))
        (of_run (run_at rs v) (heads v))
  ]
    where
      of_run : (o : Option Run) → IfSome o (λ a. IsHeading (is_unbound S a.pool) (is_some_work (first_awake S rs a.pool) v) a.phase) → IfSome o (λ a. IsHeading (is_unbound S a.pool) (is_some_work (first_awake S (set rs w (Some r)) a.pool) v) a.phase)
      of_run None head = tt
      of_run (Some a) head = subst (λ (o : Option ℕ). IsHeading (is_unbound S a.pool) (is_some_work o v) a.phase) (sym (swap_heads a.pool)) head

  -- all others of a pool burn just where they may
  abbrev pub OthersGo : ℕ → Type 0
  OthersGo pool = (v : ℕ) → v ≢ w → IfSome (run_at rs v) (λ a. a.pool ≡ pool → IsGoing (may_burn S rs pool) a.phase)

  pub swap_go : (pool : ℕ) → OthersGo pool → (r.pool ≡ pool → IsGoing (may_burn S rs pool) r.phase) → GoIn S (set rs w (Some r)) pool
  swap_go pool others going v = elim (cases_eq v w) [
    | inl here ↦
        subst (λ (k : ℕ). IfSome (run_at (set rs w (Some r)) k) (λ a. a.pool ≡ pool → IsGoing (may_burn S (set rs w (Some r)) pool) a.phase)) (sym here)
        (subst (λ (o : Option Run). IfSome o (λ a. a.pool ≡ pool → IsGoing (may_burn S (set rs w (Some r)) pool) a.phase)) (sym (at_changed rs w (Some r) swap.within))
        (subst (λ (b : Bool). r.pool ≡ pool → IsGoing b r.phase) (sym (swap_may pool)) going))
    | inr other ↦
        subst (λ (o : Option Run). IfSome o (λ a. a.pool ≡ pool → IsGoing (may_burn S (set rs w (Some r)) pool) a.phase)) (sym (at_other rs w v (Some r) other))
        (subst (λ (b : Bool). IfSome (run_at rs v) (λ a. a.pool ≡ pool → IsGoing b a.phase)) (sym (swap_may pool)) (others v other))
  ]

-- A work without ticks left comes or goes.

pub record IsChange (S : ScenarioContents) (rs : List (Option Run)) (w : ℕ) (new : Option Run) : Type 0 where
  pub within : w < length rs
  pub own : HaveOwnStamps rs
  pub still : IfSome new (λ r. IsStill r.phase)
  pub last : ComesLast rs w new

pub change_of : (S : ScenarioContents) (rs : List (Option Run)) (w : ℕ) (new : Option Run) → w < length S.works → length rs ≡ length S.works → HaveOwnStamps rs → IfSome new (λ r. IsStill r.phase) → ComesLast rs w new → IsChange S rs w new
change_of S rs w new within long own still last = record { within = (omega (arith, within, long)); own = own; still = still; last = last }

module _ (S : ScenarioContents) (rs : List (Option Run)) (w : ℕ) (new : Option Run) (change : IsChange S rs w new) where
  -- another work that is the head of its pool is so still
  pub stays_head : (v : ℕ) (q : Run) → v ≢ w → run_at rs v ≡ Some q → first_awake S rs q.pool ≡ Some v → first_awake S (set rs w new) q.pool ≡ Some v
  stays_head v q other at head =
      first_is (λ k. run_stamp (run_at (set rs w new) k)) (λ k. in_pool q.pool (run_at (set rs w new) k)) (length S.works) v first.in_range
      (ap (in_pool q.pool) (at_other rs w v new other) ∙ first.passes)
      (λ k lower apart passes.
      subst (λ (n : ℕ). n < run_stamp (run_at (set rs w new) k)) (sym (ap run_stamp (at_other rs w v new other) ∙ ap run_stamp at))
      (elim (cases_eq k w) [
        | inl here ↦
            subst (λ (j : ℕ). q.stamp < run_stamp (run_at (set rs w new) j)) (sym here)
            (subst (λ (o : Option Run). q.stamp < run_stamp o) (sym (at_changed rs w new change.within))
            (joined new change.last (sym (ap (in_pool q.pool) (ap (run_at (set rs w new)) here ∙ at_changed rs w new change.within)) ∙ passes)))
        | inr beside ↦
            subst (λ (o : Option Run). q.stamp < run_stamp o) (sym (at_other rs w k new beside))
            (stayed k apart (run_at rs k) refl (sym (ap (in_pool q.pool) (at_other rs w k new beside)) ∙ passes) (first.least k lower (sym (ap (in_pool q.pool) (at_other rs w k new beside)) ∙ passes)))
      ]))
    where
      first : IsFirst (by_least (λ k. run_stamp (run_at rs k))) (λ k. in_pool q.pool (run_at rs k)) (length S.works) v
      first = first_of (λ k. run_stamp (run_at rs k)) (λ k. in_pool q.pool (run_at rs k)) (length S.works) v head

      awake_of : (r : Run) → in_pool q.pool (Some r) ≡ true → is_awake r.phase ≡ true
      awake_of r passes = by_tests (r.pool == q.pool) passes
        where
          by_tests : (b : Bool) → (b && is_awake r.phase) ≡ true → is_awake r.phase ≡ true
          by_tests true both = both
          by_tests false both = absurd (cc)

      joined : (o : Option Run) → ComesLast rs w o → in_pool q.pool o ≡ true → q.stamp < run_stamp o
      joined None last passes = absurd (cc)
      joined (Some r) last passes = subst (λ (o : Option Run). IfSome o (λ a. a.stamp < r.stamp)) at (last (awake_of r passes) v other)

      stayed : (k : ℕ) → k ≢ v → (o : Option Run) → run_at rs k ≡ o → in_pool q.pool o ≡ true → nat_lt (run_stamp (run_at rs k)) (run_stamp (run_at rs v)) ≡ false → q.stamp < run_stamp o
      stayed k apart None is passes least = absurd (cc)
      stayed k apart (Some a) is passes least =
          let lower : nat_lt a.stamp q.stamp ≡ false = sym (ap (λ (o : Option Run). nat_lt (run_stamp o) (run_stamp (run_at rs v))) is ∙ ap (λ (o : Option Run). nat_lt a.stamp (run_stamp o)) at) ∙ least in
          elim (cases_eq a.stamp q.stamp) [
            | inl same ↦ absurd (apart (change.own k v a q is at same))
            | inr differs ↦ above lower differs
          ]
        where
          above : nat_lt a.stamp q.stamp ≡ false → a.stamp ≢ q.stamp → q.stamp < a.stamp
          above lower differs = grind (arith, nat_tests)

-- what says that the first is this work says which one it is
pub some_work : (o : Option ℕ) (w : ℕ) → is_some_work o w ≡ true → o ≡ Some w
some_work None w is = absurd (cc)
some_work (Some v) w is = (let same : v ≡ w = grind (arith, nat_tests) in ap Some same)

pub is_work : (w : ℕ) → is_some_work (Some w) w ≡ true
is_work w = grind (arith, nat_tests)

pub still_heading : (unbound head : Bool) (phase : Phase) → IsStill phase → IsHeading unbound head phase
still_heading unbound head Ready still = tt
still_heading unbound head (Held left) still = absurd still
still_heading unbound head (Burning end) still = absurd still
still_heading unbound head (Asleep until) still = tt
still_heading unbound head (Slept until) still = tt

pub still_going : (may : Bool) (phase : Phase) → IsStill phase → IsGoing may phase
still_going may Ready still = tt
still_going may (Held left) still = absurd still
still_going may (Burning end) still = absurd still
still_going may (Asleep until) still = tt
still_going may (Slept until) still = tt

-- a head that stays one keeps its ticks
heading_kept : (unbound head kept : Bool) (phase : Phase) → (is_awake phase ≡ true → head ≡ true → kept ≡ true) → IsHeading unbound head phase → IsHeading unbound kept phase
heading_kept unbound head kept Ready stays heading = tt
heading_kept unbound head kept (Held left) stays heading = (heading.0, stays refl heading.1)
heading_kept true head kept (Burning end) stays heading = refl
heading_kept false head kept (Burning end) stays heading = stays refl heading
heading_kept unbound head kept (Asleep until) stays heading = tt
heading_kept unbound head kept (Slept until) stays heading = tt

-- Pools beside which nothing changes.

-- a bound normal pool has a bound high one beside it
beside_next : (S : ScenarioContents) (pool other : ℕ) → is_unbound S pool ≡ false → is_high pool ≡ false → pool + 1 ≡ other → IsBeside S other pool
beside_next S pool other bound normal next = record {
  bound = grind (arith, nat_tests);
  high = grind (arith, nat_tests);
  next = next;
}

-- a run in another pool isn't among the runnable of this one
not_in_pool : (pool : ℕ) (r : Run) → r.pool ≢ pool → in_pool pool (Some r) ≡ false
not_in_pool pool r other = (let apart : (r.pool == pool) ≡ false = grind (arith, nat_tests) in ap (λ (b : Bool). b && is_awake r.phase) apart)

module _ (S : ScenarioContents) (rs : List (Option Run)) (w : ℕ) (new : Option Run) (change : IsChange S rs w new) where
  -- who has ticks left is a head still
  pub change_have_heads : HaveHeads S rs → HaveHeads S (set rs w new)
  change_have_heads heads v = elim (cases_eq v w) [
    | inl here ↦
        subst (λ (o : Option Run). IfSome o (λ a. IsHeading (is_unbound S a.pool) (is_some_work (first_awake S (set rs w new) a.pool) v) a.phase)) (sym (ap (run_at (set rs w new)) here ∙ at_changed rs w new change.within))
        (of_new new change.still)
    | inr other ↦
        subst (λ (o : Option Run). IfSome o (λ a. IsHeading (is_unbound S a.pool) (is_some_work (first_awake S (set rs w new) a.pool) v) a.phase)) (sym (at_other rs w v new other))
        (of_run other (run_at rs v) refl (heads v))
  ]
    where
      of_new : (o : Option Run) → IfSome o (λ r. IsStill r.phase) → IfSome o (λ a. IsHeading (is_unbound S a.pool) (is_some_work (first_awake S (set rs w new) a.pool) v) a.phase)
      of_new None still = tt
      of_new (Some r) still = still_heading (is_unbound S r.pool) (is_some_work (first_awake S (set rs w new) r.pool) v) r.phase still

      of_run : v ≢ w → (o : Option Run) → run_at rs v ≡ o → IfSome o (λ a. IsHeading (is_unbound S a.pool) (is_some_work (first_awake S rs a.pool) v) a.phase)
          → IfSome o (λ a. IsHeading (is_unbound S a.pool) (is_some_work (first_awake S (set rs w new) a.pool) v) a.phase)
      of_run other None at heading = tt
      of_run other (Some a) at heading =
          heading_kept (is_unbound S a.pool) (is_some_work (first_awake S rs a.pool) v) (is_some_work (first_awake S (set rs w new) a.pool) v) a.phase
          (λ awake head. ap (λ (o : Option ℕ). is_some_work o v) (stays_head S rs w new change v a other at (some_work (first_awake S rs a.pool) v head)) ∙ is_work v)
          heading

  -- whether heads may burn changes in a pool alone that is beside that of the work, as it ran or as it runs
  may_stays : (pool : ℕ) → (may_burn S (set rs w new) pool ≡ may_burn S rs pool) ⊎ (IfBeside S (run_at rs w) pool ⊎ IfBeside S new pool)
  may_stays pool = by_kind (is_unbound S pool) refl (is_high pool) refl
    where
      is_apart : Option Run → Type 0
      is_apart o = in_pool (pool + 1) o ≡ false

      beside : is_unbound S pool ≡ false → is_high pool ≡ false → (o : Option Run) → (in_pool (pool + 1) o ≡ false) ⊎ IfBeside S o pool
      beside bound normal None = inl refl
      beside bound normal (Some r) = elim (cases_eq r.pool (pool + 1)) [
        | inl same ↦ inr (beside_next S pool r.pool bound normal (sym same))
        | inr other ↦ inl (not_in_pool (pool + 1) r other)
      ]

      apart : in_pool (pool + 1) (run_at rs w) ≡ false → in_pool (pool + 1) new ≡ false → is_none (first_awake S (set rs w new) (pool + 1)) ≡ is_none (first_awake S rs (pool + 1))
      apart was is =
          none_alike (by_least (λ v. run_stamp (run_at (set rs w new) v))) (by_least (λ v. run_stamp (run_at rs v))) (λ v. in_pool (pool + 1) (run_at (set rs w new) v)) (λ v. in_pool (pool + 1) (run_at rs v)) (length S.works)
          (λ v. elim (cases_eq v w) [
            | inl here ↦
                subst (λ (k : ℕ). in_pool (pool + 1) (run_at (set rs w new) k) ≡ in_pool (pool + 1) (run_at rs k)) (sym here)
                (ap (in_pool (pool + 1)) (at_changed rs w new change.within) ∙ is ∙ sym was)
            | inr other ↦ ap (in_pool (pool + 1)) (at_other rs w v new other)
          ])

      by_kind : (b : Bool) → is_unbound S pool ≡ b → (c : Bool) → is_high pool ≡ c
          → (may_burn S (set rs w new) pool ≡ may_burn S rs pool) ⊎ (IfBeside S (run_at rs w) pool ⊎ IfBeside S new pool)
      by_kind true unbound c is = inl (rw unbound refl)
      by_kind false bound true high = inl (rw (bound, high) refl)
      by_kind false bound false normal = elim (beside bound normal (run_at rs w)) [
        | inr old ↦ inr (inl old)
        | inl was ↦
            elim (beside bound normal new) [
              | inr now ↦ inr (inr now)
              | inl is ↦ inl (ap (λ (b : Bool). is_unbound S pool || (is_high pool || b)) (apart was is))
            ]
      ]

  -- in all other pools heads burn as they may
  pub change_go : (pool : ℕ) → GoIn S rs pool → GoIn S (set rs w new) pool ⊎ (IfBeside S (run_at rs w) pool ⊎ IfBeside S new pool)
  change_go pool going = elim (may_stays pool) [
    | inr beside ↦ inr beside
    | inl same ↦ inl (λ v. elim (cases_eq v w) [
      | inl here ↦
          subst (λ (o : Option Run). IfSome o (λ a. a.pool ≡ pool → IsGoing (may_burn S (set rs w new) pool) a.phase)) (sym (ap (run_at (set rs w new)) here ∙ at_changed rs w new change.within))
          (of_new new change.still)
      | inr other ↦
          subst (λ (o : Option Run). IfSome o (λ a. a.pool ≡ pool → IsGoing (may_burn S (set rs w new) pool) a.phase)) (sym (at_other rs w v new other))
          (subst (λ (b : Bool). IfSome (run_at rs v) (λ a. a.pool ≡ pool → IsGoing b a.phase)) (sym same) (going v))
    ])
  ]
    where
      of_new : (o : Option Run) → IfSome o (λ r. IsStill r.phase) → IfSome o (λ a. a.pool ≡ pool → IsGoing (may_burn S (set rs w new) pool) a.phase)
      of_new None still = tt
      of_new (Some r) still = λ is. still_going (may_burn S (set rs w new) pool) r.phase still

-- Where the pools of the work, as it ran and as it runs, are this one if any, that beside it is balanced once.
pub balanced : (S : ScenarioContents) (rs : List (Option Run)) (w : ℕ) (new : Option Run) (high : ℕ) (changed one : PhasedContents)
    → IsChange S rs w new → changed ≡ record { scenario = S; runs = set rs w new }
    → ((pool : ℕ) → IfBeside S (run_at rs w) pool → IsBeside S high pool) → ((pool : ℕ) → IfBeside S new pool → IsBeside S high pool)
    → ((pool : ℕ) → GoIn S rs pool)
    → ((pool : ℕ) → GoIn changed.scenario changed.runs pool ⊎ IsBeside changed.scenario high pool → GoIn one.scenario one.runs pool)
    → (pool : ℕ) → GoIn one.scenario one.runs pool
balanced S rs w new high changed one change is was now going balance pool =
    balance pool (elim (change_go S rs w new change pool (going pool)) [
      | inl goes ↦ inl (subst (λ (m : PhasedContents). GoIn m.scenario m.runs pool) (sym is) goes)
      | inr beside ↦ inr (subst (λ (m : PhasedContents). IsBeside m.scenario high pool) (sym is) (elim beside [
        | inl then ↦ was pool then
        | inr later ↦ now pool later
      ]))
    ])

-- The pool beside that of a work that ran so is that beside its own, and beside that of one that didn't run there is none.
pub beside_ran : (S : ScenarioContents) (o : Option Run) (was : Run) (pool : ℕ) → o ≡ Some was → IfBeside S o pool → IsBeside S was.pool pool
beside_ran S o was pool at beside = subst (λ (o : Option Run). IfBeside S o pool) at beside

pub beside_none : (S : ScenarioContents) (o : Option Run) (high pool : ℕ) → o ≡ None → IfBeside S o pool → IsBeside S high pool
beside_none S o high pool none beside = absurd (subst (λ (o : Option Run). IfBeside S o pool) none beside)

-- Where none runs.

none_at : (n w : ℕ) → run_at (replicate n None) w ≡ None
none_at zero w = refl
none_at (suc n) zero = refl
none_at (suc n) (suc w) = none_at n w

pub none_kept : (works : PhasedContents) → works.runs ≡ replicate (length works.scenario.works) None → AreKept 0 works
none_kept works idle = record {
  early = (omega arith);
  timely = λ w. subst (λ (o : Option Run). IfSome o (λ r. IsTimely 0 r.phase)) (sym (none w)) tt;
  headed = record {
    long = ap length idle ∙ length-replicate {A = Option Run} (length works.scenario.works) None;
    heads = λ w. subst (λ (o : Option Run). IfSome o (λ r. IsHeading (is_unbound works.scenario r.pool) (is_some_work (first_awake works.scenario works.runs r.pool) w) r.phase)) (sym (none w)) tt;
    going = λ pool w. subst (λ (o : Option Run). IfSome o (λ r. r.pool ≡ pool → IsGoing (may_burn works.scenario works.runs pool) r.phase)) (sym (none w)) tt;
  };
}
  where
    none : (w : ℕ) → run_at works.runs w ≡ None
    none w = ap (λ (rs : List (Option Run)). run_at rs w) idle ∙ none_at (length works.scenario.works) w
