-- States that are alike around a work: its instances have the same reasons, and it has the same text.
use Rattle.std.proofs.Common.{◌≡◌, ℕ, ◌+◌, Bool, true, false, not, ◌&&◌, List, [], ◌∷◌, ◌++◌, length, map, Option, codes, refl, ap, ◌∙◌, nat_lt}
use Rattle.std.proofs.lemmas.Bool.{and_parts}
use Rattle.std.specs.List.{flat_map}
use Rattle.std.specs.Prelude.{◌==◌}
use Rattle.cmwq_types.proofs.FirstLemmas.{count_below-agree}
use Rattle.cmwq_types.specs.Contents.{ScenarioContents}
use Rattle.cmwq_types.specs.First.{count_below}
use Rattle.cmwq_types.specs.Scenario.{flags_at, queue_of}
use Rattle.cmwq_types.specs.declared.reply.Place.{Place}
use Rattle.cmwq_types.specs.declared.reply.Place.TheVariants as place
use Rattle.cmwq_table.specs.declared.state.Pending.{Pending}
use Rattle.cmwq_table.specs.declared.state.Running.{Running}
use Rattle.cmwq_table.specs.State.{State, pending_at, running_at}
use Rattle.cmwq_table.specs.Counts.{active, is_active, is_deferred, is_inactive, is_listed, is_rescuer, is_runnable, pending_before, pending_stamp, pends, running_before, running_stamp, runs, runs_on_rescuer}
use Rattle.cmwq_reasons.specs.declared.reason.Instance.{Instance}
use Rattle.cmwq_reasons.specs.Reasons.{ahead, counted_works, deferred_holders, holders, listed_holders, pending_half, pending_holders, pending_works, running_half, running_holders, running_works, works_on_pool_workers, works_on_rescuer, works_on_workers}
use Rattle.cmwq_why_text.specs.WhyText.{item, items, later_item, name_of, place_words, run_words}
use Rattle.cmwq_why_laws.proofs.AgreeLemmas.{AllPass, all-agrees, all-pass}
use Rattle.cmwq_why_laws.proofs.PoolLemmas.{IsOfPlaces, IsOfRuns, SamePool, and-agrees, by_key, listed-in, pends-agree, pends-same, runs-agree, runs-same}

-- the same works of the queue run on its rescuer, in the same way
pub record SameRescuer (S : ScenarioContents) (s t : State) (queue : ℕ) : Type 0 where
  pub same : (v : ℕ) → ((queue_of S v == queue) && runs_on_rescuer t v) ≡ ((queue_of S v == queue) && runs_on_rescuer s v)
  pub runs : (v : ℕ) → ((queue_of S v == queue) && runs_on_rescuer t v) ≡ true → running_at t v ≡ running_at s v

-- Instances that do the same.

abbrev SameItems : ScenarioContents → State → State → List Instance → Type 0
SameItems S s t [] = Unit {0}
SameItems S s t (x ∷ xs) = (item S t x ≡ item S s x) × SameItems S s t xs

module _ (S : ScenarioContents) (s t : State) where
  later-same : (xs : List Instance) → SameItems S s t xs → flat_map (later_item S t) xs ≡ flat_map (later_item S s) xs
  later-same [] same = refl
  later-same (x ∷ xs) same =
      ap (λ (text : List ℕ). (codes ", " ++ text) ++ flat_map (later_item S t) xs) same.0 ∙ ap (λ (text : List ℕ). later_item S s x ++ text) (later-same xs same.1)

  items-same : (xs : List Instance) → SameItems S s t xs → items S t xs ≡ items S s xs
  items-same [] same = refl
  items-same (x ∷ xs) same =
      ap (λ (text : List ℕ). codes ": " ++ text ++ flat_map (later_item S t) xs) same.0 ∙ ap (λ (text : List ℕ). codes ": " ++ item S s x ++ text) (later-same xs same.1)

  both-items : (xs ys : List Instance) → SameItems S s t xs → SameItems S s t ys → SameItems S s t (xs ++ ys)
  both-items [] ys first last = last
  both-items (x ∷ xs) ys first last = (first.0, both-items xs ys first.1 last)

  run-items : (test : ℕ → Bool) → ((v : ℕ) → test v ≡ true → running_at t v ≡ running_at s v) → (works : List ℕ) → AllPass test works → SameItems S s t (map running_half works)
  run-items test same [] all = tt
  run-items test same (v ∷ works) all = (ap (λ (r : Option Running). name_of S v ++ run_words r) (same v all.0), run-items test same works all.1)

  pend-items : (test : ℕ → Bool) → ((v : ℕ) → test v ≡ true → pending_at t v ≡ pending_at s v) → (works : List ℕ) → AllPass test works → SameItems S s t (map pending_half works)
  pend-items test same [] all = tt
  pend-items test same (v ∷ works) all = (ap (λ (p : Option Pending). name_of S v ++ place_words p) (same v all.0), pend-items test same works all.1)

  -- Works that pass.

  run-works : (p q : ℕ → Bool) → ((v : ℕ) → p v ≡ q v) → ((v : ℕ) → p v ≡ true → running_at t v ≡ running_at s v) → running_works S t p ≡ running_works S s q
  run-works p q same runs =
      all-agrees (running_before t) (running_before s) p q (length S.works) same
      (by_key p (λ v. running_stamp (running_at t v)) (λ v. running_stamp (running_at s v)) (λ v passes. ap running_stamp (runs v passes)))

  pend-works : (p q : ℕ → Bool) → ((v : ℕ) → p v ≡ q v) → ((v : ℕ) → p v ≡ true → pending_at t v ≡ pending_at s v) → pending_works S t p ≡ pending_works S s q
  pend-works p q same pend =
      all-agrees (pending_before t) (pending_before s) p q (length S.works) same
      (by_key p (λ v. pending_stamp (pending_at t v)) (λ v. pending_stamp (pending_at s v)) (λ v passes. ap pending_stamp (pend v passes)))

  rescuer-works : (queue : ℕ) → SameRescuer S s t queue → works_on_rescuer S t queue ≡ works_on_rescuer S s queue
  rescuer-works queue same = run-works (λ v. (queue_of S v == queue) && runs_on_rescuer t v) (λ v. (queue_of S v == queue) && runs_on_rescuer s v) same.same same.runs

second : (a b : Bool) → (a && b) ≡ true → b ≡ true
second a b e = (and_parts a b e).1

inactive-in : (pool : ℕ) → IsOfPlaces pool (λ at. is_inactive at pool)
inactive-in pool (place.Inactive at) e = e
inactive-in pool (place.Timer due cpu) e = refl
inactive-in pool (place.Listed at) e = refl
inactive-in pool (place.Deferred at) e = refl

active-in : (pool : ℕ) → IsOfPlaces pool (λ at. is_active at pool)
active-in pool (place.Listed at) e = e
active-in pool (place.Deferred at) e = e
active-in pool (place.Timer due cpu) e = refl
active-in pool (place.Inactive at) e = refl

deferred-in : (pool : ℕ) → IsOfPlaces pool (λ at. is_deferred at && is_active at pool)
deferred-in pool (place.Deferred at) e = e
deferred-in pool (place.Listed at) e = refl
deferred-in pool (place.Timer due cpu) e = refl
deferred-in pool (place.Inactive at) e = refl

module _ (S : ScenarioContents) (s t : State) (pool : ℕ) (same : SamePool S s t pool) where
  -- Who is ahead.

  before-same : (test : Place → Bool) → IsOfPlaces pool test → (v w : ℕ) → pending_at t w ≡ pending_at s w → pends test (pending_at s v) ≡ true
      → pending_before t v w ≡ pending_before s v w
  before-same test inside v w mine passes =
      let other : pending_at t v ≡ pending_at s v = pends-same S s t pool same test inside v (pends-agree S s t pool same test inside v ∙ passes) in
      ap (λ (p : Option Pending). nat_lt (pending_stamp p) (pending_stamp (pending_at t w))) other ∙ ap (λ (p : Option Pending). nat_lt (pending_stamp (pending_at s v)) (pending_stamp p)) mine

  stands-same : (test : Place → Bool) → IsOfPlaces pool test → (w : ℕ) → pending_at t w ≡ pending_at s w → (v : ℕ)
      → (pends test (pending_at t v) && pending_before t v w) ≡ (pends test (pending_at s v) && pending_before s v w)
  stands-same test inside w mine v =
      and-agrees (pends test (pending_at t v)) (pends test (pending_at s v)) (pending_before t v w) (pending_before s v w) (pends-agree S s t pool same test inside v)
      (λ passes. before-same test inside v w mine passes)

  pub listed-ahead : (w : ℕ) → pending_at t w ≡ pending_at s w → ahead S t w (place.Listed pool) ≡ ahead S s w (place.Listed pool)
  listed-ahead w mine =
      let test = λ (at : Place). is_listed at pool in
      pend-works S s t (λ v. pends test (pending_at t v) && pending_before t v w) (λ v. pends test (pending_at s v) && pending_before s v w) (stands-same test (listed-in pool) w mine)
      (λ v passes. pends-same S s t pool same test (listed-in pool) v (and_parts (pends test (pending_at t v)) (pending_before t v w) passes).0)

  pub inactive-ahead : (w : ℕ) → pending_at t w ≡ pending_at s w → ahead S t w (place.Inactive pool) ≡ ahead S s w (place.Inactive pool)
  inactive-ahead w mine =
      let test = λ (at : Place). is_inactive at pool in
      pend-works S s t (λ v. (queue_of S v == queue_of S w) && (pends test (pending_at t v) && pending_before t v w))
      (λ v. (queue_of S v == queue_of S w) && (pends test (pending_at s v) && pending_before s v w))
      (λ v. ap (λ (b : Bool). (queue_of S v == queue_of S w) && b) (stands-same test (inactive-in pool) w mine v))
      (λ v passes. pends-same S s t pool same test (inactive-in pool) v
      (and_parts (pends test (pending_at t v)) (pending_before t v w) (second (queue_of S v == queue_of S w) (pends test (pending_at t v) && pending_before t v w) passes)).0)

  -- Who holds its queue's places.

  module _ (queue : ℕ) where
    runs-of : (r : Running) → (r.pool == pool) ≡ false → (r.pool == pool) ≡ false
    runs-of r e = e

    run-holds : (v : ℕ) → ((queue_of S v == queue) && runs (λ r. r.pool == pool) (running_at t v)) ≡ true → running_at t v ≡ running_at s v
    run-holds v passes = runs-same S s t pool same (λ r. r.pool == pool) runs-of v (second (queue_of S v == queue) (runs (λ r. r.pool == pool) (running_at t v)) passes)

    pend-holds : (test : Place → Bool) → IsOfPlaces pool test → (v : ℕ) → ((queue_of S v == queue) && pends test (pending_at t v)) ≡ true → pending_at t v ≡ pending_at s v
    pend-holds test inside v passes = pends-same S s t pool same test inside v (second (queue_of S v == queue) (pends test (pending_at t v)) passes)

    running-same : running_holders S t queue pool ≡ running_holders S s queue pool
    running-same =
        ap (λ (works : List ℕ). map running_half works)
        (run-works S s t (λ v. (queue_of S v == queue) && runs (λ r. r.pool == pool) (running_at t v)) (λ v. (queue_of S v == queue) && runs (λ r. r.pool == pool) (running_at s v))
        (λ v. ap (λ (b : Bool). (queue_of S v == queue) && b) (runs-agree S s t pool same (λ r. r.pool == pool) runs-of v)) run-holds)

    pending-same : (test : Place → Bool) → IsOfPlaces pool test
        → map pending_half (pending_works S t (λ v. (queue_of S v == queue) && pends test (pending_at t v))) ≡ map pending_half (pending_works S s (λ v. (queue_of S v == queue) && pends test (pending_at s v)))
    pending-same test inside =
        ap (λ (works : List ℕ). map pending_half works)
        (pend-works S s t (λ v. (queue_of S v == queue) && pends test (pending_at t v)) (λ v. (queue_of S v == queue) && pends test (pending_at s v))
        (λ v. ap (λ (b : Bool). (queue_of S v == queue) && b) (pends-agree S s t pool same test inside v)) (pend-holds test inside))

    holders-same : holders S t queue pool ≡ holders S s queue pool
    holders-same =
        ap (λ (xs : List Instance). xs ++ pending_holders S t queue pool) running-same
        ∙ ap (λ (xs : List Instance). running_holders S s queue pool ++ (xs ++ listed_holders S t queue pool)) (pending-same (λ at. is_deferred at && is_active at pool) (deferred-in pool))
        ∙ ap (λ (xs : List Instance). running_holders S s queue pool ++ (deferred_holders S s queue pool ++ xs)) (pending-same (λ at. is_listed at pool) (listed-in pool))

    pending-items : (test : Place → Bool) → IsOfPlaces pool test → SameItems S s t (map pending_half (pending_works S t (λ v. (queue_of S v == queue) && pends test (pending_at t v))))
    pending-items test inside =
        let passes = λ (v : ℕ). (queue_of S v == queue) && pends test (pending_at t v) in
        pend-items S s t passes (pend-holds test inside) (pending_works S t passes) (all-pass (pending_before t) passes (length S.works))

    holder-items : SameItems S s t (holders S t queue pool)
    holder-items =
        let passes = λ (v : ℕ). (queue_of S v == queue) && runs (λ r. r.pool == pool) (running_at t v) in
        both-items S s t (running_holders S t queue pool) (pending_holders S t queue pool)
        (run-items S s t passes run-holds (running_works S t passes) (all-pass (running_before t) passes (length S.works)))
        (both-items S s t (deferred_holders S t queue pool) (listed_holders S t queue pool) (pending-items (λ at. is_deferred at && is_active at pool) (deferred-in pool))
        (pending-items (λ at. is_listed at pool) (listed-in pool)))

    pub active-same : active S t queue pool ≡ active S s queue pool
    active-same =
        ap (λ (n : ℕ). n + count_below (λ w. (queue_of S w == queue) && runs (λ r. r.pool == pool) (running_at t w)) (length S.works))
        (count_below-agree (λ w. (queue_of S w == queue) && pends (λ at. is_active at pool) (pending_at t w)) (λ w. (queue_of S w == queue) && pends (λ at. is_active at pool) (pending_at s w)) (length S.works)
        (λ k less. ap (λ (b : Bool). (queue_of S k == queue) && b) (pends-agree S s t pool same (λ at. is_active at pool) (active-in pool) k)))
        ∙ ap (λ (n : ℕ). count_below (λ w. (queue_of S w == queue) && pends (λ at. is_active at pool) (pending_at s w)) (length S.works) + n)
        (count_below-agree (λ w. (queue_of S w == queue) && runs (λ r. r.pool == pool) (running_at t w)) (λ w. (queue_of S w == queue) && runs (λ r. r.pool == pool) (running_at s w)) (length S.works)
        (λ k less. ap (λ (b : Bool). (queue_of S k == queue) && b) (runs-agree S s t pool same (λ r. r.pool == pool) runs-of k)))

    pub holder-text : items S t (holders S t queue pool) ≡ items S s (holders S s queue pool)
    holder-text = items-same S s t (holders S t queue pool) holder-items ∙ ap (λ (xs : List Instance). items S s xs) holders-same

    -- Who has the workers.

    worker-test : (r : Running) → (r.pool == pool) ≡ false → ((r.pool == pool) && not (is_rescuer r.worker)) ≡ false
    worker-test r e = ap (λ (b : Bool). b && not (is_rescuer r.worker)) e

    on_pool-same : works_on_pool_workers S t pool ≡ works_on_pool_workers S s pool
    on_pool-same =
        let test = λ (r : Running). (r.pool == pool) && not (is_rescuer r.worker) in
        run-works S s t (λ v. runs test (running_at t v)) (λ v. runs test (running_at s v)) (runs-agree S s t pool same test worker-test) (runs-same S s t pool same test worker-test)

    workers-same : SameRescuer S s t queue → works_on_workers S t queue pool ≡ works_on_workers S s queue pool
    workers-same rescuer =
        ap (λ (works : List ℕ). works ++ works_on_rescuer S t queue) on_pool-same ∙ ap (λ (works : List ℕ). works_on_pool_workers S s pool ++ works) (rescuer-works S s t queue rescuer)

    worker-items : SameRescuer S s t queue → SameItems S s t (map running_half (works_on_workers S t queue pool))
    worker-items rescuer =
        let test = λ (r : Running). (r.pool == pool) && not (is_rescuer r.worker) in
        let on_pool = λ (v : ℕ). runs test (running_at t v) in
        let on_rescuer = λ (v : ℕ). (queue_of S v == queue) && runs_on_rescuer t v in
        map-items (works_on_pool_workers S t pool) (works_on_rescuer S t queue)
        (run-items S s t on_pool (runs-same S s t pool same test worker-test) (works_on_pool_workers S t pool) (all-pass (running_before t) on_pool (length S.works)))
        (run-items S s t on_rescuer rescuer.runs (works_on_rescuer S t queue) (all-pass (running_before t) on_rescuer (length S.works)))
      where
        map-items : (vs ws : List ℕ) → SameItems S s t (map running_half vs) → SameItems S s t (map running_half ws) → SameItems S s t (map running_half (vs ++ ws))
        map-items [] ws first last = last
        map-items (v ∷ vs) ws first last = (first.0, map-items vs ws first.1 last)

    pub worker-text : SameRescuer S s t queue → items S t (map running_half (works_on_workers S t queue pool)) ≡ items S s (map running_half (works_on_workers S s queue pool))
    worker-text rescuer =
        items-same S s t (map running_half (works_on_workers S t queue pool)) (worker-items rescuer)
        ∙ ap (λ (works : List ℕ). items S s (map running_half works)) (workers-same rescuer)

  pub counted-same : counted_works S t pool ≡ counted_works S s pool
  counted-same =
      let test = λ (r : Running). (r.pool == pool) && is_runnable r.mode in
      let inside : IsOfRuns pool test = λ r e. ap (λ (b : Bool). b && is_runnable r.mode) e in
      run-works S s t (λ v. runs test (running_at t v) && not (flags_at S (queue_of S v)).cpu_intensive) (λ v. runs test (running_at s v) && not (flags_at S (queue_of S v)).cpu_intensive)
      (λ v. ap (λ (b : Bool). b && not (flags_at S (queue_of S v)).cpu_intensive) (runs-agree S s t pool same test inside v))
      (λ v passes. runs-same S s t pool same test inside v (and_parts (runs test (running_at t v)) (not (flags_at S (queue_of S v)).cpu_intensive) passes).0)
