-- Of one queue's works in one pool each active one was queued before each inactive one.
use Rattle.std.proofs.Common.{◌≡◌, ℕ, ◌<◌, ◌≤◌, Bool, true, false, ◌&&◌, length, Option, Some, None, arith, refl, sym, ap, ◌∙◌, subst, inl, inr, ◌⊎◌}
use Rattle.std.proofs.lemmas.Bool.{cases_eq, eqb-true, eq-eqb, ltb-false, and_from}
use Rattle.std.specs.Prelude.{◌==◌}
use Rattle.cmwq_types.specs.Contents.{ScenarioContents}
use Rattle.cmwq_types.specs.First.{IsFirst, MatchFirst}
use Rattle.cmwq_types.specs.Scenario.{queue_of}
use Rattle.cmwq_types.specs.declared.reply.Place.{Place}
use Rattle.cmwq_types.specs.declared.reply.Place.TheVariants.{Timer, Inactive, Listed, Deferred}
use Rattle.cmwq_table.specs.declared.state.Pending.{Pending}
use Rattle.cmwq_table.specs.declared.state.Running.{Running}
use Rattle.cmwq_table.specs.State.{State, pending_at, running_at}
use Rattle.cmwq_table.specs.Counts.{active, limit, has_room, is_active, is_inactive, pends, pending_before, pending_stamp}
use Rattle.cmwq_table.specs.Laws.{waits_for_room}
use Rattle.cmwq_table.specs.Moves.{fill}
use Rattle.cmwq_table.proofs.LawLemmas.Changes.{Kind, Change, Follows}
use Rattle.cmwq_table.proofs.LawLemmas.Fills.{first-is_first, waits, waits-in_range}
use Rattle.cmwq_table.proofs.LawLemmas.Instances.{Change-next, Follows-next}
use Rattle.cmwq_table.proofs.LawLemmas.Levels.{room-below}
use Rattle.cmwq_table.proofs.LawLemmas.Room.{AreFull, Change-full, Follows-full}
use Rattle.cmwq_table.proofs.LawLemmas.Sound.{IsSound, Fits, FitsIfPending, Change-sound, Follows-sound}

-- what a work pends and runs as has an active, or an inactive instance of this birth in the pool

abbrev pub PendsActiveAt : ℕ → Option Pending → ℕ → Type 0
PendsActiveAt pool (Some p) born = (is_active p.place pool ≡ true) × (p.born ≡ born)
PendsActiveAt pool None born = ⊥

abbrev pub RanAt : ℕ → Option Running → ℕ → Type 0
RanAt pool (Some r) born = (r.pool ≡ pool) × (r.born ≡ born)
RanAt pool None born = ⊥

abbrev pub HasActiveAt : ℕ → Option Pending → Option Running → ℕ → Type 0
HasActiveAt pool p r born = PendsActiveAt pool p born ⊎ RanAt pool r born

abbrev pub HasInactiveAt : ℕ → Option Pending → ℕ → Type 0
HasInactiveAt pool (Some p) born = (is_inactive p.place pool ≡ true) × (p.born ≡ born)
HasInactiveAt pool None born = ⊥

-- each active instance was queued before each inactive one of its queue in its pool
abbrev pub IsInPoolOrder : ScenarioContents → State → Type 0
IsInPoolOrder S s =
    (v w pool born later : ℕ) → queue_of S w ≡ queue_of S v → HasActiveAt pool (pending_at s v) (running_at s v) born
    → HasInactiveAt pool (pending_at s w) later → born < later

-- what waits in a pool waited there before, or was born since
abbrev pub WaitsSince : State → State → Type 0
WaitsSince s t = (w pool born : ℕ) → HasInactiveAt pool (pending_at t w) born → HasInactiveAt pool (pending_at s w) born ⊎ (s.next ≤ born)

pub waits-then : (s t u : State) → s.next ≤ t.next → WaitsSince s t → WaitsSince t u → WaitsSince s u
waits-then s t u later first second w pool born inactive =
    elim (second w pool born inactive) [
      | inl before ↦ first w pool born before
      | inr above ↦ inr (omega arith)
    ]

-- what a change makes of the active and the inactive instances of its work in a pool
data Orders (S : ScenarioContents) (s : State) (w pool : ℕ) (a : Option Pending) (b : Option Running) (c : Option Pending) (d : Option Running) : Type 0 where
  quiet : ((born : ℕ) → HasActiveAt pool c d born → HasActiveAt pool a b born) → ((later : ℕ) → HasInactiveAt pool c later → HasInactiveAt pool a later ⊎ (later ≡ s.next)) → Orders S s w pool a b c d
  opens : ((later : ℕ) → HasInactiveAt pool c later → ⊥)
      → ((born : ℕ) → HasActiveAt pool c d born → HasActiveAt pool a b born ⊎ ((x later : ℕ) → (x ≡ w → ⊥) → queue_of S x ≡ queue_of S w → HasInactiveAt pool (pending_at s x) later → born < later))
      → Orders S s w pool a b c d

waits-in : (pool later : ℕ) (o : Option Pending) → HasInactiveAt pool o later → pends (λ place. is_inactive place pool) o ≡ true
waits-in pool later (Some p) inactive = inactive.0
waits-in pool later None inactive = absurd inactive

waits-somewhere : (place : Place) (pool : ℕ) → is_inactive place pool ≡ true → waits_for_room place ≡ true
waits-somewhere (Inactive at) pool e = refl
waits-somewhere (Timer due cpu) pool e = cc
waits-somewhere (Listed at) pool e = cc
waits-somewhere (Deferred at) pool e = cc

-- the stamp of an inactive work is its birth
stamp-born : (S : ScenarioContents) (next x pool later : ℕ) (r : Option Running) (o : Option Pending) → FitsIfPending S next x r o → HasInactiveAt pool o later
    → pending_stamp o ≡ later
stamp-born S next x pool later r (Some p) fits inactive = fits.stamp (waits-somewhere p.place pool inactive.0) ∙ inactive.1
stamp-born S next x pool later r None fits inactive = absurd inactive

born-of : (pool later : ℕ) (o : Option Pending) → HasInactiveAt pool o later → (p : Pending) × (o ≡ Some p) × (p.born ≡ later)
born-of pool later (Some p) inactive = (p, refl, inactive.1)
born-of pool later None inactive = absurd inactive

-- the first inactive work was born before another one of its queue in the pool
first-born : (S : ScenarioContents) (s : State) (w pool born stamp : ℕ) → IsSound S s
    → pending_at s w ≡ Some (record { born = born; stamp = stamp; place = Inactive pool })
    → IsFirst (pending_before s) (λ v. (queue_of S v == queue_of S w) && waits s v pool) (length S.works) w → (x later : ℕ) → (x ≡ w → ⊥)
    → queue_of S x ≡ queue_of S w → HasInactiveAt pool (pending_at s x) later → born < later
first-born S s w pool born stamp sound is first x later ne of_queue inactive =
    let fits : Fits S s.next w (Some (record { born = born; stamp = stamp; place = Inactive pool })) (running_at s w) = subst (λ (o : Option Pending). Fits S s.next w o (running_at s w)) is (sound.works w) in
    let stamped : stamp ≡ born = fits.pending.stamp refl in
    let waiting : waits s x pool ≡ true = waits-in pool later (pending_at s x) inactive in
    let there : x < length S.works = waits-in_range S s x (λ place. is_inactive place pool) sound.long waiting in
    let passes : ((queue_of S x == queue_of S w) && waits s x pool) ≡ true = and_from (queue_of S x == queue_of S w) (waits s x pool) (eq-eqb (queue_of S x) (queue_of S w) of_queue) waiting in
    let least : pending_stamp (pending_at s w) ≤ pending_stamp (pending_at s x) = ltb-false (pending_stamp (pending_at s x)) (pending_stamp (pending_at s w)) (first.least x there passes) in
    let mine : pending_stamp (pending_at s w) ≡ stamp = ap pending_stamp is in
    let other : pending_stamp (pending_at s x) ≡ later = stamp-born S s.next x pool later (running_at s x) (pending_at s x) (sound.works x).pending inactive in
    let found = born-of pool later (pending_at s x) inactive in
    elim (cases_eq born later) [
      | inl same ↦ absurd (ne (sound.apart x w found.0 (record { born = born; stamp = stamp; place = Inactive pool }) found.1 is (found.2 ∙ sym same)))
      | inr differ ↦ omega arith
    ]

-- where the queue is full, none waits beside room
none-waits : (S : ScenarioContents) (s : State) (w at pool : ℕ) → AreFull S s → has_room S s (queue_of S w) at ≡ true → (at == pool) ≡ true → (x later : ℕ)
    → queue_of S x ≡ queue_of S w → HasInactiveAt pool (pending_at s x) later → ⊥
none-waits S s w at pool are_full room in_pool x later of_queue inactive =
    let there : has_room S s (queue_of S w) pool ≡ true = ap (λ (a : ℕ). has_room S s (queue_of S w) a) (sym (eqb-true at pool in_pool)) ∙ room in
    let level : limit S s (queue_of S w) ≤ active S s (queue_of S w) pool = are_full (queue_of S w) pool x of_queue (waits-in pool later (pending_at s x) inactive) in
    let below : active S s (queue_of S w) pool < limit S s (queue_of S w) = room-below S s (queue_of S w) pool there in
    omega arith

moves-on : (pool : ℕ) (p : Option Pending) (r q : Running) → q.born ≡ r.born → q.pool ≡ r.pool → (born : ℕ) → HasActiveAt pool p (Some q) born → HasActiveAt pool p (Some r) born
moves-on pool p r q e at born (inl pends) = inl pends
moves-on pool p r q e at born (inr ran) = inr (sym at ∙ ran.0, sym e ∙ ran.1)

Kind-order : (S : ScenarioContents) (places wakes : Bool) (s : State) (w : ℕ) (left : Option ℕ) (a : Option Pending) (b : Option Running) (c : Option Pending) (d : Option Running) (n pool : ℕ)
    → IsSound S s → (places ≡ true → AreFull S s) → pending_at s w ≡ a → Fits S s.next w a b
    → Kind S places wakes s w left a b c d n → Orders S s w pool a b c d
Kind-order S places wakes s w left a b c d n pool sound are_full is fits (Kind.placed r at e pool_fits with_run room enabled) =
    Orders.opens (λ later h. cc) (λ born h. elim h [
      | inl pends ↦ inr (λ x later ne of_queue inactive. absurd (none-waits S s w at pool (are_full e) room pends.0 x later of_queue inactive))
      | inr ran ↦ inl (inr ran)
    ])
Kind-order S places wakes s w left a b c d n pool sound are_full is fits (Kind.put_off r at may_place pool_fits with_run room enabled) =
    Orders.quiet (λ born h. elim h [ inl pends ↦ absurd cc | inr ran ↦ inr ran ]) (λ later h. inr (sym h.1))
Kind-order S places wakes s w left a b c d n pool sound are_full is fits (Kind.timed r due cpu may_place h enabled) =
    Orders.quiet (λ born h. elim h [ inl pends ↦ absurd cc | inr ran ↦ inr ran ]) (λ later h. cc)
Kind-order S places wakes s w left a b c d n pool sound are_full is fits (Kind.untimed born stamp r due cpu) =
    Orders.quiet (λ born h. elim h [ inl pends ↦ absurd pends | inr ran ↦ inr ran ]) (λ later h. absurd h)
Kind-order S places wakes s w left a b c d n pool sound are_full is fits (Kind.taken_inactive born stamp r at) =
    Orders.quiet (λ born h. elim h [ inl pends ↦ absurd pends | inr ran ↦ inr ran ]) (λ later h. absurd h)
Kind-order S places wakes s w left a b c d n pool sound are_full is fits (Kind.taken_listed born stamp r at) =
    Orders.quiet (λ born h. elim h [ inl pends ↦ absurd pends | inr ran ↦ inr ran ]) (λ later h. absurd h)
Kind-order S places wakes s w left a b c d n pool sound are_full is fits (Kind.taken_deferred born stamp r at) =
    Orders.quiet (λ born h. elim h [ inl pends ↦ absurd pends | inr ran ↦ inr ran ]) (λ later h. absurd h)
Kind-order S places wakes s w left a b c d n pool sound are_full is fits (Kind.activated born stamp r at room first) =
    let found : IsFirst (pending_before s) (λ v. (queue_of S v == queue_of S w) && waits s v at) (length S.works) w =
    subst (λ (o : Option ℕ). MatchFirst (pending_before s) (λ v. (queue_of S v == queue_of S w) && waits s v at) (length S.works) o) first (first-is_first S s (queue_of S w) at) in
    Orders.opens (λ later h. cc) (λ birth h. elim h [
      | inl pends ↦ inr (λ x later ne of_queue inactive.
          let there : HasInactiveAt at (pending_at s x) later = subst (λ (y : ℕ). HasInactiveAt y (pending_at s x) later) (sym (eqb-true at pool pends.0)) inactive in
          let before : born < later = first-born S s w at born stamp sound is found x later ne of_queue there in
          omega (arith, pends.1))
      | inr ran ↦ inl (inr ran)
    ])
Kind-order S places wakes s w left a b c d n pool sound are_full is fits (Kind.started born stamp at worker may free) =
    Orders.quiet (λ birth h. elim h [ inl pends ↦ absurd pends | inr ran ↦ inl (eq-eqb at pool ran.0, ran.1) ]) (λ later h. absurd h)
Kind-order S places wakes s w left a b c d n pool sound are_full is fits (Kind.deferred born stamp at r) =
    Orders.quiet (λ birth h. elim h [ inl pends ↦ inl pends | inr ran ↦ inr ran ]) (λ later h. cc)
Kind-order S places wakes s w left a b c d n pool sound are_full is fits (Kind.goes_on p r q same_born same_pool same_worker mode) =
    Orders.quiet (moves-on pool p r q same_born same_pool) (λ later h. inl h)
Kind-order S places wakes s w left a b c d n pool sound are_full is fits (Kind.woken p r q wake same_born same_pool same_worker) =
    Orders.quiet (moves-on pool p r q same_born same_pool) (λ later h. inl h)
Kind-order S places wakes s w left a b c d n pool sound are_full is fits (Kind.again born stamp at r run) =
    Orders.quiet (λ birth h. elim h [ inl pends ↦ absurd pends | inr ran ↦ inl (eq-eqb at pool (sym fits.pending.stands.1 ∙ ran.0), ran.1) ]) (λ later h. absurd h)
Kind-order S places wakes s w left a b c d n pool sound are_full is fits (Kind.retired p r next e later) =
    Orders.quiet (λ birth h. elim h [ inl pends ↦ inl pends | inr ran ↦ absurd ran ]) (λ later h. inl h)

-- births lie below the next stamp
pub active-below : (S : ScenarioContents) (next w pool born : ℕ) (p : Option Pending) (r : Option Running) → Fits S next w p r → HasActiveAt pool p r born → born < next
active-below S next w pool born (Some p) r fits (inl pends) = omega (arith, fits.pending.born, pends.1)
active-below S next w pool born None r fits (inl pends) = absurd pends
active-below S next w pool born p (Some r) fits (inr ran) = omega (arith, fits.running.born, ran.1)
active-below S next w pool born p None fits (inr ran) = absurd ran

module _ (S : ScenarioContents) (places wakes : Bool) (left : Option ℕ) (s t : State) (w : ℕ) (sound : IsSound S s) (are_full : places ≡ true → AreFull S s) (in_order : IsInPoolOrder S s) (change : Change S places wakes left s t w) where
  active-else : (v pool born : ℕ) → (v ≡ w → ⊥) → HasActiveAt pool (pending_at t v) (running_at t v) born → HasActiveAt pool (pending_at s v) (running_at s v) born
  active-else v pool born ne h = rw (change.alters.pending_else v ne, change.alters.running_else v ne) at h

  inactive-else : (v pool later : ℕ) → (v ≡ w → ⊥) → HasInactiveAt pool (pending_at t v) later → HasInactiveAt pool (pending_at s v) later
  inactive-else v pool later ne h = rw (change.alters.pending_else v ne) at h

  -- the changed work is v, or x, or both
  order-here : (pool born : ℕ) → Orders S s w pool (pending_at s w) (running_at s w) change.p change.r → (x later : ℕ) → (x ≡ w → ⊥)
      → queue_of S x ≡ queue_of S w → HasActiveAt pool change.p change.r born → HasInactiveAt pool (pending_at s x) later → born < later
  order-here pool born (quiet actives inactives) x later ne of_queue act inactive = in_order w x pool born later of_queue (actives born act) inactive
  order-here pool born (opens no_inactive actives) x later ne of_queue act inactive =
      elim (actives born act) [
        | inl before ↦ in_order w x pool born later of_queue before inactive
        | inr comes_first ↦ comes_first x later ne of_queue inactive
      ]

  order-there : (v pool born later : ℕ) → Orders S s w pool (pending_at s w) (running_at s w) change.p change.r → queue_of S w ≡ queue_of S v
      → HasActiveAt pool (pending_at s v) (running_at s v) born → HasInactiveAt pool change.p later → born < later
  order-there v pool born later (quiet actives inactives) of_queue act inactive =
      elim (inactives later inactive) [
        | inl before ↦ in_order v w pool born later of_queue act before
        | inr fresh ↦ (let below : born < s.next = active-below S s.next v pool born (pending_at s v) (running_at s v) (sound.works v) act in omega arith)
      ]
  order-there v pool born later (opens no_inactive actives) of_queue act inactive = absurd (no_inactive later inactive)

  order-itself : (pool born later : ℕ) → Orders S s w pool (pending_at s w) (running_at s w) change.p change.r → HasActiveAt pool change.p change.r born
      → HasInactiveAt pool change.p later → born < later
  order-itself pool born later (quiet actives inactives) act inactive = order-there w pool born later (quiet actives inactives) refl (actives born act) inactive
  order-itself pool born later (opens no_inactive actives) act inactive = absurd (no_inactive later inactive)

  orders : (pool : ℕ) → Orders S s w pool (pending_at s w) (running_at s w) change.p change.r
  orders pool = Kind-order S places wakes s w left (pending_at s w) (running_at s w) change.p change.r t.next pool sound are_full refl (sound.works w) change.kind

  active-now : (v pool born : ℕ) → v ≡ w → HasActiveAt pool (pending_at t v) (running_at t v) born → HasActiveAt pool change.p change.r born
  active-now v pool born e h =
      let there : HasActiveAt pool (pending_at t w) (running_at t w) born = subst (λ (k : ℕ). HasActiveAt pool (pending_at t k) (running_at t k) born) e h in
      rw (change.alters.pending_here, change.alters.running_here) at there

  inactive-now : (v pool later : ℕ) → v ≡ w → HasInactiveAt pool (pending_at t v) later → HasInactiveAt pool change.p later
  inactive-now v pool later e h =
      let there : HasInactiveAt pool (pending_at t w) later = subst (λ (k : ℕ). HasInactiveAt pool (pending_at t k) later) e h in
      rw (change.alters.pending_here) at there

  waits-now : (pool later : ℕ) → Orders S s w pool (pending_at s w) (running_at s w) change.p change.r → HasInactiveAt pool change.p later
      → HasInactiveAt pool (pending_at s w) later ⊎ (s.next ≤ later)
  waits-now pool later (quiet actives inactives) inactive = elim (inactives later inactive) [ inl before ↦ inl before | inr fresh ↦ inr (omega arith) ]
  waits-now pool later (opens no_inactive actives) inactive = absurd (no_inactive later inactive)

  pub Change-waits : WaitsSince s t
  Change-waits x pool later inactive =
      elim (cases_eq x w) [
        | inl x_is ↦ elim (waits-now pool later (orders pool) (inactive-now x pool later x_is inactive)) [
          | inl before ↦ inl (subst (λ (k : ℕ). HasInactiveAt pool (pending_at s k) later) (sym x_is) before)
          | inr above ↦ inr above
        ]
        | inr x_ne ↦ inl (inactive-else x pool later x_ne inactive)
      ]

  pub Change-pool_order : IsInPoolOrder S t
  Change-pool_order v x pool born later of_queue act inactive =
      elim (cases_eq v w) [
        | inl v_is ↦ (let same_queue : queue_of S x ≡ queue_of S w = of_queue ∙ ap (queue_of S) v_is in
            elim (cases_eq x w) [
              | inl x_is ↦ order-itself pool born later (orders pool) (active-now v pool born v_is act) (inactive-now x pool later x_is inactive)
              | inr x_ne ↦ order-here pool born (orders pool) x later x_ne same_queue (active-now v pool born v_is act) (inactive-else x pool later x_ne inactive)
            ])
        | inr v_ne ↦ elim (cases_eq x w) [
          | inl x_is ↦ order-there v pool born later (orders pool) (ap (queue_of S) (sym x_is) ∙ of_queue) (active-else v pool born v_ne act) (inactive-now x pool later x_is inactive)
          | inr x_ne ↦ in_order v x pool born later of_queue (active-else v pool born v_ne act) (inactive-else x pool later x_ne inactive)
        ]
      ]

pub Follows-pool_order : (S : ScenarioContents) (places wakes : Bool) (s t : State) → Follows S places wakes s t → IsSound S s
    → (places ≡ true → AreFull S s) → IsInPoolOrder S s → IsInPoolOrder S t
Follows-pool_order S places wakes s t (Follows.stays pl wk a) sound are_full in_order = in_order
Follows-pool_order S places wakes s t (Follows.changes pl wk a b c w change rest) sound are_full in_order =
    Follows-pool_order S places wakes b t rest (Change-sound S places wakes None s b w change sound)
    (λ e queue pool. Change-full S places wakes None s b w queue pool sound (λ none of_queue. cc) change (are_full e queue pool))
    (Change-pool_order S places wakes None s b w sound are_full in_order change)
Follows-pool_order S places wakes s t (Follows.leaves pl wk a b c w at change filled rest) sound are_full in_order =
    let after = fill S (queue_of S w) at b in
    let sound_then : IsSound S b = Change-sound S places wakes (Some at) s b w change sound in
    let order_then : IsInPoolOrder S b = Change-pool_order S places wakes (Some at) s b w sound are_full in_order change in
    Follows-pool_order S places wakes after t rest (Follows-sound S false wakes b after filled sound_then)
    (λ e queue pool. Follows-full S places wakes s after queue pool (Follows.leaves places wakes s b after w at change filled (Follows.stays places wakes after)) sound (are_full e queue pool))
    (Follows-pool_order S false wakes b after filled sound_then (λ e. cc) order_then)

pub Follows-waits : (S : ScenarioContents) (places wakes : Bool) (s t : State) → Follows S places wakes s t → IsSound S s
    → (places ≡ true → AreFull S s) → IsInPoolOrder S s → WaitsSince s t
Follows-waits S places wakes s t (Follows.stays pl wk a) sound are_full in_order = λ w pool born inactive. inl inactive
Follows-waits S places wakes s t (Follows.changes pl wk a b c w change rest) sound are_full in_order =
    waits-then s b t (Change-next S places wakes None s b w change) (Change-waits S places wakes None s b w sound are_full in_order change)
    (Follows-waits S places wakes b t rest (Change-sound S places wakes None s b w change sound)
    (λ e queue pool. Change-full S places wakes None s b w queue pool sound (λ none of_queue. cc) change (are_full e queue pool))
    (Change-pool_order S places wakes None s b w sound are_full in_order change))
Follows-waits S places wakes s t (Follows.leaves pl wk a b c w at change filled rest) sound are_full in_order =
    let after = fill S (queue_of S w) at b in
    let sound_then : IsSound S b = Change-sound S places wakes (Some at) s b w change sound in
    let order_then : IsInPoolOrder S b = Change-pool_order S places wakes (Some at) s b w sound are_full in_order change in
    waits-then s b t (Change-next S places wakes (Some at) s b w change) (Change-waits S places wakes (Some at) s b w sound are_full in_order change)
    (waits-then b after t (Follows-next S false wakes b after filled) (Follows-waits S false wakes b after filled sound_then (λ e. cc) order_then)
    (Follows-waits S places wakes after t rest (Follows-sound S false wakes b after filled sound_then)
    (λ e queue pool. Follows-full S places wakes s after queue pool (Follows.leaves places wakes s b after w at change filled (Follows.stays places wakes after)) sound (are_full e queue pool))
    (Follows-pool_order S false wakes b after filled sound_then (λ e. cc) order_then)))
