-- No change brings back an instance that was born before.
use Rattle.std.proofs.Common.{◌≡◌, ℕ, ◌≤◌, Bool, true, false, ◌||◌, Option, Some, None, arith, refl, sym, ap, ◌∙◌, inl, inr}
use Rattle.std.proofs.lemmas.Bool.{cases_eq, or_cases, or_left, or_right}
use Rattle.cmwq_types.specs.Contents.{ScenarioContents}
use Rattle.cmwq_types.specs.Scenario.{queue_of}
use Rattle.cmwq_table.specs.declared.state.Pending.{Pending}
use Rattle.cmwq_table.specs.declared.state.Running.{Running}
use Rattle.cmwq_table.specs.State.{State, pending_at, running_at}
use Rattle.cmwq_table.specs.Counts.{has_instance, placed_born, runs}
use Rattle.cmwq_table.specs.Moves.{fill}
use Rattle.cmwq_table.proofs.LawLemmas.Changes.{Kind, Change, Follows}
use Rattle.cmwq_table.proofs.LawLemmas.Sound.{Kind-next}

-- what a work pends and runs as has an instance whose birth passes
abbrev pub instance_of : (ℕ → Bool) → Option Pending → Option Running → Bool
instance_of test p r = placed_born test p || runs (λ r. test r.born) r

-- the test passes no birth from here on
abbrev pub IsOnEarlier : ℕ → (ℕ → Bool) → Type 0
IsOnEarlier next test = (born : ℕ) → next ≤ born → test born ≡ false

right-of : (x y : Bool) → x ≡ false → (x || y) ≡ true → y ≡ true
right-of x y e h = elim (or_cases x y h) [ inl left ↦ cc | inr right ↦ right ]

left-of : (x y : Bool) → y ≡ false → (x || y) ≡ true → x ≡ true
left-of x y e h = elim (or_cases x y h) [ inl left ↦ left | inr right ↦ cc ]

born-same : (test : ℕ → Bool) (p : Option Pending) (r q : Running) → q.born ≡ r.born → instance_of test p (Some q) ≡ true → instance_of test p (Some r) ≡ true
born-same test p r q e h = ap (λ (born : ℕ). placed_born test p || test born) (sym e) ∙ h

Kind-instance : (S : ScenarioContents) (places wakes : Bool) (s : State) (w : ℕ) (left : Option ℕ) (a : Option Pending) (b : Option Running) (c : Option Pending) (d : Option Running) (n : ℕ) (test : ℕ → Bool)
    → IsOnEarlier s.next test → Kind S places wakes s w left a b c d n → instance_of test c d ≡ true → instance_of test a b ≡ true
Kind-instance S places wakes s w left a b c d n test early (Kind.placed r at e fits with_run room enabled) h = right-of (test s.next) (runs (λ r. test r.born) r) (early s.next (omega arith)) h
Kind-instance S places wakes s w left a b c d n test early (Kind.put_off r at may_place fits with_run room enabled) h = right-of (test s.next) (runs (λ r. test r.born) r) (early s.next (omega arith)) h
Kind-instance S places wakes s w left a b c d n test early (Kind.timed r due cpu may_place in_range enabled) h = h
Kind-instance S places wakes s w left a b c d n test early (Kind.untimed born stamp r due cpu) h = h
Kind-instance S places wakes s w left a b c d n test early (Kind.taken_inactive born stamp r at) h = or_right (test born) (runs (λ r. test r.born) r) h
Kind-instance S places wakes s w left a b c d n test early (Kind.taken_listed born stamp r at) h = or_right (test born) (runs (λ r. test r.born) r) h
Kind-instance S places wakes s w left a b c d n test early (Kind.taken_deferred born stamp r at) h = or_right (test born) (runs (λ r. test r.born) r) h
Kind-instance S places wakes s w left a b c d n test early (Kind.activated born stamp r at room first) h = h
Kind-instance S places wakes s w left a b c d n test early (Kind.started born stamp at worker may free) h = or_left (test born) false h
Kind-instance S places wakes s w left a b c d n test early (Kind.deferred born stamp at r) h = h
Kind-instance S places wakes s w left a b c d n test early (Kind.goes_on p r q same_born same_pool same_worker mode) h = born-same test p r q same_born h
Kind-instance S places wakes s w left a b c d n test early (Kind.woken p r q wake same_born same_pool same_worker) h = born-same test p r q same_born h
Kind-instance S places wakes s w left a b c d n test early (Kind.again born stamp at r run) h = or_left (test born) (test r.born) h
Kind-instance S places wakes s w left a b c d n test early (Kind.retired p r next e later) h = or_left (placed_born test p) (test r.born) (left-of (placed_born test p) false refl h)

-- what has an instance on a test of earlier births then, had one before
abbrev pub BringsNoneBack : State → State → Type 0
BringsNoneBack s t = (w : ℕ) (test : ℕ → Bool) → IsOnEarlier s.next test → has_instance t w test ≡ true → has_instance s w test ≡ true

pub Change-instances : (S : ScenarioContents) (places wakes : Bool) (left : Option ℕ) (s t : State) (w : ℕ) → Change S places wakes left s t w → BringsNoneBack s t
Change-instances S places wakes left s t w change v test early h =
    elim (cases_eq v w) [
      | inl v_is ↦ (let there : has_instance t w test ≡ true = ap (λ (k : ℕ). has_instance t k test) (sym v_is) ∙ h in
          let here : instance_of test change.p change.r ≡ true = rw (change.alters.pending_here, change.alters.running_here) at there in
          let before : has_instance s w test ≡ true = Kind-instance S places wakes s w left (pending_at s w) (running_at s w) change.p change.r t.next test early change.kind here in
          ap (λ (k : ℕ). has_instance s k test) v_is ∙ before)
      | inr v_ne ↦ rw (change.alters.pending_else v v_ne, change.alters.running_else v v_ne) at h
    ]

pub Change-next : (S : ScenarioContents) (places wakes : Bool) (left : Option ℕ) (s t : State) (w : ℕ) → Change S places wakes left s t w → s.next ≤ t.next
Change-next S places wakes left s t w change = Kind-next S places wakes s w left (pending_at s w) (running_at s w) change.p change.r t.next change.kind

pub Follows-next : (S : ScenarioContents) (places wakes : Bool) (s t : State) → Follows S places wakes s t → s.next ≤ t.next
Follows-next S places wakes s t (Follows.stays pl wk a) = omega arith
Follows-next S places wakes s t (Follows.changes pl wk a b c w change rest) =
    let here : s.next ≤ b.next = Change-next S places wakes None s b w change in
    let there : b.next ≤ t.next = Follows-next S places wakes b t rest in
    omega arith
Follows-next S places wakes s t (Follows.leaves pl wk a b c w at change filled rest) =
    let after = fill S (queue_of S w) at b in
    let here : s.next ≤ b.next = Change-next S places wakes (Some at) s b w change in
    let middle : b.next ≤ after.next = Follows-next S false wakes b after filled in
    let there : after.next ≤ t.next = Follows-next S places wakes after t rest in
    omega arith

none-then : (s t u : State) → s.next ≤ t.next → BringsNoneBack s t → BringsNoneBack t u → BringsNoneBack s u
none-then s t u later first second w test early h = first w test early (second w test (λ born above. early born (omega arith)) h)

pub Follows-instances : (S : ScenarioContents) (places wakes : Bool) (s t : State) → Follows S places wakes s t → BringsNoneBack s t
Follows-instances S places wakes s t (Follows.stays pl wk a) = λ w test early h. h
Follows-instances S places wakes s t (Follows.changes pl wk a b c w change rest) =
    none-then s b t (Change-next S places wakes None s b w change) (Change-instances S places wakes None s b w change) (Follows-instances S places wakes b t rest)
Follows-instances S places wakes s t (Follows.leaves pl wk a b c w at change filled rest) =
    let after = fill S (queue_of S w) at b in
    let here : s.next ≤ b.next = Change-next S places wakes (Some at) s b w change in
    let middle : b.next ≤ after.next = Follows-next S false wakes b after filled in
    none-then s after t (omega arith)
    (none-then s b after here (Change-instances S places wakes (Some at) s b w change) (Follows-instances S false wakes b after filled))
    (Follows-instances S places wakes after t rest)

-- a chain of changes gives no flush, and takes no time
pub Follows-flushes : (S : ScenarioContents) (places wakes : Bool) (s t : State) → Follows S places wakes s t → t.flushes ≡ s.flushes
Follows-flushes S places wakes s t (Follows.stays pl wk a) = refl
Follows-flushes S places wakes s t (Follows.changes pl wk a b c w change rest) = Follows-flushes S places wakes b t rest ∙ change.alters.flushes
Follows-flushes S places wakes s t (Follows.leaves pl wk a b c w at change filled rest) =
    let after = fill S (queue_of S w) at b in
    Follows-flushes S places wakes after t rest ∙ (Follows-flushes S false wakes b after filled ∙ change.alters.flushes)

pub Follows-time : (S : ScenarioContents) (places wakes : Bool) (s t : State) → Follows S places wakes s t → t.time ≡ s.time
Follows-time S places wakes s t (Follows.stays pl wk a) = refl
Follows-time S places wakes s t (Follows.changes pl wk a b c w change rest) = Follows-time S places wakes b t rest ∙ change.alters.time
Follows-time S places wakes s t (Follows.leaves pl wk a b c w at change filled rest) =
    let after = fill S (queue_of S w) at b in
    Follows-time S places wakes after t rest ∙ (Follows-time S false wakes b after filled ∙ change.alters.time)
